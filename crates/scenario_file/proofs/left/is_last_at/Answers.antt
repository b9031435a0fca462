use Rattle.std.proofs.Common.{sym}
use Rattle.std.proofs.lemmas.List.{get_or-set_other}
use Rattle.scenario_file.proofs.left.is_last_at.Goals as goal

pub returns-then-left-place-le1-clause-others : goal.returns-then-left-place-le1-clause-others
returns-then-left-place-le1-clause-others c = λ other apart. sym (get_or-set_other c.args.left.now c.args.place other _ 0 apart)

pub returns-clause-others : goal.returns-clause-others
returns-clause-others c = λ other apart. sym (get_or-set_other c.args.left.now c.args.place other _ 0 apart)

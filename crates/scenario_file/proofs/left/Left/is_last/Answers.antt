use Rattle.std.proofs.Common.{map, nat_lt, string_bytes, sym, ap}
use Rattle.scenario_file.proofs.Leaving.{count-other}
use Rattle.scenario_file.proofs.left.Left.is_last.Goals as goal

pub returns-in-Some-clause-others : goal.returns-in-Some-clause-others
returns-in-Some-clause-others c = λ other apart.
    let left = c.args.self.now in
    ap (nat_lt 0) (count-other (map string_bytes left.names.items) left.counts c.is_last_at.new.left c.args.name.now other c.in-Some.place (sym c.in-Some.ensures) c.is_last_at.ensures.others apart)

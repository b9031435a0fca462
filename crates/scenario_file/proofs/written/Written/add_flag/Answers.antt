use Rattle.scenario_file.specs.Growing.{written}
use Rattle.scenario_file.proofs.InputTexts.{flag-true, flag-false}
use Rattle.scenario_file.proofs.written.Written.add_flag.Goals as goal

pub returns-in_ok-add : goal.returns-in_ok-add
returns-in_ok-add c = flag-true (written c.args.self.now) _ c.args.flag c.if-flag.true c.in_ok-add.ensures

pub returns-in_ok-add-2 : goal.returns-in_ok-add-2
returns-in_ok-add-2 c = flag-false (written c.args.self.now) _ c.args.flag c.if-flag.false c.in_ok-add-2.ensures

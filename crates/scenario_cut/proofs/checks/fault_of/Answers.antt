use Rattle.std.proofs.Common.{◌∙◌}
use Rattle.serde_json.specs.View.{view}
use Rattle.scenario_cut.specs.Around.{scenario_in}
use Rattle.scenario_cut.proofs.Checking.{head-refused, behind-refused, both-clean}
use Rattle.scenario_cut.proofs.checks.fault_of.Goals as goal

pub returns-in-Err : goal.returns-in-Err
returns-in-Err c = λ d reads kept. head-refused c.in-Err.fail (scenario_in c.args.around d) (view c.args.setup.now) kept c.in-Err.ensures.read

pub returns-in-Err-judge_behind : goal.returns-in-Err-judge_behind
returns-in-Err-judge_behind c = λ d reads kept.
    let head = c.in-Ok.ensures.read in
    let there = c.in-Err-judge_behind.ensures d reads kept in
    behind-refused c.in-Err-judge_behind.fail c.in-Ok.head (scenario_in c.args.around d) (view c.args.setup.now) kept head.0 head.1 there

pub returns-in-Ok-judge_behind : goal.returns-in-Ok-judge_behind
returns-in-Ok-judge_behind c = λ d reads kept.
    let head = c.in-Ok.ensures.read in
    let there = c.in-Ok-judge_behind.ensures d reads kept in
    let both = both-clean c.in-Ok.head (scenario_in c.args.around d) (view c.args.setup.now) kept head.0 head.1 there.0 in
    (both.0, there.1 ∙ both.1)

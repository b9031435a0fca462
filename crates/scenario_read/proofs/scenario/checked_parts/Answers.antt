use Rattle.serde_json.specs.View.{view}
use Rattle.scenario_read.proofs.Whole.{whole-faultless, tables-refused}
use Rattle.scenario_read.proofs.scenario.checked_parts.Goals as goal

pub returns-in-Ok : goal.returns-in-Ok
returns-in-Ok c =
    let d = view c.args.value.now in
    let read = c.in_ok-parts.ensures.read in
    (whole-faultless c.in_ok-parts.parts d read.1 read.0 c.in_ok-within_ticks.ensures.0 c.in-Ok.ensures.0, read.1)

pub returns-in-Err : goal.returns-in-Err
returns-in-Err c =
    let d = view c.args.value.now in
    let read = c.in_ok-parts.ensures.read in
    tables-refused c.in-Err.fail c.in_ok-parts.parts d read.1 read.0 c.in_ok-within_ticks.ensures.0 c.in-Err.ensures

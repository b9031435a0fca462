use Rattle.serde_json.specs.View.{view}
use Rattle.scenario_read.specs.Faults.{faults}
use Rattle.scenario_read.specs.Fields.{held}
use Rattle.scenario_checked.specs.Inside.{scenario}
use Rattle.band_report.proofs.FirstFaults.{name-refused, scenario-first}
use Rattle.band_report.proofs.Kept.{no-street, refused-first}
use Rattle.band_report.proofs.first.first_fault.Goals as goal

pub returns-in-Err : goal.returns-in-Err
returns-in-Err c = no-street c.args.bytes.now c.in-Err.fail c.in-Err.ensures.none

pub returns-in-Err-names_known : goal.returns-in-Err-names_known
returns-in-Err-names_known c =
    let kept = c.in-Ok.ensures.kept in
    let fail = c.in-Err-names_known.fail in
    refused-first c.args.bytes.now kept.0 fail kept.1 (name-refused fail kept.0 (view c.in-Ok.frame) kept.2 c.in-Err-names_known.ensures)

pub returns : goal.returns
returns c =
    let kept = c.in-Ok.ensures.kept in
    let d = kept.0 in
    let inner = c.in-Err-inner_fault.ensures.fault d kept.1 kept.2 in
    refused-first c.args.bytes.now d c.inner_fail.result kept.1
    (scenario-first c.inner_fail.result d (view c.in-Ok.frame) kept.2 c.in-Ok-names_known.ensures.0 (c.inner_fail.ensures (faults (held scenario d)) inner))

use Rattle.serde_json.specs.View.{view}
use Rattle.scenario_read.specs.Faults.{faults}
use Rattle.scenario_read.specs.Fields.{held}
use Rattle.scenario_checked.specs.Inside.{scenario}
use Rattle.field_read.proofs.FirstFaults.{name-refused, scenario-first, bank-first, pulses-first, respond-first}
use Rattle.field_read.proofs.Kept.{no-field}
use Rattle.field_read.proofs.WholeFields.{refused-first}
use Rattle.field_read.proofs.first.first_fault.Goals as goal

pub returns-in-Err : goal.returns-in-Err
returns-in-Err c = no-field c.args.bytes.now c.in-Err.fail c.in-Err.ensures.none

pub returns-in-Err-known_names : goal.returns-in-Err-known_names
returns-in-Err-known_names c =
    let kept = c.in-Ok.ensures.kept in
    let fail = c.in-Err-known_names.fail in
    refused-first c.args.bytes.now kept.0 fail kept.1 (name-refused fail kept.0 (view c.in-Ok.frame) kept.2 c.in-Err-known_names.ensures)

pub returns-in-Err-inner_fault : goal.returns-in-Err-inner_fault
returns-in-Err-inner_fault c =
    let kept = c.in-Ok.ensures.kept in
    let d = kept.0 in
    let inner = c.in-Err-inner_fault.ensures.fault d kept.1 kept.2 in
    refused-first c.args.bytes.now d c.inner_fail.result kept.1
    (scenario-first c.inner_fail.result d (view c.in-Ok.frame) kept.2 c.in-Ok-known_names.ensures.0 (c.inner_fail.ensures (faults (held scenario d)) inner))

pub returns-in-Err-bank_at : goal.returns-in-Err-bank_at
returns-in-Err-bank_at c =
    let kept = c.in-Ok.ensures.kept in
    let d = kept.0 in
    let fail = c.in-Err-bank_at.fail in
    let whole = c.in-Ok-inner_fault.ensures.none d kept.1 kept.2 in
    refused-first c.args.bytes.now d fail kept.1
    (bank-first fail d (view c.in-Ok.frame) c.in-Ok-inner_fault.extent kept.2 c.in-Ok-known_names.ensures.0 whole c.in-Err-bank_at.ensures)

pub returns-in-Err-judge_pulses : goal.returns-in-Err-judge_pulses
returns-in-Err-judge_pulses c =
    let kept = c.in-Ok.ensures.kept in
    let d = kept.0 in
    let fail = c.in-Err-judge_pulses.fail in
    let whole = c.in-Ok-inner_fault.ensures.none d kept.1 kept.2 in
    refused-first c.args.bytes.now d fail kept.1
    (pulses-first fail d (view c.in-Ok.frame) c.in-Ok-inner_fault.extent kept.2 c.in-Ok-known_names.ensures.0 whole c.in-Ok-bank_at.ensures.0 (c.in-Err-judge_pulses.ensures d kept.1))

pub returns : goal.returns
returns c =
    let kept = c.in-Ok.ensures.kept in
    let d = kept.0 in
    let fail = c.in-Err-respond_at.fail in
    let whole = c.in-Ok-inner_fault.ensures.none d kept.1 kept.2 in
    let pulses = c.in-Ok-judge_pulses.ensures d kept.1 in
    refused-first c.args.bytes.now d fail kept.1
    (respond-first fail d (view c.in-Ok.frame) c.in-Ok-inner_fault.extent kept.2 c.in-Ok-known_names.ensures.0 whole c.in-Ok-bank_at.ensures.0 pulses.0 c.in-Err-respond_at.ensures)

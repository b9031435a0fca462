use Rattle.scenario_read.proofs.Refusing.{refused-first}
use Rattle.scenario_cut.proofs.Right.{no-text}
use Rattle.scenario_cut.proofs.checks.first_fault.Goals as goal

pub returns-in-Err : goal.returns-in-Err
returns-in-Err c = no-text c.args.bytes.now c.in-Err.fail c.in-Err.ensures.none

pub returns : goal.returns
returns c =
    let kept = c.in-Ok.ensures.kept in
    let fail = c.in-Err-fault_of.fail in
    refused-first c.args.bytes.now kept.0 fail kept.1 (c.in-Err-fault_of.ensures kept.0 kept.1 kept.2)

use Rattle.std.proofs.Common.{length, arith}
use Rattle.field_read.specs.Checks.{step_fault}
use Rattle.field_read.proofs.Upto.{upto-next, upto-refused, upto-done}
use Rattle.field_read.proofs.across.steps_rise.Goals as goal

pub returns-in-Err : goal.returns-in-Err
returns-in-Err c =
    let l = c.loop-step in
    upto-refused c.in-Err.fail (step_fault c.args.section c.args.steps.now.items) l.step (length c.args.steps.now.items) (omega arith) l.invariant c.in-Err.ensures

pub loop-step-preserved : goal.loop-step-preserved
loop-step-preserved c =
    let l = c.loop-step in
    upto-next (step_fault c.args.section c.args.steps.now.items) l.step l.invariant c.in-Ok.ensures.0

pub returns : goal.returns
returns c =
    let l = c.loop-step in
    (upto-done (step_fault c.args.section c.args.steps.now.items) l.step (length c.args.steps.now.items) (omega arith) l.invariant, tt)

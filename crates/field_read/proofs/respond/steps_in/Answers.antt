use Rattle.std.proofs.Common.{arith}
use Rattle.scenario_read.specs.Fields.{object_of}
use Rattle.scenario_read.proofs.Walks.{Walked-refused}
use Rattle.field_read.specs.Table.{step_shape}
use Rattle.field_read.specs.Content.{step_of}
use Rattle.field_read.proofs.respond.steps_in.Goals as goal

pub returns-in-Err : goal.returns-in-Err
returns-in-Err c =
    let l = c.loop-step in
    Walked-refused (object_of step_shape) _ step_of c.args.items.now.items l.found.items l.step c.index.result.now c.in-Err.fail (omega arith)
    (rw (← c.index.ensures) c.in-Err.ensures) l.invariant

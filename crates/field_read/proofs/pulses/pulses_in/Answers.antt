use Rattle.std.proofs.Common.{arith}
use Rattle.scenario_read.specs.Fields.{object_of}
use Rattle.scenario_read.proofs.Walks.{Walked-refused}
use Rattle.field_read.specs.Table.{pulse_shape}
use Rattle.field_read.specs.Content.{pulse_of}
use Rattle.field_read.proofs.pulses.pulses_in.Goals as goal

pub returns-in-Err : goal.returns-in-Err
returns-in-Err c =
    let l = c.loop-place in
    Walked-refused (object_of (pulse_shape c.args.rounds c.args.cabinets)) _ (pulse_of c.args.rounds c.args.cabinets) c.args.items.now.items l.found.items l.place c.index.result.now c.in-Err.fail (omega arith)
    (rw (← c.index.ensures) c.in-Err.ensures) l.invariant

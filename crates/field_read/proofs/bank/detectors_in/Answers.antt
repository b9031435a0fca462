use Rattle.std.proofs.Common.{arith}
use Rattle.scenario_read.specs.Fields.{object_of}
use Rattle.scenario_read.proofs.Walks.{Walked-refused}
use Rattle.field_read.specs.Table.{detector_shape}
use Rattle.field_read.specs.Content.{detector_of}
use Rattle.field_read.proofs.bank.detectors_in.Goals as goal

pub returns-in-Err : goal.returns-in-Err
returns-in-Err c =
    let l = c.loop-place in
    Walked-refused (object_of (detector_shape c.args.cabinets)) _ (detector_of c.args.cabinets) c.args.items.now.items l.found.items l.place c.index.result.now c.in-Err.fail (omega arith)
    (rw (← c.index.ensures) c.in-Err.ensures) l.invariant

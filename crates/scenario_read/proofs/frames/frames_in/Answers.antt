use Rattle.std.proofs.Common.{map, arith}
use Rattle.scenario_data.specs.Content.{frame_content}
use Rattle.scenario_read.specs.Table.{frame_shape}
use Rattle.scenario_read.specs.Fields.{object_of}
use Rattle.scenario_read.specs.Content.{frame_of}
use Rattle.scenario_read.proofs.Walks.{Walked-refused}
use Rattle.scenario_read.proofs.frames.frames_in.Goals as goal

pub returns-in-Err : goal.returns-in-Err
returns-in-Err c =
    let l = c.loop-place in
    Walked-refused (object_of (frame_shape c.args.rounds c.args.cabinets)) _
    (frame_of c.args.rounds c.args.cabinets) c.args.items.now.items (map frame_content l.found.items) l.place c.index.result.now c.in-Err.fail (omega arith) (rw (← c.index.ensures) c.in-Err.ensures) l.invariant

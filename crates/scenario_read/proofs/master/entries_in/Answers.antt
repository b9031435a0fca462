use Rattle.std.proofs.Common.{arith}
use Rattle.scenario_read.specs.Table.{entry_shape}
use Rattle.scenario_read.specs.Fields.{object_of}
use Rattle.scenario_read.specs.Content.{entry_of}
use Rattle.scenario_read.proofs.Walks.{Walked-refused}
use Rattle.scenario_read.proofs.master.entries_in.Goals as goal

pub returns-in-Err : goal.returns-in-Err
returns-in-Err c =
    let l = c.loop-place in
    Walked-refused (object_of entry_shape) _
    entry_of c.args.items.now.items (l.found.items) l.place c.index.result.now c.in-Err.fail (omega arith) (rw (← c.index.ensures) c.in-Err.ensures) l.invariant

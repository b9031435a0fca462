use Rattle.std.proofs.Common.{arith}
use Rattle.scenario_read.specs.Table.{priority_item}
use Rattle.scenario_read.specs.Content.{priority_of}
use Rattle.scenario_read.proofs.Walks.{Walked-refused}
use Rattle.scenario_read.proofs.priority.items_in.Goals as goal

pub returns-in-Err : goal.returns-in-Err
returns-in-Err c =
    let l = c.loop-place in
    Walked-refused (priority_item c.args.rounds c.args.cabinets) _
    (priority_of c.args.rounds c.args.cabinets) c.args.items.now.items (l.found.items) l.place c.index.result.now c.in-Err.fail (omega arith) (rw (← c.index.ensures) c.in-Err.ensures) l.invariant

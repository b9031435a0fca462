use Rattle.std.proofs.Common.{map, arith}
use Rattle.scenario_data.specs.Content.{put_content}
use Rattle.scenario_read.specs.CellLists.{cell, cell_of}
use Rattle.scenario_read.proofs.Walks.{Walked-refused}
use Rattle.scenario_read.proofs.cells.cells_in.Goals as goal

pub returns-in-Err : goal.returns-in-Err
returns-in-Err c =
    let l = c.loop-cell in
    Walked-refused cell _ cell_of c.args.items.now.items (map put_content l.cells.items) l.cell c.index.result.now c.in-Err.fail (omega arith) (rw (← c.index.ensures) c.in-Err.ensures) l.invariant

use Rattle.std.proofs.Common.{map, arith}
use Rattle.scenario_data.specs.Content.{cabinet_content}
use Rattle.scenario_read.specs.Table.{cabinet}
use Rattle.scenario_read.specs.Content.{cabinet_of}
use Rattle.scenario_read.proofs.Walks.{Walked-refused}
use Rattle.scenario_read.proofs.cabinets.cabinets_in.Goals as goal

pub returns-in-Err-clause-read : goal.returns-in-Err-clause-read
returns-in-Err-clause-read c =
    let l = c.loop-place in
    Walked-refused (cabinet c.args.version) _ (cabinet_of c.args.version) c.args.items.now.items
    (map cabinet_content l.found.items) l.place c.index.result.now c.in-Err.fail (omega arith) (rw (← c.index.ensures) c.in-Err.ensures) l.invariant.0

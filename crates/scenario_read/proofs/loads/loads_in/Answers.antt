use Rattle.std.proofs.Common.{map, arith}
use Rattle.scenario_data.specs.Content.{load_content}
use Rattle.scenario_read.specs.Table.{load, load_cabinet}
use Rattle.scenario_read.specs.Content.{load_of}
use Rattle.scenario_read.specs.Readers.{load_cabinets}
use Rattle.scenario_read.proofs.Behind.{Behind-refused}
use Rattle.scenario_read.proofs.loads.loads_in.Goals as goal

pub returns-in-Err : goal.returns-in-Err
returns-in-Err c =
    let l = c.loop-place in
    Behind-refused (load c.args.rounds c.args.cabinets) (load_cabinet c.args.cabinets) _
    (load_of c.args.rounds c.args.cabinets) c.args.items.now.items (load_cabinets l.found.items) (map load_content l.found.items) l.place c.index.result.now c.in-Err.fail
    (omega arith) (rw (← c.index.ensures) c.in-Err.ensures) l.invariant

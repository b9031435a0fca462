use Rattle.std.proofs.Common.{map, codes}
use Rattle.scenario_data.specs.Content.{load_content}
use Rattle.scenario_read.specs.declared.place.Place.TheVariants.{Top}
use Rattle.scenario_read.specs.Paths.{then_named}
use Rattle.scenario_read.specs.Table.{load, load_cabinet}
use Rattle.scenario_read.specs.Content.{load_of}
use Rattle.scenario_read.specs.Readers.{steps_of, load_cabinets}
use Rattle.scenario_read.proofs.Behind.{WalkedBehind}
use Rattle.scenario_read.proofs.loads.loads_in.Given as goal

abbrev pub invariant-loop-place : goal.invariant-loop-place
invariant-loop-place l =
    WalkedBehind (load l.rounds l.cabinets) (load_cabinet l.cabinets) (then_named (steps_of Top) (codes "loads")) (load_of l.rounds l.cabinets)
    l.items.items (load_cabinets l.found.items) (map load_content l.found.items) l.place

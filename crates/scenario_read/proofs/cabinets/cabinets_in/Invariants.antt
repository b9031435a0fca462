use Rattle.std.proofs.Common.{◌≡◌, map, codes, length}
use Rattle.scenario_data.specs.Content.{cabinet_content}
use Rattle.scenario_read.specs.declared.place.Place.TheVariants.{Top}
use Rattle.scenario_read.specs.Paths.{then_named}
use Rattle.scenario_read.specs.Table.{cabinet}
use Rattle.scenario_read.specs.Content.{cabinet_of}
use Rattle.scenario_read.specs.Readers.{steps_of}
use Rattle.scenario_read.proofs.Walks.{Walked}
use Rattle.scenario_read.proofs.cabinets.cabinets_in.Given as goal

abbrev pub invariant-loop-place : goal.invariant-loop-place
invariant-loop-place l =
    Walked (cabinet l.version) (then_named (steps_of Top) (codes "cabinets")) (cabinet_of l.version) l.items.items (map cabinet_content l.found.items) l.place × (length l.found.items ≡ l.place)

use Rattle.std.proofs.Common.{codes}
use Rattle.scenario_read.specs.declared.place.Place.TheVariants.{Top}
use Rattle.scenario_read.specs.Paths.{then_named}
use Rattle.scenario_read.specs.Table.{priority_item}
use Rattle.scenario_read.specs.Content.{priority_of}
use Rattle.scenario_read.specs.Readers.{steps_of}
use Rattle.scenario_read.proofs.Walks.{Walked}
use Rattle.scenario_read.proofs.priority.items_in.Given as goal

abbrev pub invariant-loop-place : goal.invariant-loop-place
invariant-loop-place l =
    Walked (priority_item l.rounds l.cabinets) (then_named (steps_of Top) (codes "priority")) (priority_of l.rounds l.cabinets) l.items.items (l.found.items) l.place

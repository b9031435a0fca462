use Rattle.std.proofs.Common.{codes}
use Rattle.scenario_read.specs.declared.place.Place.TheVariants.{Master}
use Rattle.scenario_read.specs.Paths.{then_named}
use Rattle.scenario_read.specs.Fields.{object_of}
use Rattle.scenario_read.specs.Table.{entry_shape}
use Rattle.scenario_read.specs.Content.{entry_of}
use Rattle.scenario_read.specs.Readers.{steps_of}
use Rattle.scenario_read.proofs.Walks.{Walked}
use Rattle.scenario_read.proofs.master.entries_in.Given as goal

abbrev pub invariant-loop-place : goal.invariant-loop-place
invariant-loop-place l =
    Walked (object_of entry_shape) (then_named (steps_of Master) (codes "schedule")) entry_of l.items.items (l.found.items) l.place

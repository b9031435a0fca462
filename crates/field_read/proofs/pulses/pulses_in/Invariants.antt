use Rattle.std.proofs.Common.{codes}
use Rattle.scenario_read.specs.Paths.{then_named}
use Rattle.scenario_read.specs.Fields.{object_of}
use Rattle.scenario_read.proofs.Walks.{Walked}
use Rattle.field_read.specs.declared.place.Place.TheVariants.{Top}
use Rattle.field_read.specs.Table.{pulse_shape}
use Rattle.field_read.specs.Content.{pulse_of}
use Rattle.field_read.specs.Places.{steps_of}
use Rattle.field_read.proofs.pulses.pulses_in.Given as goal

abbrev pub invariant-loop-place : goal.invariant-loop-place
invariant-loop-place l =
    Walked (object_of (pulse_shape l.rounds l.cabinets)) (then_named (steps_of Top) (codes "pulses")) (pulse_of l.rounds l.cabinets) l.items.items l.found.items l.place

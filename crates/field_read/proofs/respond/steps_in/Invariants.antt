use Rattle.std.proofs.Common.{codes}
use Rattle.scenario_read.specs.Paths.{then_named}
use Rattle.scenario_read.specs.Fields.{object_of}
use Rattle.scenario_read.proofs.Walks.{Walked}
use Rattle.field_read.specs.declared.place.Place.TheVariants.{Section}
use Rattle.field_read.specs.Table.{step_shape}
use Rattle.field_read.specs.Content.{step_of}
use Rattle.field_read.specs.Places.{steps_of}
use Rattle.field_read.proofs.respond.steps_in.Given as goal

abbrev pub invariant-loop-step : goal.invariant-loop-step
invariant-loop-step l =
    Walked (object_of step_shape) (then_named (steps_of (Section l.section)) (codes "steps")) step_of l.items.items l.found.items l.step

use Rattle.std.proofs.Common.{map, codes}
use Rattle.scenario_data.specs.Content.{frame_content}
use Rattle.scenario_read.specs.declared.place.Place.TheVariants.{Top}
use Rattle.scenario_read.specs.Paths.{then_named}
use Rattle.scenario_read.specs.Fields.{object_of}
use Rattle.scenario_read.specs.Table.{frame_shape}
use Rattle.scenario_read.specs.Content.{frame_of}
use Rattle.scenario_read.specs.Readers.{steps_of}
use Rattle.scenario_read.proofs.Walks.{Walked}
use Rattle.scenario_read.proofs.frames.frames_in.Given as goal

abbrev pub invariant-loop-place : goal.invariant-loop-place
invariant-loop-place l =
    Walked (object_of (frame_shape l.rounds l.cabinets)) (then_named (steps_of Top) (codes "frames")) (frame_of l.rounds l.cabinets) l.items.items (map frame_content l.found.items) l.place

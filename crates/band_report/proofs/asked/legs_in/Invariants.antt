use Rattle.std.proofs.Common.{codes}
use Rattle.scenario_read.specs.declared.place.Place.TheVariants.{Top}
use Rattle.scenario_read.specs.Paths.{then_named}
use Rattle.scenario_read.specs.Kinds.{whole}
use Rattle.scenario_read.specs.Content.{whole_of}
use Rattle.scenario_read.specs.Readers.{steps_of}
use Rattle.scenario_read.proofs.Walks.{Walked}
use Rattle.band_report.proofs.asked.legs_in.Given as goal

abbrev pub invariant-loop-place : goal.invariant-loop-place
invariant-loop-place l = Walked (whole 0 864000) (then_named (steps_of Top) (codes "travel")) whole_of l.items.items l.found.items l.place

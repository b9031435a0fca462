use Rattle.std.proofs.Common.{map, codes}
use Rattle.scenario_read.specs.Paths.{then_named}
use Rattle.scenario_read.specs.Fields.{object_of}
use Rattle.scenario_read.proofs.Walks.{Walked}
use Rattle.field_read.specs.declared.place.Place.TheVariants.{Respond}
use Rattle.field_read.specs.Table.{section_shape}
use Rattle.field_read.specs.Content.{rule_content, rule_of}
use Rattle.field_read.specs.Places.{steps_of}
use Rattle.field_read.proofs.respond.rules_in.Given as goal

abbrev pub invariant-loop-section : goal.invariant-loop-section
invariant-loop-section l =
    Walked (object_of section_shape) (then_named (steps_of Respond) (codes "sections")) rule_of l.items.items (map rule_content l.found.items) l.section

use Rattle.std.proofs.Common.{map, codes}
use Rattle.scenario_data.specs.Content.{put_content}
use Rattle.scenario_read.specs.declared.place.Place.TheVariants.{Listed}
use Rattle.scenario_read.specs.Paths.{then_named}
use Rattle.scenario_read.specs.CellLists.{cell, cell_of}
use Rattle.scenario_read.specs.Readers.{steps_of}
use Rattle.scenario_read.proofs.Walks.{Walked}
use Rattle.scenario_read.proofs.cells.cells_in.Given as goal

abbrev pub invariant-loop-cell : goal.invariant-loop-cell
invariant-loop-cell l = Walked cell (then_named (steps_of (Listed l.list l.place)) (codes "cells")) cell_of l.items.items (map put_content l.cells.items) l.cell

-- The items of an agenda.
use Rattle.std.specs.Prelude.{List}
use Rattle.link_sim.specs.declared.agenda.Due.{Due}
use Rattle.link_sim.specs.declared.agenda.Agenda.{Agenda}

-- the items in the order in which they are stored
abbrev pub dues_in : Agenda → List Due
dues_in agenda = agenda.sorted.items

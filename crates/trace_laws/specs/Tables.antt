-- Tables whose lists are of octets.
use Rattle.sig_tables.specs.declared.tables.Tables.{Tables}
use Rattle.sig_tables.specs.declared.cells.Cell.{Cell}
use Rattle.sig_tables.specs.Cells.{value_at}
use Rattle.runnable.specs.Octets.{HoldsOctets}

-- each cell with a list has octets
abbrev pub EachHolds : Tables → Type 0
EachHolds t = (cell : Cell) → HoldsOctets (value_at t cell)

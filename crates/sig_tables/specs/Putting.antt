-- The tables after contents are written to cells in order, and tables in which each cell holds an allowed content.
use Rattle.std.specs.Prelude.{◌≡◌, ◌&&◌, if◌then◌else◌, List, [], ◌∷◌, Ok, is_ok}
use Rattle.sig_tables.specs.declared.tables.Tables.{Tables}
use Rattle.sig_tables.specs.declared.cells.Cell.{Cell}
use Rattle.sig_tables.specs.declared.cells.CellValue.{CellValue}
use Rattle.sig_tables.specs.Cells.{Content, content_of, IsCell, is_cell, value_at, with_content}
use Rattle.sig_tables.specs.Ranges.{fits_of}

-- a cell, and the content that is written to it
abbrev pub put_content : Cell × CellValue → Cell × Content
put_content put = (put.0, content_of put.1)

-- the tables after a content is written to a cell; no change if the cell doesn't exist or doesn't allow the content
abbrev pub with_put : Tables → Cell × Content → Tables
with_put t put = if is_cell put.0 && is_ok (fits_of put.0 put.1) then with_content t put.0 put.1 else t

-- the tables after contents are written to cells in order
abbrev pub with_cells : Tables → List (Cell × Content) → Tables
with_cells t [] = t
with_cells t (put ∷ puts) = with_cells (with_put t put) puts

-- each cell of the tables holds an allowed content
abbrev pub EachFits : Tables → Type 0
EachFits t = (cell : Cell) → IsCell cell → fits_of cell (value_at t cell) ≡ Ok tt

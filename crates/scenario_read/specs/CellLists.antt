-- A cell with its content as a JSON list: a word, the numbers of the row and the column, and a number or a text of
-- hexadecimal digits.
use Rattle.std.specs.Prelude.{ℕ, ◌+◌, ◌==◌, ◌&&◌, nat_le, if◌then◌else◌, List, [], codes, length, bytes_eq, Option, Some, None, option_and_then, unwrap_or, Result, Ok, Err}
use Rattle.hex.specs.declared.error.FromHexError.{FromHexError}
use Rattle.hex.specs.Hex.{decode_of}
use Rattle.serde_json.specs.Data.{Num, unsigned, negative, float, Data, null, boolean, number, string, array, object}
use Rattle.serde_json.specs.Find.{at, as_str}
use Rattle.serde_json.specs.Events.{items_len}
use Rattle.sig_tables.specs.declared.cells.Cell.{Cell}
use Rattle.sig_tables.specs.declared.cells.Cell.TheVariants.{Phase, Sequence, Split, Pattern, Preempt, Unit as UnitCell}
use Rattle.sig_tables.specs.declared.cells.Allowed.{Allowed}
use Rattle.sig_tables.specs.declared.cells.Allowed.TheVariants.{Numbers, Lists}
use Rattle.sig_tables.specs.Cells.{Content, Number, Octets, is_cell}
use Rattle.sig_tables.specs.Ranges.{allowed_in}
use Rattle.scenario_read.specs.Kinds.{Fit, Wrong, Kind, fault_at, within, whole_fits, items_in}

-- the number if it is at most 255, otherwise 0
abbrev pub octet_in : Num → ℕ
octet_in (unsigned n) = if nat_le n 255 then n else 0
octet_in (negative z) = 0
octet_in (float x) = 0

-- the number of a row or a column; 0, which is never valid, for any other value
abbrev pub octet_of : Data → ℕ
octet_of null = 0
octet_of (boolean b) = 0
octet_of (number n) = octet_in n
octet_of (string s) = 0
octet_of (array ds) = 0
octet_of (object ms) = 0

-- the number at this place of a list
abbrev pub octet_at : ℕ → Data → ℕ
octet_at place d = octet_of (unwrap_or (at place d) null)

-- the cell that this word and the numbers after it give, if the word is valid
abbrev pub named_cell : List ℕ → Data → Option Cell
named_cell word d =
    if bytes_eq word (codes "phase") then Some (Phase (octet_at 1 d) (octet_at 2 d)) else
    if bytes_eq word (codes "sequence") then Some (Sequence (octet_at 1 d) (octet_at 2 d)) else
    if bytes_eq word (codes "split") then Some (Split (octet_at 1 d) (octet_at 2 d) (octet_at 3 d)) else
    if bytes_eq word (codes "pattern") then Some (Pattern (octet_at 1 d) (octet_at 2 d)) else
    if bytes_eq word (codes "preempt") then Some (Preempt (octet_at 1 d) (octet_at 2 d)) else
    if bytes_eq word (codes "unit") then Some (UnitCell (octet_at 1 d)) else None

-- the cell that a list gives, if its first item is a valid word
abbrev pub listed_cell : Data → Option Cell
listed_cell d = option_and_then (λ word. named_cell word d) (option_and_then as_str (at 0 d))

-- the place of the content in a list: after the word and the numbers of the cell
abbrev pub value_place : Cell → ℕ
value_place (Phase p c) = 3
value_place (Sequence s r) = 3
value_place (Split s p c) = 4
value_place (Pattern n c) = 3
value_place (Preempt i c) = 3
value_place (UnitCell n) = 2

-- the content in the list of a cell, as a JSON value
abbrev pub put_value : Cell → Data → Data
put_value cell d = unwrap_or (at (value_place cell) d) null

-- the number of items of a list
abbrev pub item_count : Data → ℕ
item_count d = items_len (items_in d)

-- how octets that were read from a text fit: at most `most` octets fit; a text that can't be read as octets is of the
-- wrong kind
abbrev pub decoded_fits : ℕ → Result (List ℕ) FromHexError → Fit
decoded_fits most (Ok octets) = within 0 most (length octets)
decoded_fits most (Err e) = Wrong

-- how a value fits as a text of at most `most` octets, with two hexadecimal digits for each octet
abbrev pub octets_fits : ℕ → Data → Fit
octets_fits most null = Wrong
octets_fits most (boolean b) = Wrong
octets_fits most (number n) = Wrong
octets_fits most (string s) = decoded_fits most (decode_of s)
octets_fits most (array ds) = Wrong
octets_fits most (object ms) = Wrong

-- the kind of texts of at most `most` octets, with two hexadecimal digits for each octet
abbrev pub hex_text : ℕ → Kind
hex_text most path d = fault_at path (octets_fits most d)

-- how a value fits as the content of a cell that allows this content
abbrev pub content_fits : Allowed → Data → Fit
content_fits (Numbers least most) d = whole_fits least most d
content_fits Lists d = octets_fits 16 d

-- how a list with this cell fits: the cell must exist, its content must be the last item, and the content must be
-- allowed in the cell
abbrev pub listed_fits : Option Cell → Data → Fit
listed_fits None d = Wrong
listed_fits (Some cell) d =
    if is_cell cell && (item_count d == value_place cell + 1) then content_fits (allowed_in cell) (put_value cell d) else Wrong

-- how a value fits as a list of a cell and its content
abbrev pub cell_fits : Data → Fit
cell_fits d = listed_fits (listed_cell d) d

-- the kind of a cell with its content. A fault inside the list has the path of the whole list
abbrev pub cell : Kind
cell path d = fault_at path (cell_fits d)

-- the octets that were read; none if the text can't be read
abbrev pub octets_in : Result (List ℕ) FromHexError → List ℕ
octets_in (Ok octets) = octets
octets_in (Err e) = []

-- the number if it is a whole number of at least 0, otherwise 0
abbrev pub number_in : Num → ℕ
number_in (unsigned n) = n
number_in (negative z) = 0
number_in (float x) = 0

-- the whole number that a value is; 0 for any other value
abbrev pub whole_of : Data → ℕ
whole_of null = 0
whole_of (boolean b) = 0
whole_of (number n) = number_in n
whole_of (string s) = 0
whole_of (array ds) = 0
whole_of (object ms) = 0

-- the octets that a text of hexadecimal digits gives; none for any other value
abbrev pub octets_of : Data → List ℕ
octets_of null = []
octets_of (boolean b) = []
octets_of (number n) = []
octets_of (string s) = octets_in (decode_of s)
octets_of (array ds) = []
octets_of (object ms) = []

-- the content that a value gives to a cell
abbrev pub content_in : Data → Content
content_in null = Number 0
content_in (boolean b) = Number 0
content_in (number n) = Number (number_in n)
content_in (string s) = Octets (octets_in (decode_of s))
content_in (array ds) = Number 0
content_in (object ms) = Number 0

-- the cell with the content in its list
abbrev pub put_in : Option Cell → Data → Cell × Content
put_in None d = (UnitCell 0, Number 0)
put_in (Some cell) d = (cell, content_in (put_value cell d))

-- the cell and the content that a list gives
abbrev pub cell_of : Data → Cell × Content
cell_of d = put_in (listed_cell d) d

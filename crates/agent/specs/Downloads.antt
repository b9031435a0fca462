-- What a Set asks of the download stage (transactions after NTCIP 1201), binding by binding. First the name of a
-- binding is checked (status 2: the name isn't allowed there), then its value (status 3: wrong type, or out of
-- range). The first fault counts.
use Rattle.std.specs.Prelude.{◌≡◌, ℕ, ◌≤◌, ◌==◌, pos, nat_le, if◌then◌else◌, List, [], ◌∷◌, length, Option, Some, None, Result, Ok, Err, is_ok}
use Rattle.sig_tables.specs.declared.cells.Cell.{Cell}
use Rattle.sig_tables.specs.declared.cells.CellValue.{CellValue}
use Rattle.sig_tables.specs.declared.cells.CellValue.TheVariants.{Number as NumberValue, Octets as OctetsValue}
use Rattle.sig_tables.specs.Cells.{content_of, IsCell, lies}
use Rattle.sig_tables.specs.Ranges.{fits_of}
use Rattle.snmp_msg.specs.declared.message.Value.{Value}
use Rattle.snmp_msg.specs.declared.message.Value.TheVariants.{Int, Octets}
use Rattle.snmp_msg.specs.declared.message.Bind.{Bind}
use Rattle.oid_map.specs.declared.names.Name.{Name}
use Rattle.oid_map.specs.declared.names.Name.TheVariants.{Cell as CellName, Txn}
use Rattle.oid_map.specs.Reading.{name_at}
use Rattle.agent.specs.declared.bindings.Fault.{Fault}
use Rattle.agent.specs.declared.ask.Wish.{Wish}
use Rattle.agent.specs.declared.ask.Wish.TheVariants.{Begin, Part, Verify, Finish, Bad}
use Rattle.agent.specs.Bindings.{each_gives}

-- the number in a value, if it is from `least` to `most`
abbrev pub number_in : ℕ → ℕ → Value → Result ℕ ℕ
number_in least most (Int (pos n)) = if lies n least most then Ok n else Err 3
number_in least most _ = Err 3

-- the id of a download, from 1 to 2,147,483,647
abbrev pub id_in : Value → Result ℕ ℕ
id_in value = number_in 1 2147483647 value

-- the content that a value gives to a cell: a number of at least 0, or at most 16 octets
abbrev pub cell_value : Value → Option CellValue
cell_value (Int (pos n)) = Some (NumberValue n)
cell_value (Octets octets) = if nat_le (length octets.items) 16 then Some (OctetsValue (record { items = octets.items })) else None
cell_value _ = None

-- a cell with its content, if the content fits the cell
abbrev pub put_into : Cell → Option CellValue → Result (Cell × CellValue) ℕ
put_into cell (Some value) = if is_ok (fits_of cell (content_of value)) then Ok (cell, value) else Err 3
put_into cell None = Err 3

-- the cell and the content that setting an instance gives. A download sets only cells; every other name is a fault
abbrev pub put_named : Option Name → Value → Result (Cell × CellValue) ℕ
put_named (Some (CellName cell)) value = put_into cell (cell_value value)
put_named _ value = Err 2

-- the cell and the content that a binding of a part gives
abbrev pub put_of : Bind → Result (Cell × CellValue) ℕ
put_of bind = put_named (name_at bind.name.items) bind.value

-- what a begin asks: its binding has the id, and there is no second binding
abbrev pub begin_wish : Result ℕ ℕ → List Bind → Wish
begin_wish (Ok id) [] = Begin id
begin_wish (Ok id) (second ∷ others) = Bad 2 2
begin_wish (Err status) others = Bad status 1

-- what a part with these cells asks, or the first fault among the cells
abbrev pub with_puts : ℕ → ℕ → Result (List (Cell × CellValue)) Fault → Wish
with_puts id number (Ok puts) = Part id number (record { items = puts })
with_puts id number (Err fault) = Bad fault.status fault.index

-- what a part asks: the second binding has its number, and the third and later bindings are its cells
abbrev pub part_wish : ℕ → Result ℕ ℕ → List Bind → Wish
part_wish id (Ok number) cells = with_puts id number (each_gives put_of 3 cells)
part_wish id (Err status) cells = Bad status 2

-- what a verify asks: the second binding has the number of all parts, and there is no third binding
abbrev pub verify_wish : ℕ → Result ℕ ℕ → List Bind → Wish
verify_wish id (Ok total) [] = Verify id total
verify_wish id (Ok total) (third ∷ others) = Bad 2 3
verify_wish id (Err status) others = Bad status 2

-- what a finish asks: the second binding is the finish, and there is no third binding
abbrev pub finish_wish : ℕ → Result ℕ ℕ → List Bind → Wish
finish_wish id (Ok one) [] = Finish id
finish_wish id (Ok one) (third ∷ others) = Bad 2 3
finish_wish id (Err status) others = Bad status 2

-- the number of an object of a download: 2 begin, 3 id, 4 part, 5 total, 6 finish; 0 for any other name
abbrev pub download_object : Option Name → ℕ
download_object (Some (Txn number)) = number
download_object _ = 0

-- what the second binding asks after an id: a part, a verify by the total, or a finish
abbrev pub step_named : ℕ → ℕ → Value → List Bind → Wish
step_named object id value others =
    if object == 4 then part_wish id (number_in 1 60000 value) others
    else if object == 5 then verify_wish id (number_in 0 60000 value) others
    else if object == 6 then finish_wish id (number_in 1 1 value) others
    else Bad 2 2

-- what a Set asks that continues a download: its id, then one step. If there is no second binding, the fault is at
-- the first one
abbrev pub step_wish : Result ℕ ℕ → List Bind → Wish
step_wish (Ok id) [] = Bad 2 1
step_wish (Ok id) (second ∷ others) = step_named (download_object (name_at second.name.items)) id second.value others
step_wish (Err status) others = Bad status 1

-- the number is valid as the id of a download
abbrev pub IsId : ℕ → Type 0
IsId id = (1 ≤ id) × (id ≤ 2147483647)

-- the cell exists, and the content fits it
pub record IsPut (put : Cell × CellValue) : Type 0 where
  pub cell : IsCell put.0
  pub fits : fits_of put.0 (content_of put.1) ≡ Ok tt

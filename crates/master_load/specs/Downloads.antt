-- A download as the messages that carry it: begin, the cells in parts of 24, verify, finish (after NTCIP 1201).
use Rattle.std.specs.Prelude.{ℕ, ◌+◌, ◌-◌, ◌*◌, ◌/◌, ◌==◌, ◌≡◌, ◌≤◌, nat_lt, if◌then◌else◌, List, [], ◌∷◌, length, take, drop, map, Option, Some, None}
use Rattle.std.specs.List.{filter, slice_get, AllByRecursion}
use Rattle.sig_tables.specs.declared.cells.Cell.{Cell}
use Rattle.sig_tables.specs.Cells.{Content, IsCell, IsShort}
use Rattle.snmp_msg.specs.declared.message.Bind.{Bind}
use Rattle.oid_map.specs.declared.names.Name.TheVariants.{Cell as CellName, Txn}
use Rattle.scenario_data.specs.Content.{LoadContent}
use Rattle.requests.specs.Requests.{bound, number_at, value_of, set_text}
use Rattle.master_load.specs.declared.download.Step.{Step}
use Rattle.master_load.specs.declared.download.Step.TheVariants.{Begin, Part, Verify, Finish}
use Rattle.master_load.specs.declared.download.LoadFrame.{LoadFrame}

-- the loads of a cabinet, in the order of the list
abbrev pub loads_of : ℕ → List LoadContent → List LoadContent
loads_of cab loads = filter (λ l. l.cabinet == cab) loads

-- the load with this number; the first has number 1
abbrev pub load_at : List LoadContent → ℕ → Option LoadContent
load_at loads number = slice_get loads (number - 1)

-- the cells of a load, if there is one
abbrev pub cells_in : Option LoadContent → List (Cell × Content)
cells_in None = []
cells_in (Some l) = l.cells

-- the cells of the load with this number
abbrev pub cells_of : List LoadContent → ℕ → List (Cell × Content)
cells_of loads number = cells_in (load_at loads number)

-- the number of parts for this many cells: each part has 24 cells, and the last part may have fewer
abbrev pub parts_for : ℕ → ℕ
parts_for count = (count + 23) / 24

-- the cells of part `k`; the first part is 1
abbrev pub part_cells : List (Cell × Content) → ℕ → List (Cell × Content)
part_cells cells k = take 24 (drop (24 * (k - 1)) cells)

-- the binding of a cell
abbrev pub cell_bind : Cell × Content → Bind
cell_bind put = bound (CellName put.0) (value_of put.1)

-- the bindings of a step of the download with this number. The objects are 2 begin, 3 id, 4 part, 5 total, 6 finish
abbrev pub step_binds : ℕ → List (Cell × Content) → Step → List Bind
step_binds number cells Begin = number_at (Txn 2) number ∷ []
step_binds number cells (Part k) = number_at (Txn 3) number ∷ number_at (Txn 4) k ∷ map cell_bind (part_cells cells k)
step_binds number cells Verify = number_at (Txn 3) number ∷ number_at (Txn 5) (parts_for (length cells)) ∷ []
step_binds number cells Finish = number_at (Txn 3) number ∷ number_at (Txn 6) 1 ∷ []

-- the octets of a message of a download
abbrev pub frame_text : List ℕ → List LoadContent → LoadFrame → List ℕ
frame_text community loads frame =
    set_text community frame.id (step_binds frame.load (cells_of (loads_of frame.cab loads) frame.load) frame.step)

-- the step after a step that was answered without an error, for a load with this many parts; none follows the finish
abbrev pub step_after : ℕ → Step → Option Step
step_after parts Begin = Some (Part 1)
step_after parts (Part k) = if nat_lt k parts then Some (Part (k + 1)) else Some Verify
step_after parts Verify = Some Finish
step_after parts Finish = None

-- the cell exists, and a cell can hold the content
abbrev pub IsPut : Cell × Content → Type 0
IsPut put = IsCell put.0 × IsShort put.1

-- this is true of each of these cells
abbrev pub ArePuts : List (Cell × Content) → Type 0
ArePuts cells = AllByRecursion IsPut cells

-- the load is valid: it has at most 768 cells, and each of them exists and can hold its content
abbrev pub IsLoad : LoadContent → Type 0
IsLoad l = (length l.cells ≤ 768) × ArePuts l.cells

-- each load is valid
abbrev pub AreLoads : List LoadContent → Type 0
AreLoads loads = AllByRecursion IsLoad loads

-- if there are any loads, the first of them is for this cabinet
abbrev pub IsFirstOf : ℕ → List LoadContent → Type 0
IsFirstOf cab [] = Unit {0}
IsFirstOf cab (l ∷ loads) = l.cabinet ≡ cab

-- Each frame of a download fits into 1,472 octets: a part has at most 24 cells, so no step more than 26 bindings.
use Rattle.std.proofs.Common.{ℕ, zero, suc, ◌-◌, ◌*◌, ◌≤◌, ◌==◌, Bool, true, false, if◌then◌else◌, List, [], ◌∷◌, map, take, drop, length, arith}
use Rattle.std.specs.Prelude.{ℤ}
use Rattle.std.specs.List.{slice_get}
use Rattle.std.proofs.lemmas.List.{length-map}
use Rattle.sig_tables.specs.declared.cells.Cell.{Cell}
use Rattle.sig_tables.specs.Cells.{Content}
use Rattle.snmp_msg.specs.declared.message.Pdu.TheVariants.{Set}
use Rattle.oid_map.specs.declared.names.Name.TheVariants.{Txn}
use Rattle.snmp_msg.specs.Shortest.{binding_text}
use Rattle.scenario_data.specs.Content.{LoadContent}
use Rattle.requests.specs.Requests.{number_at, set_text}
use Rattle.requests.proofs.Fits.{AreFew, request_few, own_few, number_few, cell_few}
use Rattle.master_load.specs.declared.download.Step.{Step}
use Rattle.master_load.specs.declared.download.Step.TheVariants.{Begin, Part, Verify, Finish}
use Rattle.master_load.specs.declared.download.LoadFrame.{LoadFrame}
use Rattle.master_load.specs.Downloads.{ArePuts, AreLoads, loads_of, cells_in, cells_of, cell_bind, part_cells, parts_for, step_binds, frame_text}

-- an instance of a download with a number
txn_few : (k n : ℕ) → k ≤ 10 → length (binding_text (number_at (Txn k) n)) ≤ 50
txn_few k n low = number_few (Txn k) n (own_few (1 ∷ k ∷ 0 ∷ []) (omega arith, (omega arith, (omega arith, tt))) (omega arith))

cells_few : (cells : List (Cell × Content)) → ArePuts cells → AreFew (map cell_bind cells)
cells_few [] all = tt
cells_few (put ∷ cells) all = (cell_few put.0 put.1 all.0.0 all.0.1, cells_few cells all.1)

-- what holds of all holds of those dropped to, and of the first of them
dropped : (n : ℕ) (cells : List (Cell × Content)) → ArePuts cells → ArePuts (drop n cells)
dropped zero cells all = all
dropped (suc n) [] all = tt
dropped (suc n) (put ∷ cells) all = dropped n cells all.1

taken : (n : ℕ) (cells : List (Cell × Content)) → ArePuts cells → ArePuts (take n cells)
taken zero cells all = tt
taken (suc n) [] all = tt
taken (suc n) (put ∷ cells) all = (all.0, taken n cells all.1)

few_taken : (n : ℕ) (cells : List (Cell × Content)) → length (take n cells) ≤ n
few_taken zero cells = omega arith
few_taken (suc n) [] = omega arith
few_taken (suc n) (put ∷ cells) = omega (arith, few_taken n cells)

step_few : (number : ℕ) (cells : List (Cell × Content)) (step : Step) → ArePuts cells → AreFew (step_binds number cells step)
step_few number cells Begin all = (txn_few 2 number (omega arith), tt)
step_few number cells (Part k) all = (txn_few 3 number (omega arith), (txn_few 4 k (omega arith), cells_few (part_cells cells k) (taken 24 _ (dropped (24 * (k - 1)) cells all))))
step_few number cells Verify all = (txn_few 3 number (omega arith), (txn_few 5 (parts_for (length cells)) (omega arith), tt))
step_few number cells Finish all = (txn_few 3 number (omega arith), (txn_few 6 1 (omega arith), tt))

step_short : (number : ℕ) (cells : List (Cell × Content)) (step : Step) → length (step_binds number cells step) ≤ 26
step_short number cells Begin = omega arith
step_short number cells (Part k) = omega (arith, few_taken 24 (drop (24 * (k - 1)) cells), length-map (part_cells cells k) cell_bind)
step_short number cells Verify = omega arith
step_short number cells Finish = omega arith

-- the cells of one of the loads
loads_kept : (cab : ℕ) (loads : List LoadContent) → AreLoads loads → AreLoads (loads_of cab loads)
loads_kept cab [] all = tt
loads_kept cab (l ∷ loads) all = split (loads_kept cab loads all.1) (l.cabinet == cab)
  where
    split : AreLoads (loads_of cab loads) → (b : Bool) → AreLoads (if b then l ∷ loads_of cab loads else loads_of cab loads)
    split ih true = (all.0, ih)
    split ih false = ih

load_cells : (loads : List LoadContent) (place : ℕ) → AreLoads loads → ArePuts (cells_in (slice_get loads place))
load_cells [] place all = tt
load_cells (l ∷ loads) zero all = all.0.1
load_cells (l ∷ loads) (suc place) all = load_cells loads place all.1

-- the octets of a step
pub step_fits : (community : List ℕ) (id : ℤ) (number : ℕ) (cells : List (Cell × Content)) (step : Step) → length community ≤ 32 → ArePuts cells
    → length (set_text community id (step_binds number cells step)) ≤ 1472
step_fits community id number cells step short puts =
    request_few Set community id (step_binds number cells step) short (step_few number cells step puts) (step_short number cells step)

pub frame_fits : (community : List ℕ) (loads : List LoadContent) (frame : LoadFrame) → length community ≤ 32 → AreLoads loads
    → length (frame_text community loads frame) ≤ 1472
frame_fits community loads frame short all =
    let cells = cells_of (loads_of frame.cab loads) frame.load in
    let puts = load_cells (loads_of frame.cab loads) (frame.load - 1) (loads_kept frame.cab loads all) in
    step_fits community frame.id frame.load cells frame.step short puts

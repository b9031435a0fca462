-- A piece that finds no room shows that the text it is of finds none.
use Rattle.std.proofs.Common.{◌≡◌, ℕ, ◌<◌, ◌≤◌, arith, Result, Ok, Err, inl, inr}
use Rattle.std.specs.Prelude.{IsOk, OnErr, ◌↔◌}
use Rattle.std.proofs.lemmas.Bool.{cases_lt, false≢true}
use Rattle.std.specs.Prelude.{ℤ}
use Rattle.std.proofs.Common.{refl, ap, w32, to_z, of_z}
use Rattle.std.proofs.lemmas.Int.{to_z-of_z}
use mir.Val.{SFits}
use Rattle.ber_code.specs.Integers.{integer_text}
use Rattle.snmp_msg.specs.Shortest.{ids_text}
use Rattle.ber_code.specs.declared.room.Full.{Full}

pub no_room : (r : Result (Unit {0}) Full) (needed total : ℕ) → IsOk r ↔ (needed ≤ 1472) → needed ≤ total → OnErr r (1472 < total)
no_room (Ok x) needed total fits within = tt
no_room (Err e) needed total fits within =
    elim (cases_lt 1472 total) [ inl above ↦ above | inr below ↦ absurd (false≢true (fits.1 (omega arith))) ]

-- the same where the piece itself says so
pub no_room_at : (r : Result (Unit {0}) Full) (needed total : ℕ) → 1472 < needed → needed ≤ total → OnErr r (1472 < total)
no_room_at (Ok x) needed total over within = tt
no_room_at (Err e) needed total over within = omega arith

-- ---- numbers as a call passes them

pub passed : (n : ℤ) → SFits w32 n → integer_text (to_z w32 (of_z w32 n)) ≡ integer_text n
passed n fits = ap integer_text (to_z-of_z w32 n fits)

pub ids_passed : (id status index : ℤ) → SFits w32 id → SFits w32 status → SFits w32 index
    → ids_text (to_z w32 (of_z w32 id)) (to_z w32 (of_z w32 status)) (to_z w32 (of_z w32 index)) ≡ ids_text id status index
ids_passed id status index a b c = simp to_z-of_z refl

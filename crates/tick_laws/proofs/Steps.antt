-- Every correction of the offset advances by such a step.
use Rattle.std.proofs.Common.{◌≡◌, inl, inr, ℕ, Bool, true, false, not, nat_le, ◌==◌, ◌&&◌, ◌||◌, if◌then◌else◌, ◌+◌, ◌%◌, ◌<◌, List, refl, ◌∙◌, ap, arith}
use Rattle.std.proofs.Math.Nat.{mod-eq_of_lt, mod_self}
use Rattle.std.proofs.lemmas.Bool.{cases_order, leb-true, leb-false}
use Rattle.sig_tables.specs.Counting.{Correction, tick_later, ahead, adds_sooner, dwelling, adding, skipping, stands, skips, last_step_changed, last_counter, corrected, counter_after, next_counter}
use Rattle.tick_laws.specs.Steps.{Steps, Stands, Plain, Skips, Zero}

plain : (k : Correction) (c : ℕ) → c < k.cycle → Steps k.cycle k.window c (tick_later k.cycle c)
plain k c below = elim (cases_order (c + 1) k.cycle) [
  | inl e ↦ Zero (ap (λ (x : ℕ). x % k.cycle) e ∙ mod_self k.cycle) e
  | inr (inl l) ↦ Plain (mod-eq_of_lt l) l
  | inr (inr g) ↦ absurd (omega arith)
]

-- it waits, or continues as time does
stood : (k : Correction) (c : ℕ) (a b : Bool) → c < k.window → c < k.cycle → Steps k.cycle k.window c (if a && not b then c else tick_later k.cycle c)
stood k c true true inside below = plain k c below
stood k c true false inside below = Stands refl inside
stood k c false b inside below = plain k c below

skipped : (k : Correction) (past : List ℕ) (c : ℕ) → c < k.cycle → Steps k.cycle k.window c (skipping k past c)
skipped k past c below = by (nat_le (c + 2) k.window) (nat_le k.subtract (skips past)) refl
  where
    by : (a b : Bool) → nat_le (c + 2) k.window ≡ a → Steps k.cycle k.window c (if a && not b then c + 2 else tick_later k.cycle c)
    by true true e = plain k c below
    by true false e = Skips refl (leb-true (c + 2) k.window e)
    by false b e = plain k c below

in-window : (k : Correction) (past : List ℕ) (c error : ℕ) → c < k.window → c < k.cycle → Steps k.cycle k.window c (corrected k past c error)
in-window k past c error inside below = by (k.mode == 2) (k.mode == 4) (k.mode == 3) (adds_sooner k error)
  where
    dwells : Steps k.cycle k.window c (dwelling k past c)
    dwells = stood k c (c == 0) (nat_le k.dwell (stands past)) inside below

    adds : Steps k.cycle k.window c (adding k past c)
    adds = stood k c (last_step_changed past) (nat_le k.add (stands past)) inside below

    by : (a b d s : Bool)
        → Steps k.cycle k.window c
        (if a then dwelling k past c else if b then adding k past c else if d then (if s then adding k past c else skipping k past c) else tick_later k.cycle c)
    by true b d s = dwells
    by false true d s = adds
    by false false true true = adds
    by false false true false = skipped k past c below
    by false false false s = plain k c below

after : (k : Correction) (past : List ℕ) (c error : ℕ) → c < k.cycle → Steps k.cycle k.window c (counter_after k past c error)
after k past c error below = by (error == 0) (nat_le k.window c) refl
  where
    by : (a b : Bool) → nat_le k.window c ≡ b → Steps k.cycle k.window c (if a || b then tick_later k.cycle c else corrected k past c error)
    by true b e = plain k c below
    by false true e = plain k c below
    by false false e = in-window k past c error (leb-false k.window c e) below

pub counter-steps : (k : Correction) (past : List ℕ) (target : ℕ) → last_counter past < k.cycle
    → Steps k.cycle k.window (last_counter past) (next_counter k past target)
counter-steps k past target below = after k past (last_counter past) (ahead k.cycle target (last_counter past)) below

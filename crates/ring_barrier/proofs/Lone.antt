-- Lists of at most one phase: what ends and what begins in a ring.
use Rattle.std.proofs.Common.{◌≡◌, inl, inr, ℕ, zero, suc, Bool, true, false, not, ◌&&◌, ◌==◌, if◌then◌else◌, List, [], ◌∷◌, refl, sym, ◌∙◌, arith}
use Rattle.std.proofs.lemmas.Bool.{cases_Bool, ne_eqb, false≢true}
use Rattle.std.proofs.Math.Bool.{and-false}
use Rattle.sig_types.specs.Phases.{is_phase, is_in, first, or_else, only}
use Rattle.sig_types.proofs.Lists.{phase-in}
use Rattle.sig_tables.specs.Tables.{has_dual_entry}
use Rattle.sig_tables.specs.Sides.{ring_phases}
use Rattle.sig_tables.specs.View.{View as Scene, later, earlier, elsewhere, can_begin, has_room_in, is_open, other_ring, greatest_clearance}
use Rattle.sig_tables.specs.Modes.{bound}
use Rattle.sig_tables.specs.Splits.{omits}
use Rattle.sig_tables.specs.Moves.{beginning_in, stays_in_side, can_join, entering, beginning_both, beginning_of}
use Rattle.ring_barrier.proofs.Entering.{able-zero, entered}

-- no phase is in the list, or one
abbrev pub IsLone : List ℕ → Type 0
IsLone [] = Unit {0}
IsLone (zero ∷ phases) = ⊥
IsLone (suc q ∷ []) = Unit {0}
IsLone (suc q ∷ p ∷ phases) = ⊥

lone-one : (f : ℕ → Bool) (x : ℕ) → f 0 ≡ false → f x ≡ true → IsLone (x ∷ [])
lone-one f zero z e = absurd (false≢true (sym z ∙ e))
lone-one f (suc x) z e = tt

pub lone-first : (f : ℕ → Bool) (xs : List ℕ) → f 0 ≡ false → IsLone (first f xs)
lone-first f [] z = tt
lone-first f (x ∷ xs) z = elim (cases_Bool (f x)) [
  | inl e ↦ rw e (lone-one f x z e)
  | inr e ↦ rw e (lone-first f xs z)
]

lone-or_else : (xs ys : List ℕ) → IsLone xs → IsLone ys → IsLone (or_else xs ys)
lone-or_else [] ys hx hy = hy
lone-or_else (x ∷ xs) ys hx hy = hx

lone-if : (b : Bool) (xs ys : List ℕ) → IsLone xs → IsLone ys → IsLone (if b then xs else ys)
lone-if true xs ys hx hy = hx
lone-if false xs ys hx hy = hy

lone-in : (w : Scene) (k r : ℕ) → IsLone (beginning_in w k r)
lone-in w k r =
    lone-or_else (first (can_begin w) (later w r)) (if elsewhere w k then [] else first (can_begin w) (earlier w r))
    (lone-first (can_begin w) (later w r) (able-zero w))
    (lone-if (elsewhere w k) [] (first (can_begin w) (earlier w r)) tt (lone-first (can_begin w) (earlier w r) (able-zero w)))

dual-zero : (w : Scene) → can_join w 0 ≡ false
dual-zero w = and-false (has_dual_entry w.tables 0 && not (omits (bound w.mode) w.tables 0) && has_room_in w 0 0)

lone-entering : (w : Scene) (r : ℕ) (xs : List ℕ) → IsLone (entering w xs r)
lone-entering w r [] = tt
lone-entering w r (s ∷ rest) =
    lone-or_else (first (can_begin w) (ring_phases w.tables w.sequence s r)) (first (can_join w) (ring_phases w.tables w.sequence s r))
    (lone-first (can_begin w) (ring_phases w.tables w.sequence s r) (able-zero w))
    (lone-first (can_join w) (ring_phases w.tables w.sequence s r) (dual-zero w))

-- at most one phase begins in a ring
lone-beginning : (w : Scene) (r : ℕ) → IsLone (beginning_of w r)
lone-beginning w r =
    lone-if (is_open w r) (if is_open w (other_ring r) then beginning_both w r else beginning_in w (greatest_clearance w) r) []
    (lone-if (is_open w (other_ring r)) (beginning_both w r) (beginning_in w (greatest_clearance w) r)
    (lone-if (stays_in_side w) (beginning_in w 0 r) (entering w (entered w) r) (lone-in w 0 r) (lone-entering w r (entered w)))
    (lone-in w (greatest_clearance w) r))
    tt

-- what such a list has, from its only phase
pub lone-has : (xs : List ℕ) (p : ℕ) → IsLone xs → is_phase p ≡ true → is_in xs p ≡ (p == only xs)
lone-has [] p h e = sym (ne_eqb p 0 (λ z. omega (arith, (phase-in p e).0)))
lone-has (zero ∷ xs) p h e = absurd h
lone-has (suc q ∷ []) p h e = elim (cases_Bool (p == suc q)) [
  | inl t ↦ rw t refl
  | inr t ↦ rw t refl
]
lone-has (suc q ∷ x ∷ xs) p h e = absurd h

pub beginning-has : (w : Scene) (r p : ℕ) → is_phase p ≡ true → is_in (beginning_of w r) p ≡ (p == only (beginning_of w r))
beginning-has w r p e = lone-has (beginning_of w r) p (lone-beginning w r) e

-- a list of one phase or none
pub is-one : (b : Bool) (n p : ℕ) → is_in (if b then n ∷ [] else []) p ≡ (b && (p == n))
is-one false n p = refl
is-one true n p = elim (cases_Bool (p == n)) [
  | inl t ↦ rw t refl
  | inr t ↦ rw t refl
]

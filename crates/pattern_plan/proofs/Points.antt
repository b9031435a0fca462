-- Force points, the coordinated phases, and the plan of equal parts.
use Rattle.std.proofs.Common.{◌≡◌, ℕ, zero, suc, ◌+◌, ◌-◌, ◌*◌, ◌%◌, ◌≤◌, ◌==◌, ◌&&◌, min, Bool, true, false, if◌then◌else◌, List, [], ◌∷◌, get_or, inl, inr, refl, arith}
use Rattle.std.proofs.lemmas.Bool.{cases_Bool}
use Rattle.std.proofs.lemmas.Bool.Decides.{eqb_tells}
use Rattle.sig_types.specs.Phases.{is_in, those, only, all_phases}
use Rattle.sig_types.proofs.Lists.{in-head, in-tail, phase-in}
use Rattle.sig_types.proofs.Sets.{listed-phase}
use Rattle.sig_tables.specs.declared.tables.Tables.{Tables}
use Rattle.sig_tables.specs.declared.plan.Plan.{Plan}
use Rattle.sig_tables.specs.Tables.{ring_of, is_enabled, clearance}
use Rattle.sig_tables.specs.Slots.{cycle_time, slot_end, side_end, side_clearance, zero_point, is_coordinated, coordinated_phase, force_point}
use Rattle.sig_tables.specs.Laying.{EachIs}
use Rattle.sig_tables.proofs.Below.{phase-is}

-- the force point from its parts
pub force-is : (t : Tables) (n p : ℕ) (b : Bool) (time origin end clear last shared : ℕ) → b ≡ is_enabled t p → time ≡ cycle_time t n
    → origin ≡ zero_point t n → end ≡ (if is_enabled t p then slot_end t n p else 0) → clear ≡ clearance t p → last ≡ side_end t n p
    → shared ≡ side_clearance t p
    → (if b then (min (end + time * (shared + origin) - clear) (last + time * (shared + origin) - shared) - origin) % time else 0) ≡ force_point t n p
force-is t n p b time origin end clear last shared on times at ends clears lasts shares =
    rw (on, times, at, clears, lasts, shares, ends) (elim (cases_Bool (is_enabled t p)) [ inl e ↦ rw e refl | inr e ↦ rw e refl ])

only-few : (test : ℕ → Bool) (xs : List ℕ) → ((q : ℕ) → is_in xs q ≡ true → q ≤ 16) → only (those test xs) ≤ 16
only-few test [] h = omega arith
only-few test (x ∷ xs) h = split (only-few test xs (λ q i. h q (in-tail x xs q i))) (test x)
  where
    split : only (those test xs) ≤ 16 → (b : Bool) → only (if b then x ∷ those test xs else those test xs) ≤ 16
    split ih true = h x (in-head x xs)
    split ih false = ih

-- a coordinated phase is a phase, or 0
pub coordinated-few : (t : Tables) (n r : ℕ) → coordinated_phase t n r ≤ 16
coordinated-few t n r = only-few (λ p. ring_of t p == r && is_coordinated t n p) all_phases (λ q i. (phase-in q (listed-phase q i)).1)

-- what represents a phase that may be 0
pub force-at : (t : Tables) (n : ℕ) (force : List ℕ) (p : ℕ) → p ≤ 16 → EachIs force (force_point t n)
    → (if p == 0 then 0 else get_or force (p - 1) 0) ≡ force_point t n p
force-at t n force zero few e = refl
force-at t n force (suc p) few e = elim (eqb_tells (suc p) 0) [
  | inl (b, z) ↦ absurd (omega arith)
  | inr (b, z) ↦ rw b (e (suc p) (phase-is (suc p) (omega arith) few))
]

-- the first that passes is at the head, or after it
pub found-here : (test : ℕ → Bool) (p : ℕ) (rest : List ℕ) (x : ℕ) → test p ≡ true → only (those test (p ∷ rest)) ≡ x → p ≡ x
found-here test p rest x t h = rw t at h

pub found-later : (test : ℕ → Bool) (p : ℕ) (rest : List ℕ) (x : ℕ) → test p ≡ false → only (those test (p ∷ rest)) ≡ x → only (those test rest) ≡ x
found-later test p rest x t h = rw t at h

-- plans with equal parts are equal
pub same-plan : (a a' b b' c c' : ℕ) (d d' e e' f f' : List ℕ) (g g' : ℕ) (h h' : List ℕ) (i i' : Bool) (j j' : ℕ)
    → a ≡ a' → b ≡ b' → c ≡ c' → d ≡ d' → e ≡ e' → f ≡ f' → g ≡ g' → h ≡ h' → i ≡ i' → j ≡ j'
    → ◌≡◌ {A = Plan}
    (record { cycle = a; offset = b; sequence = c; coordinated = d; force = e; permissive = f; window = g; float = h; floating = i; shift = j })
    (record { cycle = a'; offset = b'; sequence = c'; coordinated = d'; force = e'; permissive = f'; window = g'; float = h'; floating = i'; shift = j' })
same-plan a a' b b' c c' d d' e e' f f' g g' h h' i i' j j' p q r s t u v w x y = rw (p, q, r, s, t, u, v, w, x, y) refl

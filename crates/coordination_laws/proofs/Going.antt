-- What is kept within a cycle, with one step of drift to spare or none: the number of cycles that will be needed at its end.
use Rattle.std.proofs.Common.{◌≡◌, ◌⊎◌, inl, inr, ℕ, true, false, ◌+◌, ◌-◌, ◌*◌, ◌<◌, ◌≤◌, List, ◌∷◌, sym, ◌∙◌, ap, arith}
use Rattle.std.proofs.lemmas.Bool.{cases_order, cases_Bool, leb-true, leb-false}
use Rattle.sig_tables.specs.Counting.{Correction, HasRoom, steps_for, adds_sooner, stands, skips, last_step_changed}
use Rattle.coordination_laws.proofs.Steps.{no-steps, step-more, fewer-steps}
use Rattle.coordination_laws.proofs.Resting.{Adds, Subtracts}
use Rattle.coordination_laws.proofs.Cycle.{still-adds, still-subtracts}
use Rattle.coordination_laws.proofs.Jumps.{within-step}

-- in a cycle that goes on with error e, at its end no more than `most` cycles will be needed, less those to spare: while the correction
-- has steps left in this cycle it makes all of them; later it makes none that lengthen the way
pub data Goes (k : Correction) (most spare c : ℕ) (before : List ℕ) (e : ℕ) : Type 0 where
  Dwells : (mode : k.mode ≡ 2) → (left : ℕ) → (at : c ≡ 0) → (all : stands (c ∷ before) + left ≡ k.dwell)
      → (few : steps_for (k.cycle - e - left) k.dwell + spare ≤ most) → Goes k most spare c before e
  Dwelt : (mode : k.mode ≡ 2) → (few : steps_for (k.cycle - e) k.dwell + spare ≤ most) → Goes k most spare c before e
  AddsNext : (mode : Adds k e) → (left : ℕ) → (all : c + left ≡ k.add) → (stood : stands (c ∷ before) ≡ c) → (moved : last_step_changed (c ∷ before) ≡ true)
      → (few : steps_for (k.cycle - e - left) k.add + spare ≤ most) → Goes k most spare c before e
  AddsPlain : (mode : Adds k e) → (left : ℕ) → (all : c + 1 + left ≡ k.add) → (stood : stands (c ∷ before) ≡ c + 1)
      → (moved : last_step_changed (c ∷ before) ≡ false)
      → (few : steps_for (k.cycle - e - left) k.add + spare ≤ most) → Goes k most spare c before e
  Added : (mode : Adds k e) → (few : steps_for (k.cycle - e) k.add + spare ≤ most) → Goes k most spare c before e
  SkipsNext : (mode : Subtracts k e) → (left : ℕ) → (all : skips (c ∷ before) + left ≡ k.subtract) → (twice : 2 * skips (c ∷ before) ≡ c)
      → (stood : stands (c ∷ before) ≡ 0) → (moved : last_step_changed (c ∷ before) ≡ true)
      → (few : steps_for (e - left) k.subtract + spare ≤ most) → Goes k most spare c before e
  Skipped : (mode : Subtracts k e) → (few : steps_for e k.subtract + spare ≤ most) → Goes k most spare c before e

-- the correction adds or subtracts
either-way : (k : Correction) (e : ℕ) → k.mode ≡ 3 → Adds k e ⊎ Subtracts k e
either-way k e m = elim (cases_Bool (adds_sooner k e)) [ inl h ↦ inl (inr (m, h)) | inr h ↦ inr (m, h) ]

same-way : (k : Correction) (e f : ℕ) → Adds k e → Adds k f ⊎ Subtracts k f
same-way k e f (inl m) = inl (inl m)
same-way k e f (inr m) = either-way k f m.0

sooner : (k : Correction) (e : ℕ) → Subtracts k e → steps_for e k.subtract < steps_for (k.cycle - e) k.add
sooner k e h = leb-false (steps_for (k.cycle - e) k.add) (steps_for e k.subtract) h.1

not-later : (k : Correction) (e : ℕ) → (h : adds_sooner k e ≡ true) → steps_for (k.cycle - e) k.add ≤ steps_for e k.subtract
not-later k e h = leb-true (steps_for (k.cycle - e) k.add) (steps_for e k.subtract) h

-- a step of drift that loses uses up what was to spare
pub goes-loses : (k : Correction) (most c : ℕ) (before : List ℕ) (e : ℕ) → HasRoom k → e + 1 < k.cycle → Goes k most 1 c before (e + 1)
    → Goes k most 0 c before e
goes-loses k most c before e room below (Dwells mode left at all few) =
    Dwells mode left at all (let w = within-step (k.cycle - e - left) (k.cycle - (e + 1) - left) k.dwell room.dwell (let d : 1 ≤ k.dwell
    = room.dwell in omega arith) in omega arith)
goes-loses k most c before e room below (Dwelt mode few) =
    Dwelt mode (let w = within-step (k.cycle - e) (k.cycle - (e + 1)) k.dwell room.dwell (let d : 1 ≤ k.dwell = room.dwell in omega arith) in omega arith)
goes-loses k most c before e room below (AddsNext mode left all stood moved few) =
    let one : 1 ≤ k.add = room.add in
    let w : steps_for (k.cycle - e - left) k.add ≤ steps_for (k.cycle - (e + 1) - left) k.add + 1 = within-step _ _ k.add room.add (omega arith) in
    elim (same-way k (e + 1) e mode) [
      | inl a ↦ AddsNext a left all stood moved (omega arith)
      | inr s ↦
          let x : steps_for (k.cycle - (e + 1)) k.add ≤ steps_for (k.cycle - (e + 1) - left) k.add + 1 = within-step _ _ k.add room.add (omega arith) in
          let y : steps_for (k.cycle - e) k.add ≤ steps_for (k.cycle - (e + 1)) k.add + 1 = within-step _ _ k.add room.add (omega arith) in
          Skipped s (let z = sooner k e s in omega arith)
    ]
goes-loses k most c before e room below (AddsPlain mode left all stood moved few) =
    let one : 1 ≤ k.add = room.add in
    let w : steps_for (k.cycle - e - left) k.add ≤ steps_for (k.cycle - (e + 1) - left) k.add + 1 = within-step _ _ k.add room.add (omega arith) in
    elim (same-way k (e + 1) e mode) [
      | inl a ↦ AddsPlain a left all stood moved (omega arith)
      | inr s ↦
          let x : steps_for (k.cycle - (e + 1)) k.add ≤ steps_for (k.cycle - (e + 1) - left) k.add + 1 = within-step _ _ k.add room.add (omega arith) in
          let y : steps_for (k.cycle - e) k.add ≤ steps_for (k.cycle - (e + 1)) k.add + 1 = within-step _ _ k.add room.add (omega arith) in
          Skipped s (let z = sooner k e s in omega arith)
    ]
goes-loses k most c before e room below (Added mode few) =
    let one : 1 ≤ k.add = room.add in
    let y : steps_for (k.cycle - e) k.add ≤ steps_for (k.cycle - (e + 1)) k.add + 1 = within-step _ _ k.add room.add (omega arith) in
    elim (same-way k (e + 1) e mode) [
      | inl a ↦ Added a (omega arith)
      | inr s ↦ Skipped s (let z = sooner k e s in omega arith)
    ]
goes-loses k most c before e room below (SkipsNext mode left all twice stood moved few) =
    SkipsNext (still-subtracts k e room mode) left all twice stood moved
    (let w : steps_for (e - left) k.subtract ≤ steps_for (e + 1 - left) k.subtract = fewer-steps _ _ k.subtract room.subtract (omega arith) in omega arith)
goes-loses k most c before e room below (Skipped mode few) =
    Skipped (still-subtracts k e room mode) (let w : steps_for e k.subtract ≤ steps_for (e + 1) k.subtract
    = fewer-steps _ _ k.subtract room.subtract (omega arith) in omega arith)

-- and so does one that gains, with shortway
pub goes-gains : (k : Correction) (most c : ℕ) (before : List ℕ) (e : ℕ) → HasRoom k → k.mode ≡ 3 → e + 1 < k.cycle → Goes k most 1 c before e
    → Goes k most 0 c before (e + 1)
goes-gains k most c before e room three below (Dwells mode left at all few) = absurd (omega arith)
goes-gains k most c before e room three below (Dwelt mode few) = absurd (omega arith)
goes-gains k most c before e room three below (AddsNext mode left all stood moved few) =
    AddsNext (still-adds k e room mode) left all stood moved
    (let w : steps_for (k.cycle - (e + 1) - left) k.add ≤ steps_for (k.cycle - e - left) k.add = fewer-steps _ _ k.add room.add (omega arith) in omega arith)
goes-gains k most c before e room three below (AddsPlain mode left all stood moved few) =
    AddsPlain (still-adds k e room mode) left all stood moved
    (let w : steps_for (k.cycle - (e + 1) - left) k.add ≤ steps_for (k.cycle - e - left) k.add = fewer-steps _ _ k.add room.add (omega arith) in omega arith)
goes-gains k most c before e room three below (Added mode few) =
    Added (still-adds k e room mode) (let w : steps_for (k.cycle - (e + 1)) k.add ≤ steps_for (k.cycle - e) k.add
    = fewer-steps _ _ k.add room.add (omega arith) in omega arith)
goes-gains k most c before e room three below (SkipsNext mode left all twice stood moved few) =
    let one : 1 ≤ k.subtract = room.subtract in
    elim (either-way k (e + 1) three) [
      | inr s ↦ SkipsNext s left all twice stood moved
          (let w : steps_for (e + 1 - left) k.subtract ≤ steps_for (e - left) k.subtract + 1
          = within-step _ _ k.subtract room.subtract (omega arith) in omega arith)
      | inl a ↦ turn a (cases_order (skips (c ∷ before)) 0)
    ]
  where
    sub : 1 ≤ k.subtract
    sub = room.subtract

    direct : Adds k (e + 1) → adds_sooner k (e + 1) ≡ true
    direct (inl four) = absurd (omega arith)
    direct (inr h) = h.1

    turn : Adds k (e + 1) → (skips (c ∷ before) ≡ 0) ⊎ ((skips (c ∷ before) < 0) ⊎ (0 < skips (c ∷ before))) → Goes k most 0 c before (e + 1)
    turn a (inl none) =
        let b : steps_for (e + 1) k.subtract ≤ steps_for e k.subtract + 1 = within-step _ _ k.subtract room.subtract (omega arith) in
        let b' : steps_for e k.subtract ≤ steps_for (e - left) k.subtract + 1 = within-step _ _ k.subtract room.subtract (omega arith) in
        let d : steps_for (k.cycle - (e + 1)) k.add ≤ steps_for (e + 1) k.subtract = not-later k (e + 1) (direct a) in
        AddsNext a k.add (omega arith) (omega arith) moved (less (cases_order (k.cycle - (e + 1)) k.add) d b b')
      where
        one-less : (x : ℕ) → 1 ≤ x → steps_for (x + k.add - k.add) k.add + 1 ≡ steps_for (x + k.add) k.add
        one-less x some = sym (step-more x k.add room.add some ∙ ap (λ (y : ℕ). steps_for y k.add + 1) (let q : x ≡ x + k.add - k.add = omega arith in q))

        nothing : (y : ℕ) → y ≤ k.add → steps_for (y - k.add) k.add ≡ 0
        nothing y le = ap (λ (z : ℕ). steps_for z k.add) (let q : y - k.add ≡ 0 = omega arith in q) ∙ no-steps k.add room.add

        less : (k.cycle - (e + 1) ≡ k.add) ⊎ ((k.cycle - (e + 1) < k.add) ⊎ (k.add < k.cycle - (e + 1)))
            → steps_for (k.cycle - (e + 1)) k.add ≤ steps_for (e + 1) k.subtract → steps_for (e + 1) k.subtract ≤ steps_for e k.subtract + 1
            → steps_for e k.subtract ≤ steps_for (e - left) k.subtract + 1
            → steps_for (k.cycle - (e + 1) - k.add) k.add + 0 ≤ most
        less (inl x) d b b' = let n = nothing (k.cycle - (e + 1)) (omega arith) in omega arith
        less (inr (inl x)) d b b' = let n = nothing (k.cycle - (e + 1)) (omega arith) in omega arith
        less (inr (inr x)) d b b' =
            let s : k.cycle - (e + 1) ≡ (k.cycle - (e + 1) - k.add) + k.add = omega arith in
            let m : steps_for (k.cycle - (e + 1)) k.add ≡ steps_for (k.cycle - (e + 1) - k.add) k.add + 1
            = ap (λ (y : ℕ). steps_for y k.add) s ∙ step-more (k.cycle - (e + 1) - k.add) k.add room.add (omega arith) in
            omega arith
    turn a (inr (inl low)) = absurd (omega arith)
    turn a (inr (inr some)) =
        let b : steps_for (e + 1) k.subtract ≤ steps_for (e - left) k.subtract + 1 = within-step _ _ k.subtract room.subtract (omega arith) in
        let d : steps_for (k.cycle - (e + 1)) k.add ≤ steps_for (e + 1) k.subtract = not-later k (e + 1) (direct a) in
        Added a (omega arith)
goes-gains k most c before e room three below (Skipped mode few) =
    let one : 1 ≤ k.subtract = room.subtract in
    let b : steps_for (e + 1) k.subtract ≤ steps_for e k.subtract + 1 = within-step _ _ k.subtract room.subtract (omega arith) in
    elim (either-way k (e + 1) three) [
      | inr s ↦ Skipped s (omega arith)
      | inl a ↦ Added a (let d : steps_for (k.cycle - (e + 1)) k.add ≤ steps_for (e + 1) k.subtract = not-later k (e + 1) (direct a) in omega arith)
    ]
  where
    direct : Adds k (e + 1) → adds_sooner k (e + 1) ≡ true
    direct (inl four) = absurd (omega arith)
    direct (inr h) = h.1

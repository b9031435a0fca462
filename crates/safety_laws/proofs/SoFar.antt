-- The moments of a history as they were at a tick.
use Rattle.std.proofs.Common.{◌≡◌, ℕ, ◌+◌, ◌<◌, ◌≤◌, Bool, true, false, if◌then◌else◌, nat_le, List, [], ◌∷◌, length, refl, sym, ◌∙◌, ap, subst, arith}
use Rattle.std.proofs.lemmas.Bool.{le-leb, lt-leb, leb-true, leb-false}
use Rattle.sig_tables.specs.Past.{Moment}

-- the moments up to a tick, the newest first; all of them where there are no more
abbrev pub so_far : ℕ → List Moment → List Moment
so_far tick [] = []
so_far tick (m ∷ past) = if nat_le (length past) tick then m ∷ past else so_far tick past

pub here : (tick : ℕ) (m : Moment) (past : List Moment) → length past ≤ tick → so_far tick (m ∷ past) ≡ m ∷ past
here tick m past h = let e : nat_le (length past) tick ≡ true = le-leb _ _ h in rw e refl

pub earlier : (tick : ℕ) (m : Moment) (past : List Moment) → tick < length past → so_far tick (m ∷ past) ≡ so_far tick past
earlier tick m past h = let e : nat_le (length past) tick ≡ false = lt-leb _ _ h in rw e refl

-- at the last tick, and after it, all of them
pub so_far-all : (tick : ℕ) (moments : List Moment) → length moments ≤ tick + 1 → so_far tick moments ≡ moments
so_far-all tick [] h = refl
so_far-all tick (m ∷ past) h = here tick m past (omega (arith, h))

-- at a further tick, one more
pub so_far-next : (tick : ℕ) (moments : List Moment) → tick + 1 < length moments
    → (m : Moment) × (so_far (tick + 1) moments ≡ m ∷ so_far tick moments)
so_far-next tick [] h = absurd (omega (arith, h))
so_far-next tick (m ∷ past) h = split (so_far-next tick past) (nat_le (length past) (tick + 1)) refl
  where
    split : (tick + 1 < length past → (x : Moment) × (so_far (tick + 1) past ≡ x ∷ so_far tick past)) → (b : Bool)
        → nat_le (length past) (tick + 1) ≡ b → (x : Moment) × (so_far (tick + 1) (m ∷ past) ≡ x ∷ so_far tick (m ∷ past))
    split more true e =
        let l : length past ≤ tick + 1 = leb-true _ _ e in
        let k : tick < length past = omega (arith, h) in
        (m, here (tick + 1) m past l ∙ ap (λ (x : List Moment). m ∷ x) (sym (earlier tick m past k ∙ so_far-all tick past l)))
    split more false e =
        let l : tick + 1 < length past = leb-false _ _ e in
        let k : tick < length past = omega arith in
        ((more l).0, earlier (tick + 1) m past l ∙ (more l).1 ∙ ap (λ (x : List Moment). (more l).0 ∷ x) (sym (earlier tick m past k)))

-- at the first tick, one
pub so_far-first : (moments : List Moment) → 0 < length moments → (m : Moment) × (so_far 0 moments ≡ m ∷ [])
so_far-first [] h = absurd (omega (arith, h))
so_far-first (m ∷ []) h = (m, here 0 m [] (omega arith))
so_far-first (m ∷ n ∷ past) h =
    let k : 0 < length (n ∷ past) = omega arith in
    let first : (x : Moment) × (so_far 0 (n ∷ past) ≡ x ∷ []) = so_far-first (n ∷ past) k in
    (first.0, earlier 0 m (n ∷ past) k ∙ first.1)

-- at each tick, some
pub so_far-some : (tick : ℕ) (moments : List Moment) → 0 < length moments → 0 < length (so_far tick moments)
so_far-some tick [] h = h
so_far-some tick (m ∷ []) h = let n : 0 ≤ tick = omega arith in subst (λ (x : List Moment). 0 < length x) (sym (here tick m [] n)) h
so_far-some tick (m ∷ n ∷ past) h = split (so_far-some tick (n ∷ past) (omega arith)) (nat_le (length (n ∷ past)) tick) refl
  where
    split : 0 < length (so_far tick (n ∷ past)) → (b : Bool) → nat_le (length (n ∷ past)) tick ≡ b → 0 < length (so_far tick (m ∷ n ∷ past))
    split k true e = subst (λ (x : List Moment). 0 < length x) (sym (here tick m (n ∷ past) (leb-true _ _ e))) h
    split k false e = subst (λ (x : List Moment). 0 < length x) (sym (earlier tick m (n ∷ past) (leb-false _ _ e))) k

-- what holds of all moments, and without the newest, holds of those up to a tick
pub so_far-holds : (P : List Moment → Type 0) → ((m : Moment) (past : List Moment) → P (m ∷ past) → P past)
    → (tick : ℕ) (moments : List Moment) → P moments → P (so_far tick moments)
so_far-holds P less tick [] h = h
so_far-holds P less tick (m ∷ past) h = split (nat_le (length past) tick) (so_far-holds P less tick past (less m past h))
  where
    split : (b : Bool) → P (so_far tick past) → P (if b then m ∷ past else so_far tick past)
    split true k = h
    split false k = k

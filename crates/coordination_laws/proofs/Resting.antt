-- A cycle whose correction is over: the counter continues as time does to the next local zero, and the error stays.
use Rattle.std.proofs.Common.{◌≡◌, ◌⊎◌, inl, inr, ℕ, zero, suc, Bool, true, false, not, nat_le, ◌==◌, ◌&&◌, ◌||◌, if◌then◌else◌, ◌+◌, ◌-◌, ◌<◌, ◌≤◌, List, ◌∷◌, refl, sym, ◌∙◌, ap, subst, arith}
use Rattle.sig_tables.specs.Counting.{Correction, tick_later, adds_sooner, dwelling, adding, skipping, stands, skips, last_step_changed, begins_cycle, next_counter, corrected, counter_after, counted}
use Rattle.coordination_laws.proofs.Steps.{later-within, later-end}
use Rattle.coordination_laws.proofs.Looks.{other, fits, stands-moved, skips-plain, begins-at, counts-on}
use Rattle.coordination_laws.proofs.Errors.{At, plain-keeps, zero-error, next-is, no-error}

-- the target after n ticks
abbrev pub gone : ℕ → ℕ → ℕ → ℕ
gone cycle zero t = t
gone cycle (suc n) t = gone cycle n (tick_later cycle t)

-- the next cycle begins after n ticks and not before, with this target
pub record NextCycle (k : Correction) (t : ℕ) (past : List ℕ) (end n : ℕ) : Type 0 where
  pub before : List ℕ
  pub is : counted k n t past ≡ 0 ∷ before
  pub begins : begins_cycle (0 ∷ before) ≡ true
  pub first : (m : ℕ) → 1 ≤ m → m < n → begins_cycle (counted k m t past) ≡ false
  pub target : gone k.cycle n t ≡ end
  pub below : end < k.cycle

-- none begins before the last of these ticks
first-more : (k : Correction) (t : ℕ) (past : List ℕ) (d n : ℕ) → next_counter k past (tick_later k.cycle t) ≡ d
    → (1 ≤ n → begins_cycle (d ∷ past) ≡ false)
    → ((m : ℕ) → 1 ≤ m → m < n → begins_cycle (counted k m (tick_later k.cycle t) (d ∷ past)) ≡ false)
    → (m : ℕ) → 1 ≤ m → m < suc n → begins_cycle (counted k m t past) ≡ false
first-more k t past d n e none rest zero low high = absurd (omega arith)
first-more k t past d n e none rest (suc zero) low high =
    ap (λ (x : ℕ). begins_cycle (x ∷ past)) e ∙ none (omega arith)
first-more k t past d n e none rest (suc (suc m)) low high =
    ap (λ (x : ℕ). begins_cycle (counted k (suc m) (tick_later k.cycle t) (x ∷ past))) e ∙ rest (suc m) (omega arith) (omega arith)

-- one tick more in front
pub one-more : (k : Correction) (t : ℕ) (past : List ℕ) (d end n : ℕ) → next_counter k past (tick_later k.cycle t) ≡ d
    → (1 ≤ n → begins_cycle (d ∷ past) ≡ false)
    → NextCycle k (tick_later k.cycle t) (d ∷ past) end n → NextCycle k t past end (suc n)
one-more k t past d end n e none r = record {
  before = r.before;
  is = ap (λ (x : ℕ). counted k n (tick_later k.cycle t) (x ∷ past)) e ∙ r.is;
  begins = r.begins;
  first = first-more k t past d n e none r.first;
  target = r.target;
  below = r.below;
}

-- the correction adds, by its mode or because that is sooner; or subtracts
abbrev pub Adds : Correction → ℕ → Type 0
Adds k e = (k.mode ≡ 4) ⊎ ((k.mode ≡ 3) × (adds_sooner k e ≡ true))

abbrev pub Subtracts : Correction → ℕ → Type 0
Subtracts k e = (k.mode ≡ 3) × (adds_sooner k e ≡ false)

pub corrected-dwells : (k : Correction) (past : List ℕ) (c e : ℕ) → k.mode ≡ 2 → corrected k past c e ≡ dwelling k past c
corrected-dwells k past c e h = rw h refl

pub corrected-adds : (k : Correction) (past : List ℕ) (c e : ℕ) → Adds k e → corrected k past c e ≡ adding k past c
corrected-adds k past c e (inl h) = rw h refl
corrected-adds k past c e (inr h) = rw (h.0, h.1) refl

pub corrected-subtracts : (k : Correction) (past : List ℕ) (c e : ℕ) → Subtracts k e → corrected k past c e ≡ skipping k past c
corrected-subtracts k past c e h = rw (h.0, h.1) refl

-- the correction of this cycle is over: there is no error, or the limit is reached, or local zero is past and so is dwelling
pub data Rests (k : Correction) (c : ℕ) (before : List ℕ) (e : ℕ) : Type 0 where
  Level : (none : e ≡ 0) → Rests k c before e
  Dwelt : (mode : k.mode ≡ 2) → (over : (1 ≤ c) ⊎ (k.dwell ≤ stands (c ∷ before))) → Rests k c before e
  Added : (mode : Adds k e) → (all : k.add ≤ stands (c ∷ before)) → Rests k c before e
  Subtracted : (mode : Subtracts k e) → (all : k.subtract ≤ skips (c ∷ before)) → Rests k c before e

pub dwell-over : (k : Correction) (c : ℕ) (before : List ℕ) → (1 ≤ c) ⊎ (k.dwell ≤ stands (c ∷ before)) → dwelling k (c ∷ before) c ≡ tick_later k.cycle c
dwell-over k c before (inl h) = rw (other c 0 (omega arith)) refl
dwell-over k c before (inr h) = all (c == 0)
  where
    all : (b : Bool) → (if b && not (nat_le k.dwell (stands (c ∷ before))) then c else tick_later k.cycle c) ≡ tick_later k.cycle c
    all true = rw (fits k.dwell (stands (c ∷ before)) h) refl
    all false = refl

pub add-over : (k : Correction) (c : ℕ) (before : List ℕ) → k.add ≤ stands (c ∷ before) → adding k (c ∷ before) c ≡ tick_later k.cycle c
add-over k c before h = all (last_step_changed (c ∷ before))
  where
    all : (b : Bool) → (if b && not (nat_le k.add (stands (c ∷ before))) then c else tick_later k.cycle c) ≡ tick_later k.cycle c
    all true = rw (fits k.add (stands (c ∷ before)) h) refl
    all false = refl

pub subtract-over : (k : Correction) (c : ℕ) (before : List ℕ) → k.subtract ≤ skips (c ∷ before) → skipping k (c ∷ before) c ≡ tick_later k.cycle c
subtract-over k c before h = all (nat_le (c + 2) k.window)
  where
    all : (b : Bool) → (if b && not (nat_le k.subtract (skips (c ∷ before))) then c + 2 else tick_later k.cycle c) ≡ tick_later k.cycle c
    all true = rw (fits k.subtract (skips (c ∷ before)) h) refl
    all false = refl

-- where the mode takes the plain step, the counter does
pub plain-if : (k : Correction) (past : List ℕ) (c e : ℕ) → corrected k past c e ≡ tick_later k.cycle c → counter_after k past c e ≡ tick_later k.cycle c
plain-if k past c e h = either (e == 0 || nat_le k.window c)
  where
    either : (b : Bool) → (if b then tick_later k.cycle c else corrected k past c e) ≡ tick_later k.cycle c
    either true = refl
    either false = h

pub rests-plain : (k : Correction) (c : ℕ) (before : List ℕ) (e : ℕ) → Rests k c before e → counter_after k (c ∷ before) c e ≡ tick_later k.cycle c
rests-plain k c before e (Level z) = subst (λ (x : ℕ). counter_after k (c ∷ before) c x ≡ tick_later k.cycle c) (sym z) (no-error k (c ∷ before) c)
rests-plain k c before e (Dwelt mode over) = plain-if k (c ∷ before) c e (corrected-dwells k (c ∷ before) c e mode ∙ dwell-over k c before over)
rests-plain k c before e (Added mode all) = plain-if k (c ∷ before) c e (corrected-adds k (c ∷ before) c e mode ∙ add-over k c before all)
rests-plain k c before e (Subtracted mode all) = plain-if k (c ∷ before) c e (corrected-subtracts k (c ∷ before) c e mode ∙ subtract-over k c before all)

-- and so it stays until the cycle ends
pub rests-on : (k : Correction) (c d : ℕ) (before : List ℕ) (e : ℕ) → d ≡ c + 1 → Rests k c before e → Rests k d (c ∷ before) e
rests-on k c d before e is (Level z) = Level z
rests-on k c d before e is (Dwelt mode over) = Dwelt mode (inl (omega arith))
rests-on k c d before e is (Added mode all) = Added mode (rw (stands-moved d c before (omega arith) (omega arith)) all)
rests-on k c d before e is (Subtracted mode all) = Subtracted mode (rw (skips-plain d c before is) all)

rest-run : (n : ℕ) (k : Correction) (t c : ℕ) (before : List ℕ) (e : ℕ) → 10 ≤ k.cycle → At k.cycle t c e → Rests k c before e
    → c + suc n ≡ k.cycle → NextCycle k t (c ∷ before) e (suc n)
rest-run zero k t c before e long a r last =
    let z : tick_later k.cycle c ≡ 0 = later-end k.cycle c (omega arith) in
    let is : next_counter k (c ∷ before) (tick_later k.cycle t) ≡ 0 = next-is k t c e before a ∙ rests-plain k c before e r ∙ z in
    let b : At k.cycle (tick_later k.cycle t) 0 e = subst (λ (x : ℕ). At k.cycle (tick_later k.cycle t) x e) z (plain-keeps k.cycle t c e a) in
    one-more k t (c ∷ before) 0 e zero is (λ h. absurd (omega arith)) (record {
      before = c ∷ before;
      is = refl;
      begins = begins-at c before (omega arith);
      first = λ m low high. absurd (omega arith);
      target = zero-error k.cycle (tick_later k.cycle t) e b;
      below = a.error;
    })
rest-run (suc n) k t c before e long a r more =
    let z : tick_later k.cycle c ≡ c + 1 = later-within k.cycle c (omega arith) in
    let is : next_counter k (c ∷ before) (tick_later k.cycle t) ≡ c + 1 = next-is k t c e before a ∙ rests-plain k c before e r ∙ z in
    let b : At k.cycle (tick_later k.cycle t) (c + 1) e = subst (λ (x : ℕ). At k.cycle (tick_later k.cycle t) x e) z (plain-keeps k.cycle t c e a) in
    one-more k t (c ∷ before) (c + 1) e (suc n) is (λ _. counts-on (c + 1) c (omega arith))
    (rest-run n k (tick_later k.cycle t) (c + 1) (c ∷ before) e long b (rests-on k c (c + 1) before e refl r) (omega arith))

-- the cycle ends in as many ticks as the counter is short of it
pub record Ends (k : Correction) (t c : ℕ) (before : List ℕ) (e : ℕ) : Type 0 where
  pub ticks : ℕ
  pub long : ticks + c ≡ k.cycle
  pub next : NextCycle k t (c ∷ before) e ticks

pub rest-ends : (k : Correction) (t c : ℕ) (before : List ℕ) (e : ℕ) → 10 ≤ k.cycle → At k.cycle t c e → Rests k c before e → Ends k t c before e
rest-ends k t c before e long a r =
    let below : c < k.cycle = a.counter in
    record { ticks = suc (k.cycle - c - 1); long = omega arith; next = rest-run (k.cycle - c - 1) k t c before e long a r (omega arith) }

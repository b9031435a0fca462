-- One tick of a cycle in which something is to be corrected.
use Rattle.std.proofs.Common.{◌≡◌, ◌⊎◌, inl, inr, ℕ, zero, suc, Bool, true, false, not, nat_le, ◌==◌, ◌&&◌, if◌then◌else◌, ◌+◌, ◌-◌, ◌%◌, ◌<◌, ◌≤◌, min, List, ◌∷◌, refl, sym, ◌∙◌, ap, subst, arith}
use Rattle.std.proofs.lemmas.Bool.{cases_order, cases_lt, leb-true}
use Rattle.sig_tables.specs.Counting.{Correction, HasRoom, tick_later, steps_for, dwelling, adding, skipping, stands, skips, last_step_changed, begins_cycle, next_counter, counter_after, needed}
use Rattle.coordination_laws.proofs.Steps.{fewer-steps, later-within, later-end}
use Rattle.coordination_laws.proofs.Looks.{fits, exceeds, stands-stood, changed-stood, stands-moved, changed-moved, skips-skipped, counts-on, stood-there, begins-at}
use Rattle.coordination_laws.proofs.Errors.{At, plain-keeps, stand-adds, stand-ends, skip-takes, next-is, in-window, past-window}
use Rattle.coordination_laws.proofs.Resting.{Adds, Subtracts, corrected-dwells, corrected-adds, corrected-subtracts, plain-if}
use Rattle.coordination_laws.proofs.Cycle.{still-adds, still-subtracts}
use Rattle.coordination_laws.proofs.Needed.{left-some}
use Rattle.coordination_laws.proofs.Going.{Goes, Dwells, Dwelt, AddsNext, AddsPlain, Added, SkipsNext, Skipped}

-- what a tick comes to: counter and target meet; the cycle continues; or the next begins, with fewer cycles to go
pub data After (k : Correction) (most spare t x : ℕ) (past : List ℕ) : Type 0 where
  Met : (level : At k.cycle t x 0) → After k most spare t x past
  On : (f : ℕ) → (here : At k.cycle t x f) → (some : 1 ≤ f) → (goes : Goes k most spare x past f) → (inside : begins_cycle (x ∷ past) ≡ false)
      → After k most spare t x past
  Over : (f : ℕ) → (begins : begins_cycle (x ∷ past) ≡ true) → (here : At k.cycle t x f) → (some : 1 ≤ f) → (few : needed k f + spare ≤ most)
      → After k most spare t x past

after-plain : (k : Correction) (most spare t c : ℕ) (before : List ℕ) (e : ℕ) → HasRoom k → At k.cycle t c e → 1 ≤ e
    → counter_after k (c ∷ before) c e ≡ tick_later k.cycle c
    → (c + 1 < k.cycle → Goes k most spare (c + 1) (c ∷ before) e) → (c + 1 ≡ k.cycle → needed k e + spare ≤ most)
    → After k most spare (tick_later k.cycle t) (next_counter k (c ∷ before) (tick_later k.cycle t)) (c ∷ before)
after-plain k most spare t c before e room a some is on over =
    subst (λ (x : ℕ). After k most spare (tick_later k.cycle t) x (c ∷ before)) (sym (next-is k t c e before a ∙ is)) (by (cases_order (c + 1) k.cycle))
  where
    long : 10 ≤ k.cycle
    long = room.cycle

    below : c < k.cycle
    below = a.counter

    b : At k.cycle (tick_later k.cycle t) (tick_later k.cycle c) e
    b = plain-keeps k.cycle t c e a

    by : (c + 1 ≡ k.cycle) ⊎ ((c + 1 < k.cycle) ⊎ (k.cycle < c + 1)) → After k most spare (tick_later k.cycle t) (tick_later k.cycle c) (c ∷ before)
    by (inl last) = let z : tick_later k.cycle c ≡ 0 = later-end k.cycle c last in
        Over e (subst (λ (x : ℕ). begins_cycle (x ∷ c ∷ before) ≡ true) (sym z) (begins-at c before (omega arith))) b some (over last)
    by (inr (inl within)) = let z : tick_later k.cycle c ≡ c + 1 = later-within k.cycle c within in
        On e b some (subst (λ (x : ℕ). Goes k most spare x (c ∷ before) e) (sym z) (on within))
        (subst (λ (x : ℕ). begins_cycle (x ∷ c ∷ before) ≡ false) (sym z) (counts-on (c + 1) c (omega arith)))
    by (inr (inr past)) = absurd (omega arith)

after-stand : (k : Correction) (most spare t c : ℕ) (before : List ℕ) (e : ℕ) → At k.cycle t c e → 1 ≤ e → counter_after k (c ∷ before) c e ≡ c
    → (e + 1 < k.cycle → Goes k most spare c (c ∷ before) (e + 1))
    → After k most spare (tick_later k.cycle t) (next_counter k (c ∷ before) (tick_later k.cycle t)) (c ∷ before)
after-stand k most spare t c before e a some is on =
    subst (λ (x : ℕ). After k most spare (tick_later k.cycle t) x (c ∷ before)) (sym (next-is k t c e before a ∙ is)) (by (cases_order (e + 1) k.cycle))
  where
    below : e < k.cycle
    below = a.error

    by : (e + 1 ≡ k.cycle) ⊎ ((e + 1 < k.cycle) ⊎ (k.cycle < e + 1)) → After k most spare (tick_later k.cycle t) c (c ∷ before)
    by (inl full) = Met (stand-ends k.cycle t c e a full)
    by (inr (inl less)) = On (e + 1) (stand-adds k.cycle t c e a less) (omega arith) (on less) (stood-there c)
    by (inr (inr more)) = absurd (omega arith)

after-skip : (k : Correction) (most spare t c : ℕ) (before : List ℕ) (e : ℕ) → At k.cycle t c (e + 1) → c + 2 < k.cycle
    → counter_after k (c ∷ before) c (e + 1) ≡ c + 2
    → (1 ≤ e → Goes k most spare (c + 2) (c ∷ before) e)
    → After k most spare (tick_later k.cycle t) (next_counter k (c ∷ before) (tick_later k.cycle t)) (c ∷ before)
after-skip k most spare t c before e a short is on =
    subst (λ (x : ℕ). After k most spare (tick_later k.cycle t) x (c ∷ before)) (sym (next-is k t c (e + 1) before a ∙ is)) (by (cases_order e 0))
  where
    b : At k.cycle (tick_later k.cycle t) (c + 2) e
    b = skip-takes k.cycle t c e a short

    by : (e ≡ 0) ⊎ ((e < 0) ⊎ (0 < e)) → After k most spare (tick_later k.cycle t) (c + 2) (c ∷ before)
    by (inl z) = Met (subst (λ (x : ℕ). At k.cycle (tick_later k.cycle t) (c + 2) x) z b)
    by (inr (inl low)) = absurd (omega arith)
    by (inr (inr some)) = On e b (omega arith) (on (omega arith)) (counts-on (c + 2) c (omega arith))

-- the number of cycles, by the mode
pub needed-adds : (k : Correction) (e : ℕ) → 1 ≤ e → e < k.cycle → Adds k e → needed k e ≤ steps_for (k.cycle - e) k.add
needed-adds k e some below (inl four) = let is : needed k e ≡ steps_for ((k.cycle - e) % k.cycle) k.add = rw four refl in
    let l : steps_for ((k.cycle - e) % k.cycle) k.add ≡ steps_for (k.cycle - e) k.add
    = ap (λ (x : ℕ). steps_for x k.add) (left-some k.cycle e some below) in omega arith
needed-adds k e some below (inr three) = let m = three.0 in
    let is : needed k e ≡ min (steps_for ((k.cycle - e) % k.cycle) k.add) (steps_for e k.subtract) = rw m refl in
    let l : steps_for ((k.cycle - e) % k.cycle) k.add ≡ steps_for (k.cycle - e) k.add
    = ap (λ (x : ℕ). steps_for x k.add) (left-some k.cycle e some below) in omega arith

pub needed-subtracts : (k : Correction) (e : ℕ) → Subtracts k e → needed k e ≤ steps_for e k.subtract
needed-subtracts k e h = let m = h.0 in
    let is : needed k e ≡ min (steps_for ((k.cycle - e) % k.cycle) k.add) (steps_for e k.subtract) = rw m refl in omega arith

pub needed-dwells : (k : Correction) (e : ℕ) → 1 ≤ e → e < k.cycle → k.mode ≡ 2 → needed k e ≤ steps_for (k.cycle - e) k.dwell
needed-dwells k e some below two = let is : needed k e ≡ steps_for ((k.cycle - e) % k.cycle) k.dwell = rw two refl in
    let l : steps_for ((k.cycle - e) % k.cycle) k.dwell ≡ steps_for (k.cycle - e) k.dwell
    = ap (λ (x : ℕ). steps_for x k.dwell) (left-some k.cycle e some below) in omega arith

-- with no waits or skips asked for in this cycle, the way grows no longer
tick-dwelt : (k : Correction) (most spare t c : ℕ) (before : List ℕ) (e : ℕ) → HasRoom k → At k.cycle t c e → 1 ≤ e → k.mode ≡ 2
    → steps_for (k.cycle - e) k.dwell + spare ≤ most → After k most spare (tick_later k.cycle t) (next_counter k (c ∷ before)
    (tick_later k.cycle t)) (c ∷ before)
tick-dwelt k most spare t c before e room a some two few = elim (cases_lt c k.window) [
  | inr past ↦ plain (past-window k (c ∷ before) c e past)
  | inl inside ↦ by (c == 0 && not (nat_le k.dwell (stands (c ∷ before)))) refl
      (in-window k (c ∷ before) c e inside some ∙ corrected-dwells k (c ∷ before) c e two)
]
  where
    below : e < k.cycle
    below = a.error

    plain : counter_after k (c ∷ before) c e ≡ tick_later k.cycle c
        → After k most spare (tick_later k.cycle t) (next_counter k (c ∷ before) (tick_later k.cycle t)) (c ∷ before)
    plain is = after-plain k most spare t c before e room a some is (λ _. Dwelt two few) (λ _. let n = needed-dwells k e some below two in omega arith)

    by : (b : Bool) → (c == 0 && not (nat_le k.dwell (stands (c ∷ before)))) ≡ b → counter_after k (c ∷ before) c e ≡ dwelling k (c ∷ before) c
        → After k most spare (tick_later k.cycle t) (next_counter k (c ∷ before) (tick_later k.cycle t)) (c ∷ before)
    by true h is = after-stand k most spare t c before e a some (is ∙ ap (λ (b : Bool). if b then c else tick_later k.cycle c) h)
        (λ less. Dwelt two (let w : steps_for (k.cycle - (e + 1)) k.dwell ≤ steps_for (k.cycle - e) k.dwell
        = fewer-steps _ _ k.dwell room.dwell (omega arith) in omega arith))
    by false h is = plain (is ∙ ap (λ (b : Bool). if b then c else tick_later k.cycle c) h)

tick-added : (k : Correction) (most spare t c : ℕ) (before : List ℕ) (e : ℕ) → HasRoom k → At k.cycle t c e → 1 ≤ e → Adds k e
    → steps_for (k.cycle - e) k.add + spare ≤ most → After k most spare (tick_later k.cycle t) (next_counter k (c ∷ before) (tick_later k.cycle t))
    (c ∷ before)
tick-added k most spare t c before e room a some mode few = elim (cases_lt c k.window) [
  | inr past ↦ plain (past-window k (c ∷ before) c e past)
  | inl inside ↦ by (last_step_changed (c ∷ before) && not (nat_le k.add (stands (c ∷ before)))) refl
      (in-window k (c ∷ before) c e inside some ∙ corrected-adds k (c ∷ before) c e mode)
]
  where
    below : e < k.cycle
    below = a.error

    plain : counter_after k (c ∷ before) c e ≡ tick_later k.cycle c
        → After k most spare (tick_later k.cycle t) (next_counter k (c ∷ before) (tick_later k.cycle t)) (c ∷ before)
    plain is = after-plain k most spare t c before e room a some is (λ _. Added mode few) (λ _. let n = needed-adds k e some below mode in omega arith)

    by : (b : Bool) → (last_step_changed (c ∷ before) && not (nat_le k.add (stands (c ∷ before)))) ≡ b
        → counter_after k (c ∷ before) c e ≡ adding k (c ∷ before) c
        → After k most spare (tick_later k.cycle t) (next_counter k (c ∷ before) (tick_later k.cycle t)) (c ∷ before)
    by true h is = after-stand k most spare t c before e a some (is ∙ ap (λ (b : Bool). if b then c else tick_later k.cycle c) h)
        (λ less. Added (still-adds k e room mode) (let w : steps_for (k.cycle - (e + 1)) k.add ≤ steps_for (k.cycle - e) k.add
        = fewer-steps _ _ k.add room.add (omega arith) in omega arith))
    by false h is = plain (is ∙ ap (λ (b : Bool). if b then c else tick_later k.cycle c) h)

tick-skipped : (k : Correction) (most spare t c : ℕ) (before : List ℕ) (e : ℕ) → HasRoom k → At k.cycle t c (e + 1) → Subtracts k (e + 1)
    → steps_for (e + 1) k.subtract + spare ≤ most → After k most spare (tick_later k.cycle t) (next_counter k (c ∷ before) (tick_later k.cycle t))
    (c ∷ before)
tick-skipped k most spare t c before e room a mode few = elim (cases_lt c k.window) [
  | inr past ↦ plain (past-window k (c ∷ before) c (e + 1) past)
  | inl inside ↦ by (nat_le (c + 2) k.window) (not (nat_le k.subtract (skips (c ∷ before)))) refl refl
      (in-window k (c ∷ before) c (e + 1) inside (omega arith) ∙ corrected-subtracts k (c ∷ before) c (e + 1) mode)
]
  where
    plain : counter_after k (c ∷ before) c (e + 1) ≡ tick_later k.cycle c
        → After k most spare (tick_later k.cycle t) (next_counter k (c ∷ before) (tick_later k.cycle t)) (c ∷ before)
    plain is = after-plain k most spare t c before (e + 1) room a (omega arith) is (λ _. Skipped mode few) (λ _. let n
        = needed-subtracts k (e + 1) mode in omega arith)

    by : (b d : Bool) → nat_le (c + 2) k.window ≡ b → not (nat_le k.subtract (skips (c ∷ before))) ≡ d
        → counter_after k (c ∷ before) c (e + 1) ≡ skipping k (c ∷ before) c
        → After k most spare (tick_later k.cycle t) (next_counter k (c ∷ before) (tick_later k.cycle t)) (c ∷ before)
    by true true h g is = after-skip k most spare t c before e a (let le : c + 2 ≤ k.window = leb-true _ _ h in omega (arith, room.window)) (is
        ∙ rw (h, g) refl)
        (λ some. Skipped (still-subtracts k e room mode) (let w : steps_for e k.subtract ≤ steps_for (e + 1) k.subtract
        = fewer-steps _ _ k.subtract room.subtract (omega arith) in omega arith))
    by true false h g is = plain (is ∙ rw (h, g) refl)
    by false d h g is = plain (is ∙ rw h refl)

-- every state
pub tick : (k : Correction) (most spare t c : ℕ) (before : List ℕ) (e : ℕ) → HasRoom k → At k.cycle t c e → 1 ≤ e → Goes k most spare c before e
    → After k most spare (tick_later k.cycle t) (next_counter k (c ∷ before) (tick_later k.cycle t)) (c ∷ before)
tick k most spare t c before e room a some (Dwells two zero at all few) =
    tick-dwelt k most spare t c before e room a some two (subst (λ (x : ℕ). steps_for x k.dwell + spare ≤ most)
    (let q : k.cycle - e - 0 ≡ k.cycle - e = omega arith in q) few)
tick k most spare t c before e room a some (Dwells two (suc left) at all few) =
    let inside : c < k.window = omega (arith, room.add, room.stands) in
    let is : counter_after k (c ∷ before) c e ≡ c
    = in-window k (c ∷ before) c e inside some ∙ corrected-dwells k (c ∷ before) c e two
    ∙ rw (at, exceeds k.dwell (stands (c ∷ before)) (omega arith)) refl in
    after-stand k most spare t c before e a some is
    (λ less. Dwells two left at (let s = stands-stood c before in omega arith)
    (subst (λ (x : ℕ). steps_for x k.dwell + spare ≤ most) (let q : k.cycle - e - suc left ≡ k.cycle - (e + 1) - left = omega arith in q) few))
tick k most spare t c before e room a some (Dwelt two few) = tick-dwelt k most spare t c before e room a some two few
tick k most spare t c before e room a some (AddsNext mode zero all stood moved few) =
    tick-added k most spare t c before e room a some mode (subst (λ (x : ℕ). steps_for x k.add + spare ≤ most)
    (let q : k.cycle - e - 0 ≡ k.cycle - e = omega arith in q) few)
tick k most spare t c before e room a some (AddsNext mode (suc left) all stood moved few) =
    let inside : c < k.window = omega (arith, room.stands) in
    let is : counter_after k (c ∷ before) c e ≡ c
    = in-window k (c ∷ before) c e inside some ∙ corrected-adds k (c ∷ before) c e mode
    ∙ rw (moved, exceeds k.add (stands (c ∷ before)) (omega arith)) refl in
    after-stand k most spare t c before e a some is
    (λ less. AddsPlain (still-adds k e room mode) left (omega arith) (stands-stood c before ∙ ap (λ (x : ℕ). x + 1) stood) (changed-stood c before)
    (subst (λ (x : ℕ). steps_for x k.add + spare ≤ most) (let q : k.cycle - e - suc left ≡ k.cycle - (e + 1) - left = omega arith in q) few))
tick k most spare t c before e room a some (AddsPlain mode left all stood moved few) =
    let short : c + 1 < k.cycle = omega (arith, room.stands, room.window) in
    after-plain k most spare t c before e room a some (plain-if k (c ∷ before) c e (corrected-adds k (c ∷ before) c e mode ∙ rw moved refl))
    (λ _. AddsNext mode left all (stands-moved (c + 1) c before (omega arith) (omega arith) ∙ stood) (changed-moved (c + 1) c before (omega arith)) few)
    (λ last. absurd (omega arith))
tick k most spare t c before e room a some (Added mode few) = tick-added k most spare t c before e room a some mode few
tick k most spare t c before zero room a some (SkipsNext mode left all twice stood moved few) = absurd (omega arith)
tick k most spare t c before (suc e) room a some (SkipsNext mode zero all twice stood moved few) =
    let s : suc e ≡ e + 1 = omega arith in
    tick-skipped k most spare t c before e room (subst (λ (x : ℕ). At k.cycle t c x) s a) (subst (λ (x : ℕ). Subtracts k x) s mode)
    (subst (λ (x : ℕ). steps_for x k.subtract + spare ≤ most) (let q : suc e - 0 ≡ e + 1 = omega arith in q) few)
tick k most spare t c before (suc e) room a some (SkipsNext mode (suc left) all twice stood moved few) =
    let s : suc e ≡ e + 1 = omega arith in
    let mode' : Subtracts k (e + 1) = subst (λ (x : ℕ). Subtracts k x) s mode in
    let fit : c + 2 ≤ k.window = omega (arith, room.skips) in
    let is : counter_after k (c ∷ before) c (e + 1) ≡ c + 2
    = in-window k (c ∷ before) c (e + 1) (omega arith) (omega arith) ∙ corrected-subtracts k (c ∷ before) c (e + 1) mode'
    ∙ rw (fits (c + 2) k.window fit, exceeds k.subtract (skips (c ∷ before)) (omega arith)) refl in
    after-skip k most spare t c before e (subst (λ (x : ℕ). At k.cycle t c x) s a) (omega (arith, room.window)) is
    (λ _. let skipped : skips ((c + 2) ∷ c ∷ before) ≡ skips (c ∷ before) + 1 = skips-skipped (c + 2) c before refl in
    SkipsNext (still-subtracts k e room mode') left (omega arith) (omega arith) (stands-moved (c + 2) c before (omega arith) (omega arith) ∙ stood)
    (changed-moved (c + 2) c before (omega arith))
    (subst (λ (x : ℕ). steps_for x k.subtract + spare ≤ most) (let q : suc e - suc left ≡ e - left = omega arith in q) few))
tick k most spare t c before zero room a some (Skipped mode few) = absurd (omega arith)
tick k most spare t c before (suc e) room a some (Skipped mode few) =
    let s : suc e ≡ e + 1 = omega arith in
    tick-skipped k most spare t c before e room (subst (λ (x : ℕ). At k.cycle t c x) s a) (subst (λ (x : ℕ). Subtracts k x) s mode)
    (subst (λ (x : ℕ). steps_for x k.subtract + spare ≤ most) s few)

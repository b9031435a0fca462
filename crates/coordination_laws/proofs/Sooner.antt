-- Counter and target are not equal before the last of the needed cycles.
use Rattle.std.proofs.Common.{◌≡◌, ◌≢◌, inl, inr, ℕ, zero, suc, Bool, true, false, ◌==◌, if◌then◌else◌, ◌+◌, ◌-◌, ◌%◌, ◌*◌, ◌<◌, ◌≤◌, min, List, [], ◌∷◌, refl, sym, ◌∙◌, ap, subst, arith}
use Rattle.std.proofs.Math.Nat.{mod-lt}
use Rattle.std.proofs.lemmas.Bool.{cases_order, cases_lt}
use Rattle.sig_tables.specs.Counting.{Correction, HasRoom, tick_later, steps_for, begins_cycle, next_counter, last_counter, counted, needed, most_a_cycle}
use Rattle.coordination_laws.specs.Correcting.{AreEqual}
use Rattle.coordination_laws.proofs.Steps.{no-steps}
use Rattle.coordination_laws.proofs.Needed.{left-none}
use Rattle.coordination_laws.proofs.Resting.{gone, NextCycle}
use Rattle.coordination_laws.proofs.Onto.{gone-is, counted-more, gone-more, stays-equal, Turned, turns, begun-zero}

-- on target no cycle is needed
none-on-target : (k : Correction) → HasRoom k → needed k 0 ≡ 0
none-on-target k room = pick (k.mode == 2) (k.mode == 4)
  where
    left : (k.cycle - 0) % k.cycle ≡ 0
    left = left-none k.cycle 0 refl

    pick : (a b : Bool) → (if a then steps_for ((k.cycle - 0) % k.cycle) k.dwell
        else if b then steps_for ((k.cycle - 0) % k.cycle) k.add
        else min (steps_for ((k.cycle - 0) % k.cycle) k.add) (steps_for 0 k.subtract)) ≡ 0
    pick true b = rw left (no-steps k.dwell room.dwell)
    pick false true = rw left (no-steps k.add room.add)
    pick false false = rw (left, no-steps k.add room.add) (omega arith)

-- some counter there is after any number of ticks
counted-some : (n : ℕ) (k : Correction) (t : ℕ) (past : List ℕ) → past ≢ [] → counted k n t past ≢ []
counted-some zero k t past some = some
counted-some (suc n) k t past some = counted-some n k (tick_later k.cycle t) (next_counter k past (tick_later k.cycle t) ∷ past) (λ e. cc)

-- equal is equal for ever, from any moment
equal-on : (n : ℕ) (k : Correction) (t : ℕ) (past : List ℕ) → t < k.cycle → past ≢ [] → last_counter past ≡ t
    → last_counter (counted k n t past) ≡ gone k.cycle n t
equal-on n k t [] below some equal = absurd (some refl)
equal-on n k t (c ∷ before) below some equal =
    let same : c ≡ t = equal in
    stays-equal n k t c before (record { counter = omega arith; target = below; error = omega arith; ahead = inl (omega arith) })

-- so equality within a cycle lasts to its end
equal-at-end : (k : Correction) (t : ℕ) (past : List ℕ) (end ticks n : ℕ) → NextCycle k t past end ticks → t < k.cycle → past ≢ [] → n ≤ ticks
    → last_counter (counted k n t past) ≡ gone k.cycle n t → end ≡ 0
equal-at-end k t past end ticks n next below some le equal =
    let e : n + (ticks - n) ≡ ticks = omega arith in
    let low : gone k.cycle n t < k.cycle = rw (gone-is n k.cycle t below) (mod-lt (t + n) (omega arith)) in
    let on : last_counter (counted k (ticks - n) (gone k.cycle n t) (counted k n t past)) ≡ gone k.cycle (ticks - n) (gone k.cycle n t)
    = equal-on (ticks - n) k (gone k.cycle n t) (counted k n t past) low (counted-some n k t past some) equal in
    let more : last_counter (counted k (n + (ticks - n)) t past) ≡ gone k.cycle (n + (ticks - n)) t
    = ap last_counter (counted-more n k (ticks - n) t past) ∙ on ∙ sym (gone-more n k.cycle (ticks - n) t) in
    let last : last_counter (counted k ticks t past) ≡ gone k.cycle ticks t
    = subst (λ (y : ℕ). last_counter (counted k y t past) ≡ gone k.cycle y t) e more in
    sym next.target ∙ sym last ∙ ap last_counter next.is

-- what is equal after the cycle was counted from its end
equal-after : (k : Correction) (t : ℕ) (past : List ℕ) (end ticks n : ℕ) (next : NextCycle k t past end ticks) → ticks ≤ n
    → last_counter (counted k n t past) ≡ gone k.cycle n t
    → last_counter (counted k (n - ticks) end (0 ∷ next.before)) ≡ gone k.cycle (n - ticks) end
equal-after k t past end ticks n next le equal =
    let e : n ≡ ticks + (n - ticks) = omega arith in
    let there : last_counter (counted k (ticks + (n - ticks)) t past) ≡ gone k.cycle (ticks + (n - ticks)) t
    = subst (λ (y : ℕ). last_counter (counted k y t past) ≡ gone k.cycle y t) e equal in
    sym (ap last_counter (counted-more ticks k (n - ticks) t past)
    ∙ ap (λ (y : ℕ). last_counter (counted k (n - ticks) y (counted k ticks t past))) next.target
    ∙ ap (λ (ys : List ℕ). last_counter (counted k (n - ticks) end ys)) next.is)
    ∙ there ∙ gone-more ticks k.cycle (n - ticks) t ∙ ap (gone k.cycle (n - ticks)) next.target

-- some counter there is where a cycle begins
begun-some : (past : List ℕ) → begins_cycle past ≡ true → past ≢ []
begun-some [] b = λ _. cc
begun-some (c ∷ before) b = λ e. cc

-- every cycle that does not come to its end on target takes that many ticks
abbrev Takes : Correction → ℕ → Type 0
Takes k least = (t : ℕ) (past : List ℕ) (x : Turned k t past) → 1 ≤ x.end → least ≤ x.ticks

-- so equality comes only after all of the needed cycles but the last
sooner : (cycles : ℕ) (k : Correction) (least t : ℕ) (past : List ℕ) (n : ℕ) → HasRoom k → Takes k least → t < k.cycle → begins_cycle past ≡ true
    → 1 ≤ t → needed k t ≡ suc cycles → last_counter (counted k n t past) ≡ gone k.cycle n t → cycles * least < n
sooner zero k least t past zero room takes below b some few equal =
    absurd (let z : last_counter past ≡ 0 = begun-zero past b in let q : last_counter past ≡ t = equal in omega arith)
sooner zero k least t past (suc n) room takes below b some few equal = omega arith
sooner (suc cycles) k least t past n room takes below b some few equal =
    let x : Turned k t past = turns k t past room below b in
    let e : needed k t ≡ needed k x.end + 1 = x.closer some in
    let ends : 1 ≤ x.end = elim (cases_order x.end 0) [
      | inl z ↦ absurd (let none : needed k x.end ≡ 0 = ap (needed k) z ∙ none-on-target k room in omega arith)
      | inr (inl l) ↦ absurd (omega arith)
      | inr (inr g) ↦ omega arith
    ] in
    let long : least ≤ x.ticks = takes t past x ends in
    elim (cases_lt x.ticks n) [
      | inl past-end ↦
          let less : cycles * least < n - x.ticks
          = sooner cycles k least x.end (0 ∷ x.next.before) (n - x.ticks) room takes x.next.below x.next.begins ends (omega arith)
          (equal-after k t past x.end x.ticks n x.next (omega arith) equal) in
          omega arith
      | inr within ↦ absurd (let z : x.end ≡ 0 = equal-at-end k t past x.end x.ticks n x.next below (begun-some past b) within equal in omega arith)
    ]

by-needed : (k : Correction) (least : ℕ) (past : List ℕ) (target n : ℕ) → HasRoom k → Takes k least → begins_cycle past ≡ true → target < k.cycle
    → 1 ≤ target → AreEqual k past target n → (needed k target - 1) * least < n
by-needed k least past target n room takes b below some equal =
    let x : Turned k target past = turns k target past room below b in
    let e : needed k target ≡ needed k x.end + 1 = x.closer some in
    sooner (needed k target - 1) k least target past n room takes below b some (omega arith) (equal ∙ sym (gone-is n k.cycle target below))

-- the laws, as they are stated
pub not-sooner : (k : Correction) (past : List ℕ) (target n : ℕ) → HasRoom k → begins_cycle past ≡ true → target < k.cycle → 1 ≤ target
    → AreEqual k past target n → (needed k target - 1) * (k.cycle - k.subtract) < n
not-sooner k past target n room b below some equal =
    by-needed k (k.cycle - k.subtract) past target n room (λ t ps x ends. omega (arith, x.least)) b below some equal

pub not-sooner-adding : (k : Correction) (past : List ℕ) (target n : ℕ) → HasRoom k → begins_cycle past ≡ true → target < k.cycle → 1 ≤ target
    → k.mode ≢ 3 → AreEqual k past target n → (needed k target - 1) * (k.cycle + most_a_cycle k) < n
not-sooner-adding k past target n room b below some mode equal =
    by-needed k (k.cycle + most_a_cycle k) past target n room (λ t ps x ends. omega (arith, x.whole mode ends)) b below some equal

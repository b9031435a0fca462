-- The counter meets the target within twice the needed cycles.
use Rattle.std.proofs.Common.{◌≡◌, ◌≢◌, ◌⊎◌, inl, inr, ℕ, zero, suc, true, ◌+◌, ◌*◌, ◌<◌, ◌≤◌, List, ◌∷◌, sym, ◌∙◌, ap, subst, arith}
use Rattle.std.proofs.lemmas.Bool.{cases_order}
use Rattle.sig_tables.specs.Counting.{Correction, HasRoom, stands, begins_cycle, last_counter, needed, most_a_cycle, next_counter}
use Rattle.coordination_laws.specs.Stepping.{KeepsLimits}
use Rattle.coordination_laws.proofs.Looks.{Begun, begun}
use Rattle.coordination_laws.proofs.Errors.{At, at-zero, zero-error}
use Rattle.coordination_laws.proofs.Onto.{Turned, turns}
use Rattle.coordination_laws.specs.Drifting.{Drift, Even, moved, next_drifts, drifted, target_drifted, Spaced, CanCorrect, MeetsTarget}
use Rattle.coordination_laws.proofs.OffsetCycles.{goes-from-zero, quiet-run, drift-run, Meeting, Turning, Cycled, Meets, Nearer, Drifted, spaced-next, can-next, even-or}

-- what the clock does from n ticks on
abbrev pub shifted : ℕ → (ℕ → Drift) → ℕ → Drift
shifted zero drifts = drifts
shifted (suc n) drifts = shifted n (next_drifts drifts)

pub shifted-at : (n : ℕ) (drifts : ℕ → Drift) (i : ℕ) → shifted n drifts i ≡ drifts (n + i)
shifted-at zero drifts i = ap drifts (let e : i ≡ 0 + i = omega arith in e)
shifted-at (suc n) drifts i = shifted-at n (next_drifts drifts) i ∙ ap drifts (let e : suc (n + i) ≡ suc n + i = omega arith in e)

pub shifted-spaced : (n gap : ℕ) (drifts : ℕ → Drift) → Spaced gap drifts → Spaced gap (shifted n drifts)
shifted-spaced zero gap drifts s = s
shifted-spaced (suc n) gap drifts s = shifted-spaced n gap (next_drifts drifts) (spaced-next gap drifts s)

pub shifted-can : (n : ℕ) (k : Correction) (drifts : ℕ → Drift) → CanCorrect k drifts → CanCorrect k (shifted n drifts)
shifted-can zero k drifts c = c
shifted-can (suc n) k drifts c = shifted-can n k (next_drifts drifts) (can-next k drifts c)

pub drifted-more : (a : ℕ) (k : Correction) (b : ℕ) (drifts : ℕ → Drift) (t : ℕ) (past : List ℕ)
    → drifted k (a + b) drifts t past ≡ drifted k b (shifted a drifts) (target_drifted k.cycle a drifts t) (drifted k a drifts t past)
drifted-more zero k b drifts t past = ap (λ (x : ℕ). drifted k x drifts t past) (let e : 0 + b ≡ b = omega arith in e)
drifted-more (suc a) k b drifts t past =
    ap (λ (x : ℕ). drifted k x drifts t past) (let e : suc a + b ≡ suc (a + b) = omega arith in e)
    ∙ drifted-more a k b (next_drifts drifts) (moved k.cycle (drifts 0) t) (next_counter k past (moved k.cycle (drifts 0) t) ∷ past)

pub target-more : (a cycle b : ℕ) (drifts : ℕ → Drift) (t : ℕ)
    → target_drifted cycle (a + b) drifts t ≡ target_drifted cycle b (shifted a drifts) (target_drifted cycle a drifts t)
target-more zero cycle b drifts t = ap (λ (x : ℕ). target_drifted cycle x drifts t) (let e : 0 + b ≡ b = omega arith in e)
target-more (suc a) cycle b drifts t =
    ap (λ (x : ℕ). target_drifted cycle x drifts t) (let e : suc a + b ≡ suc (a + b) = omega arith in e)
    ∙ target-more a cycle b (next_drifts drifts) (moved cycle (drifts 0) t)

-- ticks, and then a meeting
later-meets : (k : Correction) (a : ℕ) (drifts : ℕ → Drift) (t : ℕ) (past : List ℕ) (s : ℕ) (ps : List ℕ) (m most : ℕ) → drifted k a drifts t past ≡ ps
    → target_drifted k.cycle a drifts t ≡ s → MeetsTarget k (shifted a drifts) ps s m → a + m ≤ most → MeetsTarget k drifts past t most
later-meets k a drifts t past s ps m most is target x le = record {
  moment = a + x.moment;
  within = omega (arith, x.within);
  equal = ap last_counter (drifted-more a k x.moment drifts t past
      ∙ ap (λ (y : ℕ). drifted k x.moment (shifted a drifts) y (drifted k a drifts t past)) target
      ∙ ap (λ (ys : List ℕ). drifted k x.moment (shifted a drifts) s ys) is)
      ∙ x.equal ∙ sym (target-more a k.cycle x.moment drifts t ∙ ap (target_drifted k.cycle x.moment (shifted a drifts)) target);
}

meeting-meets : (k : Correction) (m : ℕ) (drifts : ℕ → Drift) (t : ℕ) (past : List ℕ) (most : ℕ) → Meeting k m drifts t past → m ≤ most
    → MeetsTarget k drifts past t most
meeting-meets k m drifts t past most x le = record {
  moment = x.ticks;
  within = omega (arith, x.within);
  equal = ap last_counter x.is ∙ equal-at (target_drifted k.cycle x.ticks drifts t) x.counter x.level;
}
  where
    equal-at : (s c : ℕ) → At k.cycle s c 0 → c ≡ s
    equal-at s c a = elim a.ahead [ inl h ↦ omega arith | inr h ↦ absurd (let l : c < k.cycle = a.counter in omega arith) ]

meets-at-zero : (k : Correction) (drifts : ℕ → Drift) (past : List ℕ) (t most : ℕ) → begins_cycle past ≡ true → t ≡ 0 → MeetsTarget k drifts past t most
meets-at-zero k drifts past t most b z = let x : Begun past = begun past b in record {
  moment = 0;
  within = omega arith;
  equal
      = ap last_counter x.is ∙ sym z;
}

-- the limits at a local zero, and the most that a cycle takes
pub zero-keeps : (k : Correction) (before : List ℕ) → HasRoom k → stands (0 ∷ before) ≡ 0 → KeepsLimits k (0 ∷ before)
zero-keeps k before room s = record { counter = (let l : 10 ≤ k.cycle = room.cycle in let g : 0 < k.cycle = omega arith in g); stood = omega arith }

modes : (m : ℕ) → 2 ≤ m → m ≤ 4 → (m ≡ 2) ⊎ ((m ≡ 3) ⊎ (m ≡ 4))
modes m low high = elim (cases_order m 3) [ inl e ↦ inr (inl e) | inr (inl l) ↦ inl (omega arith) | inr (inr g) ↦ inr (inr (omega arith)) ]

-- one cycle with a step of drift at most, from a local zero
cycle-from : (k : Correction) (most gap : ℕ) (drifts : ℕ → Drift) (t : ℕ) (past : List ℕ) → HasRoom k → begins_cycle past ≡ true → 1 ≤ t
    → t < k.cycle → needed k t ≤ most
    → k.cycle + most_a_cycle k ≤ gap → Spaced gap drifts → CanCorrect k drifts → Cycled k most (k.cycle + most_a_cycle k) drifts t past
cycle-from k most gap drifts t past room b some below n short spaced can =
    let x : Begun past = begun past b in
    subst (λ (ps : List ℕ). Cycled k most (k.cycle + most_a_cycle k) drifts t ps) (sym x.is)
    (drift-run (k.cycle + most_a_cycle k) k most gap drifts t 0 x.before t room (zero-keeps k x.before room x.stood) (let s : stands
    (0 ∷ x.before) ≡ 0 = x.stood in omega arith) short spaced can
    (at-zero k.cycle t below) some (goes-from-zero k most t x.before room
    (modes k.mode room.least_mode room.greatest_mode) some below x.stood x.skipped x.changed n))

-- and one with none
quiet-from : (k : Correction) (most : ℕ) (drifts : ℕ → Drift) (t : ℕ) (past : List ℕ) → HasRoom k → begins_cycle past ≡ true → 1 ≤ t → t < k.cycle
    → needed k t ≤ most
    → ((i : ℕ) → i < k.cycle + most_a_cycle k → drifts i ≡ Even)
    → Meeting k (k.cycle + most_a_cycle k) drifts t past ⊎ Turning k most 1 (k.cycle + most_a_cycle k) drifts t past
quiet-from k most drifts t past room b some below n quiet =
    let x : Begun past = begun past b in
    subst (λ (ps : List ℕ). Meeting k (k.cycle + most_a_cycle k) drifts t ps ⊎ Turning k most 1 (k.cycle + most_a_cycle k) drifts t ps) (sym x.is)
    (quiet-run (k.cycle + most_a_cycle k) k most 1 drifts t 0 x.before t room (zero-keeps k x.before room x.stood) (let s : stands
    (0 ∷ x.before) ≡ 0 = x.stood in omega arith) quiet
    (at-zero k.cycle t below) some (goes-from-zero k most t x.before room
    (modes k.mode room.least_mode room.greatest_mode) some below x.stood x.skipped x.changed n))

-- after a cycle with a step of drift the next has none
quiet-next : (gap whole n j : ℕ) (drifts : ℕ → Drift) → Spaced gap drifts → 2 * whole ≤ gap → n ≤ whole → j < n → drifts j ≢ Even → (i : ℕ)
    → i < whole → shifted n drifts i ≡ Even
quiet-next gap whole n j drifts spaced far le in_cycle step i low = elim (even-or (shifted n drifts i)) [
  | inl e ↦ e
  | inr ne ↦ absurd (let apart : j + gap ≤ n + i = spaced j (n + i) (omega arith) step (λ e. ne (shifted-at n drifts i ∙ e)) in omega arith)
]

-- what is left after it
second : (k : Correction) (cycles gap : ℕ) (ds : ℕ → Drift) (s : ℕ) (ps : List ℕ) → Spaced gap ds → CanCorrect k ds
    → ((a : ℕ) (ds : ℕ → Drift) (s : ℕ) (ps : List ℕ) → Spaced gap ds → CanCorrect k ds → begins_cycle ps ≡ true → s < k.cycle → needed k s ≤ cycles
    → MeetsTarget k ds ps s (2 * (cycles * (k.cycle + most_a_cycle k))))
    → Meeting k (k.cycle + most_a_cycle k) ds s ps ⊎ Turning k (suc cycles) 1 (k.cycle + most_a_cycle k) ds s ps
    → MeetsTarget k ds ps s (k.cycle + most_a_cycle k + 2 * (cycles * (k.cycle + most_a_cycle k)))
second k cycles gap ds s ps spaced can more (inl m) = meeting-meets k (k.cycle + most_a_cycle k) ds s ps _ m (omega arith)
second k cycles gap ds s ps spaced can more (inr y) =
    let within : y.ticks ≤ k.cycle + most_a_cycle k = y.within in
    let few : needed k y.error + 1 ≤ suc cycles = y.few in
    later-meets k y.ticks ds s ps y.error (0 ∷ y.before) (2 * (cycles * (k.cycle + most_a_cycle k))) _ y.is (zero-error k.cycle _ y.error y.here)
    (more y.ticks (shifted y.ticks ds) y.error (0 ∷ y.before) (shifted-spaced y.ticks gap ds spaced)
    (shifted-can y.ticks k ds can) y.begins y.here.error (omega arith))
    (omega arith)

pub reaches : (cycles : ℕ) (k : Correction) (gap : ℕ) (drifts : ℕ → Drift) (t : ℕ) (past : List ℕ) → HasRoom k
    → 2 * (k.cycle + most_a_cycle k) ≤ gap → Spaced gap drifts → CanCorrect k drifts
    → begins_cycle past ≡ true → t < k.cycle → needed k t ≤ cycles → MeetsTarget k drifts past t (2 * (cycles * (k.cycle + most_a_cycle k)))
reaches zero k gap drifts t past room far spaced can b below n = elim (cases_order t 0) [
  | inl z ↦ meets-at-zero k drifts past t _ b z
  | inr (inl l) ↦ absurd (omega arith)
  | inr (inr some) ↦
      let x : Turned k t past = turns k t past room below b in
      absurd (let e : needed k t ≡ needed k x.end + 1 = x.closer some in omega arith)
]
reaches (suc cycles) k gap drifts t past room far spaced can b below n = elim (cases_order t 0) [
  | inl z ↦ meets-at-zero k drifts past t _ b z
  | inr (inl l) ↦ absurd (omega arith)
  | inr (inr some) ↦ by (cycle-from k (suc cycles) gap drifts t past room b some below n (omega arith) spaced can)
      (λ a ds s ps sp c bg lt nd. reaches cycles k gap ds s ps room far sp c bg lt nd)
]
  where
    by : Cycled k (suc cycles) (k.cycle + most_a_cycle k) drifts t past
        → ((a : ℕ) (ds : ℕ → Drift) (s : ℕ) (ps : List ℕ) → Spaced gap ds → CanCorrect k ds → begins_cycle ps ≡ true → s < k.cycle → needed k s ≤ cycles
        → MeetsTarget k ds ps s (2 * (cycles * (k.cycle + most_a_cycle k))))
        → MeetsTarget k drifts past t (2 * (suc cycles * (k.cycle + most_a_cycle k)))
    by (Meets x) more = meeting-meets k (k.cycle + most_a_cycle k) drifts t past _ x (omega arith)
    by (Nearer x) more =
        let within : x.ticks ≤ k.cycle + most_a_cycle k = x.within in
        let few : needed k x.error + 1 ≤ suc cycles = x.few in
        later-meets k x.ticks drifts t past x.error (0 ∷ x.before) (2 * (cycles * (k.cycle + most_a_cycle k))) _ x.is (zero-error k.cycle _ x.error x.here)
        (more x.ticks (shifted x.ticks drifts) x.error (0 ∷ x.before) (shifted-spaced x.ticks gap drifts spaced)
        (shifted-can x.ticks k drifts can) x.begins x.here.error (omega arith))
        (omega arith)
    by (Drifted x j in_cycle step) more =
        let within : x.ticks ≤ k.cycle + most_a_cycle k = x.within in
        let few : needed k x.error + 0 ≤ suc cycles = x.few in
        later-meets k x.ticks drifts t past x.error (0 ∷ x.before) (k.cycle + most_a_cycle k + 2 * (cycles * (k.cycle + most_a_cycle k))) _ x.is
        (zero-error k.cycle _ x.error x.here)
        (second k cycles gap (shifted x.ticks drifts) x.error (0 ∷ x.before) (shifted-spaced x.ticks gap drifts spaced)
        (shifted-can x.ticks k drifts can) more
        (quiet-from k (suc cycles) (shifted x.ticks drifts) x.error (0 ∷ x.before) room x.begins x.some x.here.error (omega arith)
        (quiet-next gap (k.cycle + most_a_cycle k) x.ticks j drifts spaced far within in_cycle step)))
        (omega arith)

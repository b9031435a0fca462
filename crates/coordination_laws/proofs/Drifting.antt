-- Ticks at which a slow clock gains or loses lie far apart, so that the counter comes near its target and stays near.
use Rattle.std.proofs.Common.{◌≡◌, ◌≢◌, ◌⊎◌, inl, inr, ℕ, zero, suc, ◌+◌, ◌-◌, ◌*◌, ◌%◌, ◌≤◌, ◌<◌, Bool, true, false, not, nat_le}
use Rattle.std.proofs.Common.{◌==◌, ◌&&◌, ◌||◌, if◌then◌else◌, List, ◌∷◌, refl, sym, ◌∙◌, ap, subst, arith}
use Rattle.std.proofs.Math.Nat.{mod-eq_of_lt, mod-add-mod}
use Rattle.std.proofs.lemmas.Bool.{false≢true, cases_Bool, cases_lt, and_parts, leb-true, eqb-true}
use Rattle.sig_tables.specs.Counting.{Correction, HasRoom, next_counter, last_counter, counted, target_after, tick_later, begins_cycle, needed, most_a_cycle}
use Rattle.sig_tables.specs.Clock.{is_each}
use Rattle.coordination_laws.specs.Correcting.{ComesOntoOffset}
use Rattle.coordination_laws.proofs.Looks.{same}
use Rattle.coordination_laws.proofs.Resting.{gone}
use Rattle.coordination_laws.proofs.Onto.{gone-is, comes-onto}
use Rattle.coordination_laws.specs.Drifting.{Drift as Step, Even, Gains, moved, next_drifts, drifted, target_drifted, Spaced, CanCorrect, IsNear, StaysNear}
use Rattle.coordination_laws.proofs.Near.{meets-and-stays}
use Rattle.plan_facts.specs.Disturbances.{Drift, IsSlow, drift_gap, drifts}
use Rattle.plan_facts.specs.Bounds.{cycles_for_one}
use Rattle.coordination_laws.specs.Cycles.{step_of, step_at, steps_after, HasTime, are_near, ComesNear}

-- ---- two multiples of a number lie at least that number apart
too-near : (g a x : ℕ) → 0 < x → x < g → a % g ≡ 0 → (a + x) % g ≡ 0 → ⊥
too-near g a x some less ha hb =
    let e : (a + x) % g ≡ x
    = sym (mod-add-mod a g x) ∙ ap (λ (y : ℕ). (y + x) % g) ha ∙ ap (λ (y : ℕ). y % g) (let z : 0 + x ≡ x = omega arith in z) ∙ mod-eq_of_lt less in
    let none : x ≡ 0 = sym e ∙ hb in absurd (omega arith)

multiples-apart : (g a b : ℕ) → a % g ≡ 0 → b % g ≡ 0 → a < b → a + g ≤ b
multiples-apart g a b ha hb less = elim (cases_lt b (a + g)) [
  | inr far ↦ far
  | inl near ↦
      let up : b ≡ a + (b - a) = omega arith in
      absurd (too-near g a (b - a) (omega arith) (omega arith) ha (ap (λ (y : ℕ). y % g) (sym up) ∙ hb))
]

each-apart : (many a b : ℕ) → (many ≡ 0) ⊎ (drift_gap ≤ many) → is_each many a ≡ true → is_each many b ≡ true → a < b → a + drift_gap ≤ b
each-apart many a b slow ha hb less =
    let pa = and_parts (nat_le 1 many) (a % many == 0) ha in
    let pb = and_parts (nat_le 1 many) (b % many == 0) hb in
    let some : 1 ≤ many = leb-true 1 many pa.0 in
    let apart : a + many ≤ b = multiples-apart many a b (eqb-true (a % many) 0 pa.1) (eqb-true (b % many) 0 pb.1) less in
    elim slow [ inl none ↦ absurd (omega arith) | inr long ↦ omega arith ]

-- ---- what the clock does at a tick
never : (many number : ℕ) → many ≡ 0 → is_each many number ≡ false
never many number none = ap (λ (x : ℕ). is_each x number) none

loses-there : (a b : Bool) → a ≡ false → step_of a b ≢ Even → b ≡ true
loses-there a true none step = refl
loses-there false false none step = absurd (step refl)
loses-there true false none step = absurd (false≢true (sym none))

gains-there : (a b : Bool) → b ≡ false → step_of a b ≢ Even → a ≡ true
gains-there true b none step = refl
gains-there false false none step = absurd (step refl)
gains-there false true none step = absurd (false≢true (sym none))

no-gain : (a b : Bool) → a ≡ false → step_of a b ≢ Gains
no-gain false true none = λ e. cc
no-gain false false none = λ e. cc
no-gain true b none = absurd (false≢true (sym none))

both-even : (a b : Bool) → a ≡ false → b ≡ false → step_of a b ≡ Even
both-even false false g l = refl
both-even true b g l = absurd (false≢true (sym g))
both-even false true g l = absurd (false≢true (sym l))

spaced : (d : Drift) (number : ℕ) → IsSlow d → Spaced drift_gap (steps_after d number)
spaced d number slow i j less si sj = elim slow.one [
  | inl none ↦ shift (each-apart d.lose (number + 1 + i) (number + 1 + j) slow.lose
      (loses-there (is_each d.gain (number + 1 + i)) (is_each d.lose (number + 1 + i)) (never d.gain (number + 1 + i) none) si)
      (loses-there (is_each d.gain (number + 1 + j)) (is_each d.lose (number + 1 + j)) (never d.gain (number + 1 + j) none) sj) (omega arith))
  | inr none ↦ shift (each-apart d.gain (number + 1 + i) (number + 1 + j) slow.gain
      (gains-there (is_each d.gain (number + 1 + i)) (is_each d.lose (number + 1 + i)) (never d.lose (number + 1 + i) none) si)
      (gains-there (is_each d.gain (number + 1 + j)) (is_each d.lose (number + 1 + j)) (never d.lose (number + 1 + j) none) sj) (omega arith))
]
  where
    shift : number + 1 + i + drift_gap ≤ number + 1 + j → i + drift_gap ≤ j
    shift h = omega arith

corrects : (d : Drift) (k : Correction) (number : ℕ) → (d.gain == 0 || k.mode == 3) ≡ true → CanCorrect k (steps_after d number)
corrects d k number h = by (d.gain == 0) (k.mode == 3) refl refl h
  where
    by : (a b : Bool) → (d.gain == 0) ≡ a → (k.mode == 3) ≡ b → (a || b) ≡ true → CanCorrect k (steps_after d number)
    by true b e f h =
        inr (λ i. no-gain (is_each d.gain (number + 1 + i)) (is_each d.lose (number + 1 + i)) (never d.gain (number + 1 + i) (eqb-true d.gain 0 e)))
    by false true e f h = inl (eqb-true k.mode 3 f)
    by false false e f h = absurd (false≢true h)

pub keeps-time : (d : Drift) (number : ℕ) → drifts d ≡ false → step_at d number ≡ Even
keeps-time d number h = by (d.gain == 0) (d.lose == 0) refl refl h
  where
    by : (a b : Bool) → (d.gain == 0) ≡ a → (d.lose == 0) ≡ b → (not a || not b) ≡ false → step_at d number ≡ Even
    by true true e f h =
        both-even (is_each d.gain number) (is_each d.lose number) (never d.gain number (eqb-true d.gain 0 e)) (never d.lose number (eqb-true d.lose 0 f))
    by true false e f h = absurd (false≢true (sym h))
    by false b e f h = absurd (false≢true (sym h))

-- ---- where it keeps time, counters and targets continue as time does
pub drifted-even : (n : ℕ) (k : Correction) (steps : ℕ → Step) (t : ℕ) (past : List ℕ) → ((i : ℕ) → steps i ≡ Even) → drifted k n steps t past ≡ counted k n t past
drifted-even zero k steps t past even = refl
drifted-even (suc n) k steps t past even =
    drifted-even n k (next_drifts steps) (moved k.cycle (steps 0) t) (next_counter k past (moved k.cycle (steps 0) t) ∷ past) (λ i. even (suc i))
    ∙ ap (λ (x : Step). counted k n (moved k.cycle x t) (next_counter k past (moved k.cycle x t) ∷ past)) (even 0)

pub target-even : (n cycle : ℕ) (steps : ℕ → Step) (t : ℕ) → ((i : ℕ) → steps i ≡ Even) → target_drifted cycle n steps t ≡ gone cycle n t
target-even zero cycle steps t even = refl
target-even (suc n) cycle steps t even =
    target-even n cycle (next_drifts steps) (moved cycle (steps 0) t) (λ i. even (suc i)) ∙ ap (λ (x : Step). gone cycle n (moved cycle x t)) (even 0)

-- ---- equal or one tick apart
near-equal : (d : Drift) (cycle c t : ℕ) → c ≡ t → are_near d cycle c t ≡ true
near-equal d cycle c t e =
    ap (λ (b : Bool). b || drifts d && (tick_later cycle c == t || tick_later cycle t == c)) (ap (λ (x : ℕ). c == x) (sym e) ∙ same c)

near-one : (d : Drift) (cycle c t : ℕ) → drifts d ≡ true → IsNear cycle c t → are_near d cycle c t ≡ true
near-one d cycle c t some (inl e) = near-equal d cycle c t e
near-one d cycle c t some (inr (inl e)) =
    last (c == t) (drifts d) (tick_later cycle c == t) (tick_later cycle t == c) some (inl (ap (λ (x : ℕ). x == t) e ∙ same t))
  where
    last : (a b x y : Bool) → b ≡ true → (x ≡ true) ⊎ (y ≡ true) → (a || b && (x || y)) ≡ true
    last true b x y h z = refl
    last false true true y h z = refl
    last false true false true h z = refl
    last false true false false h (inl z) = z
    last false true false false h (inr z) = z
    last false false x y h z = absurd (false≢true h)
near-one d cycle c t some (inr (inr e)) =
    last (c == t) (drifts d) (tick_later cycle c == t) (tick_later cycle t == c) some (ap (λ (x : ℕ). x == c) e ∙ same c)
  where
    last : (a b x y : Bool) → b ≡ true → y ≡ true → (a || b && (x || y)) ≡ true
    last true b x y h z = refl
    last false true true y h z = refl
    last false true false y h z = z
    last false false x y h z = absurd (false≢true h)

-- ---- the law
most-is : (m n x : ℕ) → m * (n * x) ≡ m * n * x
most-is m n x = grind arith

pub comes-near : (d : Drift) (k : Correction) (number : ℕ) (past : List ℕ) (target : ℕ) → HasRoom k → begins_cycle past ≡ true → target < k.cycle
    → (drifts d ≡ true → HasTime d k) → (d.gain == 0 || k.mode == 3) ≡ true
    → ComesNear d k number past target (cycles_for_one d * needed k target * (k.cycle + most_a_cycle k))
comes-near d k number past target room begins below time follows = elim (cases_Bool (drifts d)) [
  | inl some ↦
      let x : StaysNear k (steps_after d number) past target (2 * (needed k target * (k.cycle + most_a_cycle k)))
      = meets-and-stays k drift_gap (steps_after d number) past target room (time some).add (time some).cycles (spaced d number (time some).slow)
      (corrects d k number follows) begins below in
      record {
        moment = x.moment;
        within = bound x.moment x.within some;
        equal = x.equal;
        near = λ n h. near-one d k.cycle _ _ some (x.near n h);
      }
  | inr none ↦
      let x : ComesOntoOffset k past target = comes-onto k past target room begins below in
      record {
        moment = x.moment;
        within = even x.moment x.within none;
        equal = level none x.moment (x.equal x.moment (let l : x.moment ≤ x.moment = omega arith in l));
        near = λ n h. near-equal d k.cycle _ _ (level none n (x.equal n h));
      }
]
  where
    bound : (m : ℕ) → m ≤ 2 * (needed k target * (k.cycle + most_a_cycle k)) → drifts d ≡ true
        → m ≤ cycles_for_one d * needed k target * (k.cycle + most_a_cycle k)
    bound m h some =
        subst (λ (b : Bool). m ≤ (if b then 2 else 1) * needed k target * (k.cycle + most_a_cycle k)) (sym some)
        (subst (λ (y : ℕ). m ≤ y) (most-is 2 (needed k target) (k.cycle + most_a_cycle k)) h)

    even : (m : ℕ) → m ≤ needed k target * (k.cycle + most_a_cycle k) → drifts d ≡ false
        → m ≤ cycles_for_one d * needed k target * (k.cycle + most_a_cycle k)
    even m h none =
        subst (λ (b : Bool). m ≤ (if b then 2 else 1) * needed k target * (k.cycle + most_a_cycle k)) (sym none)
        (subst (λ (y : ℕ). m ≤ y) (most-is 1 (needed k target) (k.cycle + most_a_cycle k)) (omega arith))

    level : drifts d ≡ false → (n : ℕ) → last_counter (counted k n target past) ≡ target_after k n target
        → last_counter (drifted k n (steps_after d number) target past) ≡ target_drifted k.cycle n (steps_after d number) target
    level none n equal =
        ap last_counter (drifted-even n k (steps_after d number) target past (λ i. keeps-time d (number + 1 + i) none)) ∙ equal
        ∙ sym (target-even n k.cycle (steps_after d number) target (λ i. keeps-time d (number + 1 + i) none) ∙ gone-is n k.cycle target below)

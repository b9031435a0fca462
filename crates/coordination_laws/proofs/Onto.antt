-- The counter comes onto the offset.
use Rattle.std.proofs.Common.{◌≡◌, ◌≢◌, ◌⊎◌, inl, inr, ℕ, zero, suc, true, false, ◌+◌, ◌-◌, ◌%◌, ◌*◌, ◌<◌, ◌≤◌, min, max, List, ◌∷◌, refl, sym, ◌∙◌, ap, subst, arith}
use Rattle.std.proofs.Math.Nat.{le_trans, mod-eq_of_lt, mod-add-mod}
use Rattle.std.proofs.lemmas.Bool.{cases_order, cases_Bool, leb-true, leb-false}
use Rattle.sig_tables.specs.Counting.{Correction, HasRoom, tick_later, steps_for, adds_sooner, stands, skips, last_step_changed, begins_cycle, next_counter, last_counter, counted, target_after, needed, most_a_cycle}
use Rattle.coordination_laws.specs.Correcting.{Corrects, ComesOntoOffset}
use Rattle.coordination_laws.proofs.Looks.{Begun, begun}
use Rattle.coordination_laws.proofs.Errors.{At, at-zero, plain-keeps, next-is, no-error}
use Rattle.coordination_laws.proofs.Resting.{gone, NextCycle, Level, Ends, rest-ends}
use Rattle.coordination_laws.proofs.Cycle.{AddsUp, dwell-cycle, add-cycle, TakesOff, skip-cycle}
use Rattle.coordination_laws.proofs.Needed.{add-closer, add-closer-two, subtract-closer}

-- the target after n ticks is what the definition says
pub gone-is : (n cycle t : ℕ) → t < cycle → gone cycle n t ≡ (t + n) % cycle
gone-is zero cycle t below = sym (ap (λ (x : ℕ). x % cycle) (let e : t + 0 ≡ t = omega arith in e) ∙ mod-eq_of_lt below)
gone-is (suc n) cycle t below =
    gone-is n cycle (tick_later cycle t) (Rattle.std.proofs.Math.Nat.mod-lt (t + 1) (omega arith)) ∙ mod-add-mod (t + 1) cycle n
    ∙ ap (λ (x : ℕ). x % cycle) (let e : t + 1 + n ≡ t + suc n = omega arith in e)

-- ticks after ticks
pub counted-more : (a : ℕ) (k : Correction) (b t : ℕ) (past : List ℕ) → counted k (a + b) t past ≡ counted k b (gone k.cycle a t) (counted k a t past)
counted-more zero k b t past = ap (λ (x : ℕ). counted k x t past) (let e : 0 + b ≡ b = omega arith in e)
counted-more (suc a) k b t past =
    ap (λ (x : ℕ). counted k x t past) (let e : suc a + b ≡ suc (a + b) = omega arith in e)
    ∙ counted-more a k b (tick_later k.cycle t) (next_counter k past (tick_later k.cycle t) ∷ past)

pub gone-more : (a cycle b t : ℕ) → gone cycle (a + b) t ≡ gone cycle b (gone cycle a t)
gone-more zero cycle b t = ap (λ (x : ℕ). gone cycle x t) (let e : 0 + b ≡ b = omega arith in e)
gone-more (suc a) cycle b t =
    ap (λ (x : ℕ). gone cycle x t) (let e : suc a + b ≡ suc (a + b) = omega arith in e) ∙ gone-more a cycle b (tick_later cycle t)

-- what the number and the greatest correction are, by mode
needed-dwell : (k : Correction) (t : ℕ) → k.mode ≡ 2 → needed k t ≡ steps_for ((k.cycle - t) % k.cycle) k.dwell
needed-dwell k t h = rw h refl

needed-add : (k : Correction) (t : ℕ) → k.mode ≡ 4 → needed k t ≡ steps_for ((k.cycle - t) % k.cycle) k.add
needed-add k t h = rw h refl

needed-short : (k : Correction) (t : ℕ) → k.mode ≡ 3 → needed k t ≡ min (steps_for ((k.cycle - t) % k.cycle) k.add) (steps_for t k.subtract)
needed-short k t h = rw h refl

most-dwell : (k : Correction) → k.mode ≡ 2 → most_a_cycle k ≡ k.dwell
most-dwell k h = rw h refl

most-add : (k : Correction) → k.mode ≡ 4 → most_a_cycle k ≡ k.add
most-add k h = rw h refl

most-short : (k : Correction) → k.mode ≡ 3 → most_a_cycle k ≡ max k.add k.subtract
most-short k h = rw h refl

-- one of these numbers is one more than the other, and so are the numbers of cycles
by-mode : (k : Correction) (t end a b : ℕ) → needed k t ≡ a → needed k end ≡ b → a ≡ b + 1 → needed k t ≡ needed k end + 1
by-mode k t end a b p q e = p ∙ e ∙ ap (λ (x : ℕ). x + 1) (sym q)

-- one cycle from local zero
pub record Turned (k : Correction) (t : ℕ) (past : List ℕ) : Type 0 where
  pub end : ℕ
  pub ticks : ℕ
  pub next : NextCycle k t past end ticks
  pub some : 1 ≤ ticks
  pub most : ticks ≤ k.cycle + most_a_cycle k
  pub closer : 1 ≤ t → needed k t ≡ needed k end + 1
  pub stays : t ≡ 0 → end ≡ 0
  pub whole : k.mode ≢ 3 → 1 ≤ end → ticks ≡ k.cycle + most_a_cycle k
  pub least : k.cycle ≤ ticks + k.subtract

level-turns : (k : Correction) (t : ℕ) (before : List ℕ) → HasRoom k → t < k.cycle → t ≡ 0 → Turned k t (0 ∷ before)
level-turns k t before room below z =
    let x : Ends k t 0 before t = rest-ends k t 0 before t room.cycle (at-zero k.cycle t below) (Level z) in
    record {
      end = t;
      ticks = x.ticks;
      next = x.next;
      some = omega arith;
      most = let e : x.ticks + 0 ≡ k.cycle = x.long in let le : k.cycle ≤ k.cycle + most_a_cycle k = omega arith in omega arith;
      closer = λ h. absurd (omega arith);
      stays = λ h. h;
      whole = λ _ h. absurd (omega arith);
      least = omega (arith, x.long);
    }

dwell-turns : (k : Correction) (t : ℕ) (before : List ℕ) → HasRoom k → k.mode ≡ 2 → t < k.cycle → 1 ≤ t → stands (0 ∷ before) ≡ 0 → Turned k t (0 ∷ before)
dwell-turns k t before room mode below some stood =
    let x : AddsUp k t 0 before t k.dwell = dwell-cycle k.dwell k t before t room mode (at-zero k.cycle t below) some (omega arith) in
    let low : x.end < k.cycle = x.next.below in
    record {
      end = x.end;
      ticks = x.ticks;
      next = x.next;
      some = omega (arith, x.long);
      most = omega (arith, x.long, x.few, most-dwell k mode);
      closer = λ _. by-mode k t x.end _ _ (needed-dwell k t mode) (needed-dwell k x.end mode)
          (add-closer k.cycle k.dwell t x.end x.added room.dwell some below low x.few x.to);
      stays = λ h. absurd (omega arith);
      whole = λ _ h. elim x.to [ inl y ↦ omega (arith, x.long, most-dwell k mode) | inr y ↦ absurd (omega arith) ];
      least = omega (arith, x.long);
    }

add-turns : (k : Correction) (t : ℕ) (before : List ℕ) → HasRoom k → k.mode ≡ 4 → t < k.cycle → 1 ≤ t → stands (0 ∷ before) ≡ 0
    → last_step_changed (0 ∷ before) ≡ true → Turned k t (0 ∷ before)
add-turns k t before room mode below some stood moved =
    let x : AddsUp k t 0 before t k.add = add-cycle k.add k t 0 before t room (inl mode) (at-zero k.cycle t below) some stood moved (omega arith) in
    let low : x.end < k.cycle = x.next.below in
    record {
      end = x.end;
      ticks = x.ticks;
      next = x.next;
      some = omega (arith, x.long);
      most = omega (arith, x.long, x.few, most-add k mode);
      closer = λ _. by-mode k t x.end _ _ (needed-add k t mode) (needed-add k x.end mode)
          (add-closer k.cycle k.add t x.end x.added room.add some below low x.few x.to);
      stays = λ h. absurd (omega arith);
      whole = λ _ h. elim x.to [ inl y ↦ omega (arith, x.long, most-add k mode) | inr y ↦ absurd (omega arith) ];
      least = omega (arith, x.long);
    }

short-adds : (k : Correction) (t : ℕ) (before : List ℕ) → HasRoom k → k.mode ≡ 3 → adds_sooner k t ≡ true → t < k.cycle → 1 ≤ t → stands (0 ∷ before) ≡ 0
    → last_step_changed (0 ∷ before) ≡ true → Turned k t (0 ∷ before)
short-adds k t before room mode sooner below some stood moved =
    let x : AddsUp k t 0 before t k.add = add-cycle k.add k t 0 before t room (inr (mode, sooner)) (at-zero k.cycle t below) some stood moved (omega arith) in
    let low : x.end < k.cycle = x.next.below in
    record {
      end = x.end;
      ticks = x.ticks;
      next = x.next;
      some = omega (arith, x.long);
      most = omega (arith, x.long, x.few, most-short k mode);
      closer = λ _. by-mode k t x.end _ _ (needed-short k t mode) (needed-short k x.end mode)
          (add-closer-two k.cycle k.add k.subtract t x.end x.added room.add room.subtract some below low x.few x.to
          (leb-true (steps_for (k.cycle - t) k.add) (steps_for t k.subtract) sooner));
      stays = λ h. absurd (omega arith);
      whole = λ other _. absurd (other mode);
      least = omega (arith, x.long, x.few);
    }

short-subtracts : (k : Correction) (t : ℕ) (before : List ℕ) → HasRoom k → k.mode ≡ 3 → adds_sooner k t ≡ false → t < k.cycle → 1 ≤ t → skips (0 ∷ before) ≡ 0
    → Turned k t (0 ∷ before)
short-subtracts k t before room mode later below some skipped =
    let x : TakesOff k t 0 before t k.subtract = skip-cycle k.subtract k t 0 before t room (mode, later) (at-zero k.cycle t below) (omega arith)
    (omega arith) in
    let low : x.end < k.cycle = x.next.below in
    record {
      end = x.end;
      ticks = x.ticks;
      next = x.next;
      some = omega (arith, x.long, x.few, room.skips, room.window);
      most = omega (arith, x.long);
      closer = λ _. by-mode k t x.end _ _ (needed-short k t mode) (needed-short k x.end mode)
          (subtract-closer k.cycle k.add k.subtract t x.end x.taken room.add room.subtract some below low x.few x.to
          (leb-false (steps_for (k.cycle - t) k.add) (steps_for t k.subtract) later));
      stays = λ h. absurd (omega arith);
      whole = λ other _. absurd (other mode);
      least = omega (arith, x.long, x.few);
    }

mode-turns : (k : Correction) (t : ℕ) (before : List ℕ) → HasRoom k → (k.mode ≡ 2) ⊎ ((k.mode ≡ 3) ⊎ (k.mode ≡ 4)) → t < k.cycle → 1 ≤ t
    → stands (0 ∷ before) ≡ 0
    → skips (0 ∷ before) ≡ 0 → last_step_changed (0 ∷ before) ≡ true → Turned k t (0 ∷ before)
mode-turns k t before room (inl two) below some stood skipped moved = dwell-turns k t before room two below some stood
mode-turns k t before room (inr (inl three)) below some stood skipped moved = elim (cases_Bool (adds_sooner k t)) [
  | inl y ↦ short-adds k t before room three y below some stood moved
  | inr n ↦ short-subtracts k t before room three n below some skipped
]
mode-turns k t before room (inr (inr four)) below some stood skipped moved = add-turns k t before room four below some stood moved

modes : (m : ℕ) → 2 ≤ m → m ≤ 4 → (m ≡ 2) ⊎ ((m ≡ 3) ⊎ (m ≡ 4))
modes m low high = elim (cases_order m 3) [
  | inl e ↦ inr (inl e)
  | inr (inl l) ↦ inl (omega arith)
  | inr (inr g) ↦ inr (inr (omega arith))
]

begun-turns : (k : Correction) (t : ℕ) (before : List ℕ) → HasRoom k → t < k.cycle → stands (0 ∷ before) ≡ 0
    → skips (0 ∷ before) ≡ 0 → last_step_changed (0 ∷ before) ≡ true → Turned k t (0 ∷ before)
begun-turns k t before room below stood skipped moved = elim (cases_order t 0) [
  | inl z ↦ level-turns k t before room below z
  | inr (inl l) ↦ absurd (omega arith)
  | inr (inr some) ↦ mode-turns k t before room (modes k.mode room.least_mode room.greatest_mode) below some stood skipped moved
]

pub turns : (k : Correction) (t : ℕ) (past : List ℕ) → HasRoom k → t < k.cycle → begins_cycle past ≡ true → Turned k t past
turns k t past room below b =
    let x : Begun past = begun past b in
    subst (λ (ps : List ℕ). Turned k t ps) (sym x.is) (begun-turns k t x.before room below x.stood x.skipped x.changed)

-- equal is equal for ever
pub stays-equal : (n : ℕ) (k : Correction) (t c : ℕ) (before : List ℕ) → At k.cycle t c 0 → last_counter (counted k n t (c ∷ before)) ≡ gone k.cycle n t
stays-equal zero k t c before a = elim a.ahead [
  | inl h ↦ omega arith
  | inr h ↦ let low : c < k.cycle = a.counter in absurd (omega arith)
]
stays-equal (suc n) k t c before a =
    let is : next_counter k (c ∷ before) (tick_later k.cycle t) ≡ tick_later k.cycle c = next-is k t c 0 before a ∙ no-error k (c ∷ before) c in
    ap (λ (x : ℕ). last_counter (counted k n (tick_later k.cycle t) (x ∷ c ∷ before))) is
    ∙ stays-equal n k (tick_later k.cycle t) (tick_later k.cycle c) (c ∷ before) (plain-keeps k.cycle t c 0 a)

-- equal from a moment on that comes within this many ticks
pub record Onto (k : Correction) (t : ℕ) (past : List ℕ) (most : ℕ) : Type 0 where
  pub moment : ℕ
  pub within : moment ≤ most
  pub equal : (n : ℕ) → moment ≤ n → last_counter (counted k n t past) ≡ gone k.cycle n t

level-onto : (k : Correction) (t : ℕ) (before : List ℕ) (most : ℕ) → HasRoom k → t ≡ 0 → Onto k t (0 ∷ before) most
level-onto k t before most room z =
    let long : 10 ≤ k.cycle = room.cycle in
    let a : At k.cycle 0 0 0 = at-zero k.cycle 0 (omega arith) in
    record { moment = 0; within = omega arith; equal = λ n _. stays-equal n k t 0 before (subst (λ (x : ℕ). At k.cycle x 0 0) (sym z) a) }

turn-onto : (k : Correction) (t : ℕ) (past : List ℕ) (m end ticks : ℕ) (next : NextCycle k t past end ticks) → Onto k end (0 ∷ next.before) m
    → (most : ℕ) → ticks + m ≤ most → Onto k t past most
turn-onto k t past m end ticks next x most le = record {
  moment = ticks + x.moment;
  within = omega (arith, x.within);
  equal = λ n h.
      let e : n ≡ ticks + (n - ticks) = omega arith in
      let more : x.moment ≤ n - ticks = omega arith in
      subst (λ (y : ℕ). last_counter (counted k y t past) ≡ gone k.cycle y t) (sym e)
      (ap last_counter (counted-more ticks k (n - ticks) t past)
      ∙ ap (λ (y : ℕ). last_counter (counted k (n - ticks) y (counted k ticks t past))) next.target
      ∙ ap (λ (ys : List ℕ). last_counter (counted k (n - ticks) end ys)) next.is
      ∙ x.equal (n - ticks) more
      ∙ sym (gone-more ticks k.cycle (n - ticks) t ∙ ap (gone k.cycle (n - ticks)) next.target));
}

-- at a local zero that is not on target the number is above 0
none-needed : (k : Correction) (t : ℕ) (past : List ℕ) → Turned k t past → needed k t ≡ 0 → t ≡ 0
none-needed k t past x n = elim (cases_order t 0) [
  | inl z ↦ z
  | inr (inl l) ↦ absurd (omega arith)
  | inr (inr some) ↦ absurd (let e : needed k t ≡ needed k x.end + 1 = x.closer some in omega arith)
]

begun-onto : (k : Correction) (t : ℕ) (past : List ℕ) (most : ℕ) → HasRoom k → begins_cycle past ≡ true → t ≡ 0 → Onto k t past most
begun-onto k t past most room b z =
    let x : Begun past = begun past b in
    subst (λ (ps : List ℕ). Onto k t ps most) (sym x.is) (level-onto k t x.before most room z)

pub onto : (cycles : ℕ) (k : Correction) (t : ℕ) (past : List ℕ) → HasRoom k → t < k.cycle → begins_cycle past ≡ true → needed k t ≡ cycles
    → Onto k t past (cycles * (k.cycle + most_a_cycle k))
onto zero k t past room below b n = begun-onto k t past _ room b (none-needed k t past (turns k t past room below b) n)
onto (suc cycles) k t past room below b n = elim (cases_order t 0) [
  | inl z ↦ begun-onto k t past _ room b z
  | inr (inl l) ↦ absurd (omega arith)
  | inr (inr some) ↦
      let x : Turned k t past = turns k t past room below b in
      let e : needed k t ≡ needed k x.end + 1 = x.closer some in
      turn-onto k t past (cycles * (k.cycle + most_a_cycle k)) x.end x.ticks x.next
      (onto cycles k x.end (0 ∷ x.next.before) room x.next.below x.next.begins (omega arith))
      (suc cycles * (k.cycle + most_a_cycle k)) (omega (arith, x.most))
]

-- a cycle begins at counter 0
pub begun-zero : (past : List ℕ) → begins_cycle past ≡ true → last_counter past ≡ 0
begun-zero past b = let x : Begun past = begun past b in ap last_counter x.is

-- the laws, as they are stated
pub corrects : (k : Correction) (past : List ℕ) (target : ℕ) → HasRoom k → begins_cycle past ≡ true → target < k.cycle → Corrects k past target
corrects k past target room b below =
    let x : Turned k target past = turns k target past room below b in
    let is : target_after k x.ticks target ≡ x.end = sym (gone-is x.ticks k.cycle target below) ∙ x.next.target in
    record {
      ticks = x.ticks;
      ends = record {
        begins = subst (λ (ps : List ℕ). begins_cycle ps ≡ true) (sym x.next.is) x.next.begins;
        first = x.next.first;
        some = x.some;
        most = x.most;
      };
      closer = λ ne. x.closer (omega arith) ∙ ap (λ (y : ℕ). needed k y + 1) (sym is);
      stays = λ z. is ∙ x.stays z;
    }

pub comes-onto : (k : Correction) (past : List ℕ) (target : ℕ) → HasRoom k → begins_cycle past ≡ true → target < k.cycle → ComesOntoOffset k past target
comes-onto k past target room b below =
    let x : Onto k target past (needed k target * (k.cycle + most_a_cycle k)) = onto (needed k target) k target past room below b refl in
    record {
      moment = x.moment;
      within = x.within;
      equal = λ n h. x.equal n h ∙ gone-is n k.cycle target below;
      zeros = λ n h z. sym (gone-is n k.cycle target below) ∙ sym (x.equal n h) ∙ begun-zero (counted k n target past) z;
    }

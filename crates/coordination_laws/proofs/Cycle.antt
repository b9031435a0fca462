-- One cycle from local zero, by each way of correction.
use Rattle.std.proofs.Common.{◌≡◌, ◌⊎◌, inl, inr, ℕ, zero, suc, true, ◌+◌, ◌-◌, ◌*◌, ◌<◌, ◌≤◌, List, ◌∷◌, refl, ◌∙◌, ap, subst, arith}
use Rattle.std.proofs.Math.Nat.{le_trans}
use Rattle.std.proofs.lemmas.Bool.{cases_order, leb-true, leb-false}
use Rattle.sig_tables.specs.Counting.{Correction, HasRoom, tick_later, steps_for, stands, skips, last_step_changed, next_counter}
use Rattle.coordination_laws.proofs.Steps.{later-within, fewer-steps}
use Rattle.coordination_laws.proofs.Looks.{fits, exceeds, stands-stood, changed-stood, stands-moved, changed-moved, skips-skipped, counts-on, stood-there}
use Rattle.coordination_laws.proofs.Errors.{At, plain-keeps, stand-adds, stand-ends, skip-takes, next-is, in-window}
use Rattle.coordination_laws.proofs.Resting.{NextCycle, one-more, Adds, Subtracts, corrected-dwells, corrected-adds, corrected-subtracts, Level, Dwelt, Added, Subtracted, plain-if, Ends, rest-ends}

-- what a cycle comes to that adds: at its end the target is further ahead by all that was left to add, or a whole cycle ahead
pub record AddsUp (k : Correction) (t c : ℕ) (before : List ℕ) (e left : ℕ) : Type 0 where
  pub end : ℕ
  pub added : ℕ
  pub ticks : ℕ
  pub next : NextCycle k t (c ∷ before) end ticks
  pub long : ticks + c ≡ k.cycle + added
  pub few : added ≤ left
  pub to : ((end ≡ e + added) × (added ≡ left)) ⊎ ((e + added ≡ k.cycle) × (end ≡ 0))

-- one that is over adds nothing
adds-none : (k : Correction) (t c : ℕ) (before : List ℕ) (e left : ℕ) → Ends k t c before e → left ≡ 0 → AddsUp k t c before e left
adds-none k t c before e left x z = record {
  end = e;
  added = 0;
  ticks = x.ticks;
  next = x.next;
  long = omega arith;
  few = omega arith;
  to
      = inl (omega arith, omega arith);
}

-- a wait in front adds one
adds-one : (k : Correction) (t c : ℕ) (before : List ℕ) (e left : ℕ) → next_counter k (c ∷ before) (tick_later k.cycle t) ≡ c
    → AddsUp k (tick_later k.cycle t) c (c ∷ before) (e + 1) left → AddsUp k t c before e (suc left)
adds-one k t c before e left is x = record {
  end = x.end;
  added = x.added + 1;
  ticks = suc x.ticks;
  next = one-more k t (c ∷ before) c x.end x.ticks is (λ _. stood-there c) x.next;
  long = omega arith;
  few = omega arith;
  to = elim x.to [ inl h ↦ inl (omega arith, omega arith) | inr h ↦ inr (omega arith, h.1) ];
}

-- the last wait brings the counter onto the target
adds-last : (k : Correction) (t c : ℕ) (before : List ℕ) (e left : ℕ) → e + 1 ≡ k.cycle → next_counter k (c ∷ before) (tick_later k.cycle t) ≡ c
    → Ends k (tick_later k.cycle t) c (c ∷ before) 0 → AddsUp k t c before e (suc left)
adds-last k t c before e left full is x = record {
  end = 0;
  added = 1;
  ticks = suc x.ticks;
  next = one-more k t (c ∷ before) c 0 x.ticks is (λ _. stood-there c) x.next;
  long = omega arith;
  few = omega arith;
  to = inr (full, refl);
}

-- a plain step in front
adds-plain : (k : Correction) (t c : ℕ) (before : List ℕ) (e left : ℕ) → next_counter k (c ∷ before) (tick_later k.cycle t) ≡ c + 1
    → AddsUp k (tick_later k.cycle t) (c + 1) (c ∷ before) e left → AddsUp k t c before e left
adds-plain k t c before e left is x = record {
  end = x.end;
  added = x.added;
  ticks = suc x.ticks;
  next = one-more k t (c ∷ before) (c + 1) x.end x.ticks is (λ _. counts-on (c + 1) c (omega arith)) x.next;
  long = omega arith;
  few = x.few;
  to = x.to;
}

-- dwelling, with that many waits left
pub dwell-cycle : (left : ℕ) (k : Correction) (t : ℕ) (before : List ℕ) (e : ℕ) → HasRoom k → k.mode ≡ 2 → At k.cycle t 0 e → 1 ≤ e
    → stands (0 ∷ before) + left ≡ k.dwell → AddsUp k t 0 before e left
dwell-cycle zero k t before e room mode a some all =
    adds-none k t 0 before e 0 (rest-ends k t 0 before e room.cycle a (Dwelt mode (inr (omega arith)))) refl
dwell-cycle (suc left) k t before e room mode a some all =
    let inside : 0 < k.window = omega (arith, room.add, room.stands) in
    let is : next_counter k (0 ∷ before) (tick_later k.cycle t) ≡ 0
    = next-is k t 0 e before a ∙ in-window k (0 ∷ before) 0 e inside some ∙ corrected-dwells k (0 ∷ before) 0 e mode
    ∙ rw (exceeds k.dwell (stands (0 ∷ before)) (omega arith)) refl in
    let below : e < k.cycle = a.error in
    elim (cases_order (e + 1) k.cycle) [
      | inl full ↦ adds-last k t 0 before e left full is
          (rest-ends k (tick_later k.cycle t) 0 (0 ∷ before) 0 room.cycle (stand-ends k.cycle t 0 e a full) (Level refl))
      | inr (inl less) ↦ adds-one k t 0 before e left is
          (dwell-cycle left k (tick_later k.cycle t) (0 ∷ before) (e + 1) room mode (stand-adds k.cycle t 0 e a less) (omega arith)
          (let s = stands-stood 0 before in omega arith))
      | inr (inr more) ↦ absurd (omega arith)
    ]

-- the direction is stable: where adding is sooner it is so still with one tick less to add, and where subtracting is, with
-- one tick less to subtract
pub still-adds : (k : Correction) (e : ℕ) → HasRoom k → Adds k e → Adds k (e + 1)
still-adds k e room (inl h) = inl h
still-adds k e room (inr h) =
    inr (
      h.0,
      fits (steps_for (k.cycle - (e + 1)) k.add) (steps_for (e + 1) k.subtract)
          (le_trans (fewer-steps (k.cycle - (e + 1)) (k.cycle - e) k.add room.add (omega arith))
          (le_trans (leb-true (steps_for (k.cycle - e) k.add) (steps_for e k.subtract) h.1) (fewer-steps e (e + 1) k.subtract room.subtract (omega arith)))),
    )

pub still-subtracts : (k : Correction) (e : ℕ) → HasRoom k → Subtracts k (e + 1) → Subtracts k e
still-subtracts k e room h =
    let less : steps_for (e + 1) k.subtract < steps_for (k.cycle - (e + 1)) k.add
    = leb-false (steps_for (k.cycle - (e + 1)) k.add) (steps_for (e + 1) k.subtract) h.1 in
    let low : steps_for e k.subtract ≤ steps_for (e + 1) k.subtract = fewer-steps e (e + 1) k.subtract room.subtract (omega arith) in
    let high : steps_for (k.cycle - (e + 1)) k.add ≤ steps_for (k.cycle - e) k.add
    = fewer-steps (k.cycle - (e + 1)) (k.cycle - e) k.add room.add (omega arith) in
    (h.0, exceeds (steps_for (k.cycle - e) k.add) (steps_for e k.subtract) (omega arith))

-- adding, with that many waits left: one at each second tick, so that the counter is the number of waits
pub add-cycle : (left : ℕ) (k : Correction) (t c : ℕ) (before : List ℕ) (e : ℕ) → HasRoom k → Adds k e → At k.cycle t c e → 1 ≤ e
    → stands (c ∷ before) ≡ c → last_step_changed (c ∷ before) ≡ true → c + left ≡ k.add → AddsUp k t c before e left
add-cycle zero k t c before e room mode a some stood moved all =
    adds-none k t c before e 0 (rest-ends k t c before e room.cycle a (Added mode (omega arith))) refl
add-cycle (suc left) k t c before e room mode a some stood moved all =
    let inside : c < k.window = omega (arith, room.stands) in
    let is : next_counter k (c ∷ before) (tick_later k.cycle t) ≡ c
    = next-is k t c e before a ∙ in-window k (c ∷ before) c e inside some ∙ corrected-adds k (c ∷ before) c e mode
    ∙ rw (moved, exceeds k.add (stands (c ∷ before)) (omega arith)) refl in
    let below : e < k.cycle = a.error in
    let short : c + 1 < k.cycle = omega (arith, room.stands, room.window) in
    elim (cases_order (e + 1) k.cycle) [
      | inl full ↦ adds-last k t c before e left full is
          (rest-ends k (tick_later k.cycle t) c (c ∷ before) 0 room.cycle (stand-ends k.cycle t c e a full) (Level refl))
      | inr (inl less) ↦
          let b : At k.cycle (tick_later k.cycle t) c (e + 1) = stand-adds k.cycle t c e a less in
          let mode' : Adds k (e + 1) = still-adds k e room mode in
          let z : tick_later k.cycle c ≡ c + 1 = later-within k.cycle c short in
          let on : next_counter k (c ∷ c ∷ before) (tick_later k.cycle (tick_later k.cycle t)) ≡ c + 1
          = next-is k (tick_later k.cycle t) c (e + 1) (c ∷ before) b
          ∙ plain-if k (c ∷ c ∷ before) c (e + 1) (corrected-adds k (c ∷ c ∷ before) c (e + 1) mode' ∙ rw (changed-stood c before) refl) ∙ z in
          let d : At k.cycle (tick_later k.cycle (tick_later k.cycle t)) (c + 1) (e + 1)
          = subst (λ (x : ℕ). At k.cycle (tick_later k.cycle (tick_later k.cycle t)) x (e + 1)) z (plain-keeps k.cycle (tick_later k.cycle t) c (e + 1) b) in
          let stood' : stands ((c + 1) ∷ c ∷ c ∷ before) ≡ c + 1
          = stands-moved (c + 1) c (c ∷ before) (omega arith) (omega arith) ∙ stands-stood c before ∙ ap (λ (x : ℕ). x + 1) stood in
          adds-one k t c before e left is
          (adds-plain k (tick_later k.cycle t) c (c ∷ before) (e + 1) left on
          (add-cycle left k (tick_later k.cycle (tick_later k.cycle t)) (c + 1) (c ∷ c ∷ before) (e + 1) room mode' d (omega arith)
          stood' (changed-moved (c + 1) c (c ∷ before) (omega arith)) (omega arith)))
      | inr (inr more) ↦ absurd (omega arith)
    ]

-- what a cycle comes to that subtracts: at its end the target is less far ahead by all that was left to subtract, or not at all
pub record TakesOff (k : Correction) (t c : ℕ) (before : List ℕ) (e left : ℕ) : Type 0 where
  pub end : ℕ
  pub taken : ℕ
  pub ticks : ℕ
  pub next : NextCycle k t (c ∷ before) end ticks
  pub long : ticks + c + taken ≡ k.cycle
  pub few : taken ≤ left
  pub to : (end + taken ≡ e) × ((taken ≡ left) ⊎ (end ≡ 0))

takes-none : (k : Correction) (t c : ℕ) (before : List ℕ) (e left : ℕ) → Ends k t c before e → (left ≡ 0) ⊎ (e ≡ 0) → TakesOff k t c before e left
takes-none k t c before e left x z = record {
  end = e;
  taken = 0;
  ticks = x.ticks;
  next = x.next;
  long = omega arith;
  few = omega arith;
  to = (omega arith, elim z [ inl h ↦ inl (omega arith) | inr h ↦ inr h ]);
}

-- skipping, with that many skips left: the counter is twice the number of skips
pub skip-cycle : (left : ℕ) (k : Correction) (t c : ℕ) (before : List ℕ) (e : ℕ) → HasRoom k → Subtracts k e → At k.cycle t c e
    → 2 * skips (c ∷ before) ≡ c → skips (c ∷ before) + left ≡ k.subtract → TakesOff k t c before e left
skip-cycle zero k t c before e room mode a twice all =
    takes-none k t c before e 0 (rest-ends k t c before e room.cycle a (Subtracted mode (omega arith))) (inl refl)
skip-cycle (suc left) k t c before zero room mode a twice all =
    takes-none k t c before 0 (suc left) (rest-ends k t c before 0 room.cycle a (Level refl)) (inr refl)
skip-cycle (suc left) k t c before (suc e) room mode a twice all =
    let s : suc e ≡ e + 1 = omega arith in
    let a' : At k.cycle t c (e + 1) = subst (λ (x : ℕ). At k.cycle t c x) s a in
    let mode' : Subtracts k (e + 1) = subst (λ (x : ℕ). Subtracts k x) s mode in
    let fit : c + 2 ≤ k.window = omega (arith, room.skips) in
    let short : c + 2 < k.cycle = omega (arith, room.window) in
    let is : next_counter k (c ∷ before) (tick_later k.cycle t) ≡ c + 2
    = next-is k t c (e + 1) before a' ∙ in-window k (c ∷ before) c (e + 1) (omega arith) (omega arith)
    ∙ corrected-subtracts k (c ∷ before) c (e + 1) mode'
    ∙ rw (fits (c + 2) k.window fit, exceeds k.subtract (skips (c ∷ before)) (omega arith)) refl in
    let skipped : skips ((c + 2) ∷ c ∷ before) ≡ skips (c ∷ before) + 1 = skips-skipped (c + 2) c before refl in
    let x : TakesOff k (tick_later k.cycle t) (c + 2) (c ∷ before) e left
    = skip-cycle left k (tick_later k.cycle t) (c + 2) (c ∷ before) e room (still-subtracts k e room mode') (skip-takes k.cycle t c e a' short)
    (omega arith) (omega arith) in
    record {
      end = x.end;
      taken = x.taken + 1;
      ticks = suc x.ticks;
      next = one-more k t (c ∷ before) (c + 2) x.end x.ticks is (λ _. counts-on (c + 2) c (omega arith)) x.next;
      long = omega arith;
      few = omega arith;
      to = (omega arith, elim (x.to.1) [ inl h ↦ inl (omega arith) | inr h ↦ inr h ]);
    }

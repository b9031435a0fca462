-- The rules on times, as inequalities.
use Rattle.std.proofs.Common.{◌≡◌, ◌≢◌, inl, inr, ℕ, ◌+◌, ◌≤◌, max, nat_le, Bool, true, false, not, ◌&&◌, ◌||◌, ◌==◌, refl, sym, arith}
use Rattle.std.proofs.lemmas.Bool.{and_parts, or_cases, false≢true, leb-true}
use Rattle.std.proofs.Math.Nat.{le_trans, le-add_right}
use Rattle.sig_types.proofs.Lists.{eq-true}
use Rattle.sig_types.proofs.Sets.{every-phase}
use Rattle.sig_tables.specs.declared.tables.Tables.{Tables}
use Rattle.sig_tables.specs.Tables.{row, is_enabled, yellow_time, red_clear_time, clearance, red_revert_time}
use Rattle.sig_tables.specs.Slots.{least_service}
use Rattle.sig_tables.proofs.Below.{enabled-phase}
use Rattle.rule_book.specs.Patterns.{corrects}
use Rattle.rule_facts.specs.Rules.{KeepsRules}
use Rattle.plan_facts.specs.Times.{CorrectionHolds, TimesHold}

long-yellow : (t : Tables) (p : ℕ) → KeepsRules t → is_enabled t p ≡ true → 30 ≤ yellow_time t p
long-yellow t p k e = leb-true 30 (yellow_time t p) (k.phases p e).yellow

pub long-clearance : (t : Tables) (p : ℕ) → KeepsRules t → is_enabled t p ≡ true → 30 ≤ clearance t p
long-clearance t p k e = le_trans (long-yellow t p k e) (le-add_right (yellow_time t p) (red_clear_time t p))

reverted : (t : Tables) (p q : ℕ) → KeepsRules t → is_enabled t p ≡ true → is_enabled t q ≡ true → p ≢ q
    → red_revert_time t p ≤ least_service t q + clearance t q
reverted t p q k e f ne =
    one-or (row t p).red_revert (least_service t q) (clearance t q)
    (leb-true _ _ (last (is_enabled t q) (q == p) (nat_le (row t p).red_revert (least_service t q + clearance t q)) f
    (λ s. ne (sym (eq-true q p s)))
    (every-phase (λ x. not (is_enabled t x) || x == p || nat_le (row t p).red_revert (least_service t x + clearance t x))
    (k.phases p e).revert q (enabled-phase t q f))))
    (long-clearance t q k f)
  where
    one-or : (r s c : ℕ) → r ≤ s + c → 30 ≤ c → max 1 r ≤ s + c
    one-or r s c h g = omega arith

    last : (a b c : Bool) → a ≡ true → (b ≡ true → ⊥) → (not a || b || c) ≡ true → c ≡ true
    last true false c e n h = h
    last true true c e n h = absurd (n refl)
    last false b c e n h = absurd (false≢true e)

no-walk : (t : Tables) (p : ℕ) → KeepsRules t → is_enabled t p ≡ true → (row t p).walk ≡ 0 → (row t p).pedestrian_clear ≡ 0
no-walk t p k e none = elim (or_cases (nat_le 1 (row t p).walk) ((row t p).pedestrian_clear == 0) (k.phases p e).walk) [
  | inl some ↦ absurd (let above : 1 ≤ (row t p).walk = leb-true 1 _ some in omega (arith, above, none))
  | inr zero_clear ↦ eq-true _ _ zero_clear
]

pub corrected : (t : Tables) → corrects t ≡ true → CorrectionHolds t
corrected t h =
    let a = and_parts (nat_le 2 t.unit.mode && nat_le t.unit.mode 4 && nat_le 1 t.unit.dwell && nat_le 1 t.unit.add) (nat_le 1 t.unit.subtract) h in
    let b = and_parts (nat_le 2 t.unit.mode && nat_le t.unit.mode 4 && nat_le 1 t.unit.dwell) (nat_le 1 t.unit.add) a.0 in
    let c = and_parts (nat_le 2 t.unit.mode && nat_le t.unit.mode 4) (nat_le 1 t.unit.dwell) b.0 in
    let d = and_parts (nat_le 2 t.unit.mode) (nat_le t.unit.mode 4) c.0 in
    record {
      least_mode = leb-true 2 t.unit.mode d.0;
      greatest_mode = leb-true t.unit.mode 4 d.1;
      dwell = leb-true 1 t.unit.dwell c.1;
      add = leb-true 1 t.unit.add b.1;
      subtract = leb-true 1 t.unit.subtract a.1;
    }

pub times-hold : (t : Tables) → KeepsRules t → TimesHold t
times-hold t k = record {
  phases = record {
    yellow = λ p e. long-yellow t p k e;
    clear = λ p e. long-clearance t p k e;
    revert = λ p q e f ne. reverted t p q k e f ne;
    walk = λ p e none. no-walk t p k e none;
  };
  correction = corrected t k.correction;
}

-- What a quiet tick says: and that the target continues as time does.
use Rattle.std.proofs.Common.{◌≡◌, ◌⊎◌, inl, inr, ℕ, ◌+◌, ◌-◌, ◌*◌, ◌/◌, ◌%◌, ◌<◌, Bool, true, false}
use Rattle.std.proofs.Common.{not, nat_le, ◌==◌, ◌&&◌, ◌||◌, if◌then◌else◌, List, ◌∷◌, refl, sym, ◌∙◌, ap, arith}
use Rattle.std.proofs.Math.Nat.{mod-eq_of_lt, mod-add-mod, mod-mod, mod-add-div', add-mul-mod_self_right}
use Rattle.std.proofs.lemmas.Bool.{false≢true, eqb-true, leb-false}
use Rattle.sig_tables.specs.declared.tables.Tables.{Tables}
use Rattle.sig_tables.specs.Slots.{is_defined, cycle_time}
use Rattle.sig_tables.specs.Clock.{day, is_each, offset_time, shift_time, target_at}
use Rattle.sig_tables.specs.Past.{Moment}
use Rattle.coordination_laws.specs.Drifting.{moved}
use Rattle.plan_facts.specs.Disturbances.{Drift, rise, is_reset, passes_midnight, moves_at_midnight, interrupts, differs, is_out, is_disturbed}
use Rattle.coordination_laws.specs.Cycles.{step_of, step_at}
use Rattle.coordination_laws.specs.Goes.{CounterGoesOn}

neither : (a b : Bool) → (a || b) ≡ false → (a ≡ false) × (b ≡ false)
neither true b e = absurd (false≢true (sym e))
neither false b e = (refl, e)

holds : (b : Bool) → not b ≡ false → b ≡ true
holds true e = refl
holds false e = absurd (false≢true (sym e))

pub goes-on : (d : Drift) (m l : Moment) (past : List Moment) → is_disturbed d (m ∷ l ∷ past) ≡ false → CounterGoesOn d m l
goes-on d m l past e =
    let all = neither (differs d m l) (is_out (m ∷ l ∷ past) && not (is_out (l ∷ past))) e in
    let last = neither (not (m.command == l.command) || not (m.frame.version == l.frame.version) || is_reset d m l || passes_midnight d m l
    && moves_at_midnight m)
    (interrupts m.frame.mode) all.0 in
    let fourth = neither (not (m.command == l.command) || not (m.frame.version == l.frame.version) || is_reset d m l)
    (passes_midnight d m l && moves_at_midnight m) last.0 in
    let third = neither (not (m.command == l.command) || not (m.frame.version == l.frame.version)) (is_reset d m l) fourth.0 in
    let two = neither (not (m.command == l.command)) (not (m.frame.version == l.frame.version)) third.0 in
    record {
      command = eqb-true m.command l.command (holds (m.command == l.command) two.0);
      version = eqb-true m.frame.version l.frame.version (holds (m.frame.version == l.frame.version) two.1);
      clock = eqb-true m.clock ((l.clock + rise d m.number) % day) (holds (m.clock == (l.clock + rise d m.number) % day) third.1);
      midnight = λ defined. midnight (nat_le day (l.clock + rise d m.number)) (is_defined m.tables m.command)
          (day % cycle_time m.tables m.command == 0) refl defined refl fourth.1;
      mode = last.1;
    }
  where
    midnight : (a b c : Bool) → nat_le day (l.clock + rise d m.number) ≡ a → b ≡ true → (day % cycle_time m.tables m.command == 0) ≡ c
        → (a && (if b then not c else false)) ≡ false → (l.clock + rise d m.number < day) ⊎ (day % cycle_time m.tables m.command ≡ 0)
    midnight true true true x y z h = inr (eqb-true (day % cycle_time m.tables m.command) 0 z)
    midnight true true false x y z h = absurd (false≢true (sym h))
    midnight true false c x y z h = absurd (false≢true y)
    midnight false b c x y z h = inl (leb-false day (l.clock + rise d m.number) x)

-- that much later on a day of any length, where midnight does not move it, the target is that much further round the
-- cycle
target-any : (t : Tables) (n length more time : ℕ) → (time + more < length) ⊎ (length % cycle_time t n ≡ 0)
    → target_at t n ((time + more) % length) ≡ (target_at t n time + more) % cycle_time t n
target-any t n length more time how =
    ap (λ (x : ℕ). x % cycle_time t n) (joined ((time + more) % length) (shift_time t n) (cycle_time t n - offset_time t n % cycle_time t n))
    ∙ around (cycle_time t n) (shift_time t n + (cycle_time t n - offset_time t n % cycle_time t n)) how
    ∙ ap (λ (x : ℕ). (x % cycle_time t n + more) % cycle_time t n)
    (sym (joined time (shift_time t n) (cycle_time t n - offset_time t n % cycle_time t n)))
  where
    joined : (a b c : ℕ) → a + b + c ≡ a + (b + c)
    joined a b c = omega arith

    next : (cycle shift : ℕ) → (time + more + shift) % cycle ≡ ((time + shift) % cycle + more) % cycle
    next cycle shift = ap (λ (x : ℕ). x % cycle) (turned time more shift) ∙ sym (mod-add-mod (time + shift) cycle more)
      where
        turned : (a b c : ℕ) → a + b + c ≡ a + c + b
        turned a b c = omega arith

    whole : (cycle shift x : ℕ) → length % cycle ≡ 0 → (x % length + shift) % cycle ≡ (x + shift) % cycle
    whole cycle shift x h =
        let parts : x % length + x / length * length ≡ x = mod-add-div' x length in
        let cycles : length % cycle + length / cycle * cycle ≡ length = mod-add-div' length cycle in
        let times : x / length * length ≡ x / length * (length / cycle) * cycle
        = ap (λ (y : ℕ). x / length * y) (sym cycles ∙ ap (λ (y : ℕ). y + length / cycle * cycle) h) ∙ product (x / length) (length / cycle) cycle in
        sym (add-mul-mod_self_right (x % length + shift) (x / length * (length / cycle)) cycle)
        ∙ ap (λ (y : ℕ). y % cycle) (sums _ _ _ _ _ parts times)
      where
        product : (a b c : ℕ) → a * (0 + b * c) ≡ a * b * c
        product a b c = grind arith

        sums : (a b c s x : ℕ) → a + b ≡ x → b ≡ c → a + s + c ≡ x + s
        sums a b c s x e h = omega arith

    around : (cycle shift : ℕ) → (time + more < length) ⊎ (length % cycle ≡ 0)
        → ((time + more) % length + shift) % cycle ≡ ((time + shift) % cycle + more) % cycle
    around cycle shift (inl h) = ap (λ (x : ℕ). (x + shift) % cycle) (mod-eq_of_lt h) ∙ next cycle shift
    around cycle shift (inr h) = whole cycle shift (time + more) h ∙ next cycle shift

-- a tick later, on a clock that drifts
pub target-later : (d : Drift) (t : Tables) (n number time : ℕ) → (time + rise d number < day) ⊎ (day % cycle_time t n ≡ 0)
    → target_at t n ((time + rise d number) % day) ≡ moved (cycle_time t n) (step_at d number) (target_at t n time)
target-later d t n number time how =
    target-any t n day (rise d number) time how
    ∙ by (is_each d.gain number) (is_each d.lose number) (time + shift_time t n + (cycle_time t n - offset_time t n % cycle_time t n)) (cycle_time t n)
  where
    by : (a b : Bool) (x cycle : ℕ)
        → (x % cycle + (1 + (if a then 1 else 0) - (if b then 1 else 0))) % cycle ≡ moved cycle (step_of a b) (x % cycle)
    by true true x cycle = refl
    by true false x cycle =
        ap (λ (y : ℕ). y % cycle) (let e : x % cycle + 2 ≡ x % cycle + 1 + 1 = omega arith in e) ∙ sym (mod-add-mod (x % cycle + 1) cycle 1)
    by false true x cycle = ap (λ (y : ℕ). y % cycle) (let e : x % cycle + 0 ≡ x % cycle = omega arith in e) ∙ mod-mod x cycle
    by false false x cycle = refl

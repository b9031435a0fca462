-- The clock that a tick sees is the one that the search finds.
use Rattle.std.proofs.Common.{◌≡◌, ◌≤◌, Option, Some, None, ℕ, ◌+◌, ◌-◌, ◌%◌, Bool, true, false, if◌then◌else◌, List, [], ◌∷◌, refl, sym, ◌∙◌, ap, arith}
use Rattle.std.proofs.Math.Nat.{mod-mod, mod-add-mod}
use Rattle.sig_tables.specs.declared.tables.Tables.{Tables}
use Rattle.sig_tables.specs.Past.{Event, Tick, Install, SetClock, SetDrift, Moment, Past}
use Rattle.sig_tables.specs.Looking.{last_moment}
use Rattle.sig_tables.specs.Clock.{day, is_each, one_each, rise_at, clock_told}
use Rattle.sig_tables.specs.Showing.{clock_shown}
use Rattle.sig_tables.specs.Seen.{moment_seen}
use Rattle.sig_tables.specs.Decide.{past_of}
use Rattle.tick_laws.specs.Clocks.{tick_count, gain_told, lose_told, time_set, ticks_since, each_since, IsSteady, clock_found}

one-at-most : (b : Bool) → (if b then 1 else 0) ≤ 1
one-at-most true = omega arith
one-at-most false = omega arith

-- the drift takes away no more than the ticks
few : (many : ℕ) (events : List Event) → each_since many events ≤ ticks_since events
few many [] = omega arith
few many (Tick ∷ events) =
    let a : each_since many events ≤ ticks_since events = few many events in
    let b : one_each many (tick_count events + 1) ≤ 1 = one-at-most (is_each many (tick_count events + 1)) in
    omega arith
few many (SetClock time ∷ events) = omega arith
few many (_ ∷ events) = few many events

-- and nothing before the first tick
none-yet : (many : ℕ) (events : List Event) → tick_count events ≡ 0 → each_since many events ≡ 0
none-yet many [] e = refl
none-yet many (Tick ∷ events) e = absurd (omega (arith, e))
none-yet many (SetClock time ∷ events) e = refl
none-yet many (_ ∷ events) e = none-yet many events e

-- the number and the clock of the last moment do not ask for tables
number-aside : (a b : Tables) (moments : List Moment) → (last_moment a moments).number ≡ (last_moment b moments).number
number-aside a b [] = refl
number-aside a b (m ∷ past) = refl

clock-aside : (a b : Tables) (moments : List Moment) → (last_moment a moments).clock ≡ (last_moment b moments).clock
clock-aside a b [] = refl
clock-aside a b (m ∷ past) = refl

-- what the search finds before the day is taken round
abbrev raw : List Event → ℕ
raw events = time_set events + ticks_since events + each_since (gain_told events) events - each_since (lose_told events) events

-- what has reached this agrees with the search
record Agrees (past : Past) (events : List Event) : Type 0 where
  number : (moment_seen past).number ≡ tick_count events
  gain : past.gain ≡ gain_told events
  lose : past.lose ≡ lose_told events
  clock : clock_shown past % day ≡ raw events % day

-- one tick on
ticked : (a x r : ℕ) → a % day ≡ x % day → (a + r) % day % day ≡ (x + r) % day
ticked a x r e = mod-mod (a + r) day ∙ sym (mod-add-mod a day r) ∙ ap (λ (k : ℕ). (k + r) % day) e ∙ mod-add-mod x day r

grown : (s t g h l m : ℕ) → l ≤ t → m ≤ 1 → s + t + g - l + (1 + h - m) ≡ s + (t + 1) + (g + h) - (l + m)
grown s t g h l m a b = omega arith

agrees : (opening : Tables) (events : List Event) → IsSteady events → Agrees (past_of opening events) events
agrees opening [] s = record { number = refl; gain = refl; lose = refl; clock = refl }
agrees opening (Tick ∷ events) s =
    let a : Agrees (past_of opening events) events = agrees opening events s in
    let past : Past = past_of opening events in
    record {
      number = ap (λ (k : ℕ). k + 1) a.number;
      gain = a.gain;
      lose = a.lose;
      clock =
          ticked (clock_shown past) (raw events) (rise_at past.gain past.lose ((moment_seen past).number + 1)) a.clock
          ∙ ap (λ (k : ℕ). (raw events + rise_at past.gain past.lose (k + 1)) % day) a.number
          ∙ ap (λ (k : ℕ). (raw events + rise_at k past.lose (tick_count events + 1)) % day) a.gain
          ∙ ap (λ (k : ℕ). (raw events + rise_at (gain_told events) k (tick_count events + 1)) % day) a.lose
          ∙ ap (λ (k : ℕ). k % day)
          (grown (time_set events) (ticks_since events) (each_since (gain_told events) events) (one_each (gain_told events) (tick_count events + 1))
          (each_since (lose_told events) events) (one_each (lose_told events) (tick_count events + 1))
          (few (lose_told events) events) (one-at-most (is_each (lose_told events) (tick_count events + 1))));
    }
agrees opening (Install t ∷ events) s =
    let a : Agrees (past_of opening events) events = agrees opening events s in
    let past : Past = past_of opening events in
    record {
      number = number-aside t past.tables past.moments ∙ a.number;
      gain = a.gain;
      lose = a.lose;
      clock = ap (λ (k : ℕ). k % day) (told-aside past.clock_set t past.tables past.moments) ∙ a.clock;
    }
  where
    told-aside : (o : Option ℕ) (u v : Tables) (moments : List Moment) → clock_told o (last_moment u moments) ≡ clock_told o (last_moment v moments)
    told-aside (Some time) u v moments = refl
    told-aside None u v moments = clock-aside u v moments
agrees opening (SetClock time ∷ events) s =
    let a : Agrees (past_of opening events) events = agrees opening events s in
    record { number = a.number; gain = a.gain; lose = a.lose; clock = ap (λ (k : ℕ). k % day) (plain time) }
  where
    plain : (k : ℕ) → k ≡ k + 0 + 0 - 0
    plain k = omega arith
agrees opening (SetDrift gain lose ∷ events) s =
    let a : Agrees (past_of opening events) events = agrees opening events s.1 in
    record {
      number = a.number;
      gain = refl;
      lose = refl;
      clock =
          a.clock
          ∙ ap (λ (k : ℕ). (time_set events + ticks_since events + k - each_since (lose_told events) events) % day)
          (none-yet (gain_told events) events s.0 ∙ sym (none-yet gain events s.0))
          ∙ ap (λ (k : ℕ). (time_set events + ticks_since events + each_since gain events - k) % day)
          (none-yet (lose_told events) events s.0 ∙ sym (none-yet lose events s.0));
    }
agrees opening (_ ∷ events) s =
    let a : Agrees (past_of opening events) events = agrees opening events s in
    record { number = a.number; gain = a.gain; lose = a.lose; clock = a.clock }

pub clock-found : (opening : Tables) (events : List Event) → IsSteady events → clock_shown (past_of opening events) % day ≡ clock_found events
clock-found opening events s = (agrees opening events s).clock

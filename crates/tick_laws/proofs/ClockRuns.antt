-- A clock that nothing sets: its drift counted by division.
use Rattle.std.proofs.Common.{◌≡◌, ◌≤◌, ◌<◌, inl, inr, ℕ, zero, suc, ◌+◌, ◌*◌, ◌/◌, ◌%◌, List, [], ◌∷◌, refl, sym, ◌∙◌, ap, subst, arith}
use Rattle.std.proofs.lemmas.Bool.Decides.{eqb_tells, nat_tests}
use Rattle.std.proofs.lemmas.Nat.{mod-mul-add}
use Rattle.std.proofs.Math.Nat.{mod-add-div', mod-lt, div-eq_of_lt, div-eq_of_lt-le}
use Rattle.sig_tables.specs.declared.tables.Tables.{Tables}
use Rattle.sig_tables.specs.Past.{Event, Tick, SetPattern, SetClock, SetDrift, History}
use Rattle.sig_tables.specs.Clock.{day, one_each}
use Rattle.sig_tables.specs.Showing.{clock_shown}
use Rattle.sig_tables.specs.Decide.{past_at, since_opening, opening_drifting}
use Rattle.tick_laws.specs.Clocks.{tick_count, gain_told, lose_told, time_set, ticks_since, each_since, IsSteady, clock_found, multiples, run_on, ticks_on, clock_after}
use Rattle.tick_laws.proofs.Clocks.{clock-found}

-- a quotient grows by 1 at each multiple
quotient : (m n : ℕ) → 1 ≤ m → (n + 1) / m ≡ n / m + one_each m (n + 1)
quotient m n p =
    let e : n % m + n / m * m ≡ n = mod-add-div' n m in
    let l : n % m < m = mod-lt n p in
    let more : (n / m + 1) * m ≡ n / m * m + m = grind arith in
    let most : (n / m + 1 + 1) * m ≡ n / m * m + m + m = grind arith in
    elim (eqb_tells (n % m + 1) m) [
      | inl (t, same) ↦
          let up : n + 1 ≡ (n / m + 1) * m + 0 = omega (arith, e, same, more) in
          let here : (n + 1) % m ≡ 0 = ap (λ (k : ℕ). k % m) up ∙ mod-mul-add (n / m + 1) m 0 p in
          let one : one_each m (n + 1) ≡ 1 = grind (arith, nat_tests) in
          div-eq_of_lt-le m (omega (arith, up)) (omega (arith, up, most)) ∙ ap (λ (k : ℕ). n / m + k) (sym one)
      | inr (t, other) ↦
          let less : n % m + 1 < m = omega (arith, l, other) in
          let up : n + 1 ≡ n / m * m + (n % m + 1) = omega (arith, e) in
          let here : (n + 1) % m ≡ n % m + 1 = ap (λ (k : ℕ). k % m) up ∙ mod-mul-add (n / m) m (n % m + 1) less in
          let none : one_each m (n + 1) ≡ 0 = grind (arith, nat_tests) in
          div-eq_of_lt-le m (omega (arith, up)) (omega (arith, up, more, less)) ∙ ap (λ (k : ℕ). n / m + k) (sym none)
    ]

multiples-more : (many n : ℕ) → multiples many (n + 1) ≡ multiples many n + one_each many (n + 1)
multiples-more zero n = refl
multiples-more (suc many) n = quotient (suc many) n (omega arith)

multiples-none : (many : ℕ) → multiples many 0 ≡ 0
multiples-none zero = refl
multiples-none (suc many) =
    let l : 0 < suc many = omega arith in div-eq_of_lt l

-- the events of a history that is only opened
abbrev first_events : ℕ → ℕ → ℕ → ℕ → List Event
first_events command clock gain lose = SetDrift gain lose ∷ SetPattern command ∷ SetClock clock ∷ []

since-run : (n : ℕ) (h : History) → since_opening (run_on n h) ≡ ticks_on n (since_opening h)
since-run zero h = refl
since-run (suc n) h = ap (λ (es : List Event). Tick ∷ es) (since-run n h)

-- what the search finds after that many ticks and nothing else
record Runs (n clock gain lose : ℕ) (events : List Event) : Type 0 where
  steady : IsSteady events
  count : tick_count events ≡ n
  gains : gain_told events ≡ gain
  loses : lose_told events ≡ lose
  time : time_set events ≡ clock
  since : ticks_since events ≡ n
  each : (many : ℕ) → each_since many events ≡ multiples many n

runs : (n command clock gain lose : ℕ) → Runs n clock gain lose (ticks_on n (first_events command clock gain lose))
runs zero command clock gain lose = record {
  steady = (refl, tt);
  count = refl;
  gains = refl;
  loses = refl;
  time = refl;
  since = refl;
  each = λ many. sym (multiples-none many);
}
runs (suc n) command clock gain lose = one-more (ticks_on n (first_events command clock gain lose)) (runs n command clock gain lose)
  where
    plus : (k : ℕ) → k + 1 ≡ suc k
    plus k = omega arith

    one-more : (events : List Event) → Runs n clock gain lose events → Runs (suc n) clock gain lose (Tick ∷ events)
    one-more events r = record {
      steady = r.steady;
      count = ap (λ (k : ℕ). k + 1) r.count ∙ plus n;
      gains = r.gains;
      loses = r.loses;
      time = r.time;
      since = ap (λ (k : ℕ). k + 1) r.since ∙ plus n;
      each = λ many.
          ap (λ (k : ℕ). k + one_each many (tick_count events + 1)) (r.each many)
          ∙ ap (λ (k : ℕ). multiples many n + one_each many (k + 1)) r.count
          ∙ sym (multiples-more many n) ∙ ap (multiples many) (plus n);
    }

-- which is the clock that is counted by division
found-after : (n clock gain lose : ℕ) (events : List Event) → Runs n clock gain lose events → clock_found events ≡ clock_after clock gain lose n
found-after n clock gain lose events r =
    let gains : each_since (gain_told events) events ≡ multiples gain n = ap (λ (k : ℕ). each_since k events) r.gains ∙ r.each gain in
    let loses : each_since (lose_told events) events ≡ multiples lose n = ap (λ (k : ℕ). each_since k events) r.loses ∙ r.each lose in
    rw (r.time, r.since, gains, loses) refl

pub clock-runs : (t : Tables) (command clock gain lose n : ℕ)
    → clock_shown (past_at (run_on n (opening_drifting t command clock gain lose))) % day ≡ clock_after clock gain lose n
clock-runs t command clock gain lose n =
    let h : History = run_on n (opening_drifting t command clock gain lose) in
    let r = runs n command clock gain lose in
    let e = since-run n (opening_drifting t command clock gain lose) in
    clock-found h.tables (since_opening h) (subst IsSteady (sym e) r.steady) ∙ ap clock_found e ∙ found-after n clock gain lose _ r

-- A phase that shows Green on a safe street shows Red no sooner than its least clearance later.
use Rattle.std.proofs.Common.{◌≡◌, ◌≢◌, ◌⊎◌, inl, inr, ℕ, zero, suc, ◌+◌, ◌-◌, ◌<◌, ◌≤◌, ◌==◌, true, false, if◌then◌else◌, refl, sym, ◌∙◌, ap, subst, arith}
use Rattle.std.proofs.lemmas.Bool.{cases_Bool}
use Rattle.sig_types.specs.declared.frame.Colour.{Colour}
use Rattle.sig_types.specs.declared.frame.Colour.TheVariants.{Green, Yellow, Clear, Red}
use Rattle.sig_types.specs.Colour.{same_colour}
use Rattle.sig_types.specs.Phases.{is_phase}
use Rattle.sig_types.proofs.Lists.{eq-true}
use Rattle.tick_laws.proofs.Choices.{differs}
use Rattle.sig_tables.specs.Tables.{yellow_time, red_clear_time}
use Rattle.safety_laws.specs.Safe.{Intersection, Safe, Interval, colour_at, in_force, next_colour}
use Rattle.overlap_run.specs.Street.{VersionsUpTo}

-- the shortest clearance of a phase over the versions up to the last is at least that long
abbrev pub IsLeast : Intersection → ℕ → ℕ → ℕ → Type 0
IsLeast s last p bound = (v w : ℕ) → v ≤ last → w ≤ last → bound ≤ yellow_time (s.tables v) p + red_clear_time (s.tables w) p

-- of what it shows, the phase has shown all ticks since a first one
record Since (s : Intersection) (p : ℕ) (colour : Colour) (first tick : ℕ) : Type 0 where
  some : first ≤ tick
  during : (k : ℕ) → first ≤ k → k ≤ tick → colour_at s p k ≡ colour
  before : (k : ℕ) → k + 1 ≡ first → colour_at s p k ≢ colour

-- the state of the phase since it was Green at a tick: still or again Green; Yellow since later; or Clear, a whole
-- yellow later
data ClearingStands (s : Intersection) (last p g tick : ℕ) : Type 0 where
  IsGreen : colour_at s p tick ≡ Green → ClearingStands s last p g tick
  IsYellow : (first : ℕ) → g < first → Since s p Yellow first tick → ClearingStands s last p g tick
  IsClear : (first v : ℕ) → v ≤ last → g + 1 + yellow_time (s.tables v) p ≤ first → Since s p Clear first tick → ClearingStands s last p g tick

not-red : (s : Intersection) (last p g tick : ℕ) → ClearingStands s last p g tick → colour_at s p tick ≢ Red
not-red s last p g tick (IsGreen is) = λ e. differs Green Red refl (sym is ∙ e)
not-red s last p g tick (IsYellow first late since) = λ e. differs Yellow Red refl (sym (since.during tick since.some (omega arith)) ∙ e)
not-red s last p g tick (IsClear first v old late since) = λ e. differs Clear Red refl (sym (since.during tick since.some (omega arith)) ∙ e)

-- a first tick that shows a colour
since-now : (s : Intersection) (p tick : ℕ) (colour was : Colour) → colour_at s p (tick + 1) ≡ colour → colour_at s p tick ≡ was
    → same_colour was colour ≡ false → Since s p colour (tick + 1) (tick + 1)
since-now s p tick colour was now before other = record {
  some = omega arith;
  during = λ k from to. let e : k ≡ tick + 1 = omega (arith, from, to) in ap (colour_at s p) e ∙ now;
  before = λ k e. let same : k ≡ tick = omega (arith, e) in λ is. differs was colour other (sym before ∙ ap (colour_at s p) (sym same) ∙ is);
}

-- and one more
since-on : (s : Intersection) (p first tick : ℕ) (colour : Colour) → Since s p colour first tick → colour_at s p (tick + 1) ≡ colour
    → Since s p colour first (tick + 1)
since-on s p first tick colour since now = record {
  some = let h : first ≤ tick = since.some in omega (arith, h);
  during = λ k from to. during-on k from (lt-or-eq k tick to);
  before = since.before;
} where
  lt-or-eq : (k tick : ℕ) → k ≤ tick + 1 → (k ≤ tick) ⊎ (k ≡ tick + 1)
  lt-or-eq k tick h = grind arith

  during-on : (k : ℕ) → first ≤ k → (k ≤ tick) ⊎ (k ≡ tick + 1) → colour_at s p k ≡ colour
  during-on k from (inl low) = since.during k from low
  during-on k from (inr e) = ap (colour_at s p) e ∙ now

-- a colour that is over at the next tick is an interval that has ended
ended : (s : Intersection) (p first tick : ℕ) (colour : Colour) → Since s p colour first tick → colour_at s p (tick + 1) ≢ colour
    → Interval (λ k. colour_at s p k ≡ colour) first (tick + 1)
ended s p first tick colour since other = record {
  some = let h : first ≤ tick = since.some in omega (arith, h);
  during = λ k from to. since.during k from (omega (arith, to));
  before = λ k e. since.before k e;
  after = other;
}

module _ (s : Intersection) (last p bound g : ℕ) (safe : Safe s) (is-phase : is_phase p ≡ true) (versions : VersionsUpTo s last) (least : IsLeast s last p bound) where
  -- what follows a colour that is over
  follows : (tick : ℕ) (was now : Colour) → colour_at s p tick ≡ was → colour_at s p (tick + 1) ≡ now → same_colour now was ≡ false
      → now ≡ next_colour (in_force s (tick + 1)) p was
  follows tick was now before after other =
      sym after ∙ (safe.follows p tick is-phase).colour (λ e. differs now was other (sym after ∙ e ∙ before))
      ∙ ap (next_colour (in_force s (tick + 1)) p) before

  -- from Green only Yellow follows
  from-green : (tick : ℕ) (now : Colour) → colour_at s p (tick + 1) ≡ now → colour_at s p tick ≡ Green → g ≤ tick → ClearingStands s last p g (tick + 1)
  from-green tick Green after is late = IsGreen after
  from-green tick Yellow after is late = IsYellow (tick + 1) (omega (arith, late)) (since-now s p tick Yellow Green after is refl)
  from-green tick Clear after is late = absurd (differs Clear Yellow refl (follows tick Green Clear is after refl))
  from-green tick Red after is late = absurd (differs Red Yellow refl (follows tick Green Red is after refl))

  clear-follows : (tick : ℕ) (now : Colour) → now ≡ (if red_clear_time (in_force s (tick + 1)) p == 0 then Red else Clear)
      → ((now ≡ Red) × (red_clear_time (in_force s (tick + 1)) p ≡ 0)) ⊎ (now ≡ Clear)
  clear-follows tick now e = elim (cases_Bool (red_clear_time (in_force s (tick + 1)) p == 0)) [
    | inl hit ↦ inl (rw hit at e, eq-true _ _ hit)
    | inr miss ↦ inr (rw miss at e)
  ]

  -- Yellow lasts its time, and then Clear follows, or Red where no red clearance is required
  from-yellow : (first tick : ℕ) (now : Colour) → colour_at s p (tick + 1) ≡ now → g < first → Since s p Yellow first tick → tick + 1 ≤ g + bound
      → ClearingStands s last p g (tick + 1)
  from-yellow first tick Yellow after late since short = IsYellow first late (since-on s p first tick Yellow since after)
  from-yellow first tick Green after late since short =
      absurd (elim (clear-follows tick Green (follows tick Yellow Green (since.during tick since.some (omega arith)) after refl)) [
        | inl red ↦ differs Green Red refl red.0
        | inr clear ↦ differs Green Clear refl clear
      ])
  from-yellow first tick Clear after late since short =
      let long : tick + 1 ≡ first + yellow_time (in_force s first) p =
      (safe.lasts p first (tick + 1) is-phase).yellow (ended s p first tick Yellow since (λ e. differs Clear Yellow refl (sym after ∙ e))) in
      IsClear (tick + 1) (s.shown first).version (versions first) (omega (arith, long, late))
      (since-now s p tick Clear Yellow after (since.during tick since.some (omega arith)) refl)
  from-yellow first tick Red after late since short =
      let long : tick + 1 ≡ first + yellow_time (in_force s first) p =
      (safe.lasts p first (tick + 1) is-phase).yellow (ended s p first tick Yellow since (λ e. differs Red Yellow refl (sym after ∙ e))) in
      let fits : bound ≤ yellow_time (in_force s first) p + red_clear_time (in_force s (tick + 1)) p =
      least (s.shown first).version (s.shown (tick + 1)).version (versions first) (versions (tick + 1)) in
      absurd (elim (clear-follows tick Red (follows tick Yellow Red (since.during tick since.some (omega arith)) after refl)) [
        | inl red ↦ (let none : red_clear_time (in_force s (tick + 1)) p ≡ 0 = red.1 in omega (arith, long, late, short, fits, none))
        | inr clear ↦ differs Red Clear refl clear
      ])

  -- Clear lasts its time
  from-clear : (first v tick : ℕ) (now : Colour) → colour_at s p (tick + 1) ≡ now → v ≤ last → g + 1 + yellow_time (s.tables v) p ≤ first
      → Since s p Clear first tick → tick + 1 ≤ g + bound → ClearingStands s last p g (tick + 1)
  from-clear first v tick Clear after old late since short = IsClear first v old late (since-on s p first tick Clear since after)
  from-clear first v tick Green after old late since short =
      absurd (differs Green Red refl (follows tick Clear Green (since.during tick since.some (omega arith)) after refl))
  from-clear first v tick Yellow after old late since short =
      absurd (differs Yellow Red refl (follows tick Clear Yellow (since.during tick since.some (omega arith)) after refl))
  from-clear first v tick Red after old late since short =
      let long : tick + 1 ≡ first + red_clear_time (in_force s first) p =
      (safe.lasts p first (tick + 1) is-phase).clear (ended s p first tick Clear since (λ e. differs Red Clear refl (sym after ∙ e))) in
      let fits : bound ≤ yellow_time (s.tables v) p + red_clear_time (in_force s first) p = least v (s.shown first).version old (versions first) in
      absurd (omega (arith, long, late, short, fits))

  goes-on : (tick : ℕ) → ClearingStands s last p g tick → g ≤ tick → tick + 1 ≤ g + bound → ClearingStands s last p g (tick + 1)
  goes-on tick (IsGreen is) late short = from-green tick (colour_at s p (tick + 1)) refl is late
  goes-on tick (IsYellow first from since) late short = from-yellow first tick (colour_at s p (tick + 1)) refl from since short
  goes-on tick (IsClear first v old from since) late short = from-clear first v tick (colour_at s p (tick + 1)) refl old from since short

  stands-after : (d : ℕ) → colour_at s p g ≡ Green → d ≤ bound → ClearingStands s last p g (g + d)
  stands-after zero green short = IsGreen (ap (colour_at s p) (omega arith) ∙ green)
  stands-after (suc d) green short =
      let next : g + d + 1 ≡ g + suc d = omega arith in
      subst (λ (k : ℕ). ClearingStands s last p g k) next
      (goes-on (g + d) (stands-after d green (omega (arith, short))) (omega arith) (omega (arith, short)))

  -- so it isn't Red for as long as its least clearance after it was Green
  pub clears : (tick : ℕ) → colour_at s p g ≡ Green → g ≤ tick → tick ≤ g + bound → colour_at s p tick ≢ Red
  clears tick green late short =
      let is : g + (tick - g) ≡ tick = omega (arith, late) in
      subst (λ (k : ℕ). colour_at s p k ≢ Red) is (not-red s last p g (g + (tick - g)) (stands-after (tick - g) green (omega (arith, short, late))))

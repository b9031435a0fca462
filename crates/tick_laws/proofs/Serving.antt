-- Along a lawful history a pattern forces off only served phases: what holds of a cabinet coordinated in a pattern is
-- kept by each tick, and a download ends the step.
use Rattle.std.proofs.Common.{◌≡◌, inl, inr, ℕ, ◌+◌, ◌≤◌, true, false, not, ◌&&◌, ◌==◌, List, [], ◌∷◌, Option, Some, None, refl, sym, ◌∙◌, ap, subst, arith}
use Rattle.std.proofs.lemmas.Bool.{cases_Bool, and_parts, both_ways, false≢true, not-true, leb-true}
use Rattle.sig_types.specs.declared.frame.Colour.{Colour}
use Rattle.sig_types.specs.declared.frame.Colour.TheVariants.{Green, Red}
use Rattle.sig_types.specs.declared.frame.Mode.{Mode}
use Rattle.sig_types.specs.declared.frame.Mode.TheVariants.{Seek, Coord}
use Rattle.sig_types.specs.Colour.{same_colour, is_start, colour_of, signal_of}
use Rattle.sig_types.proofs.Lists.{eq-true}
use Rattle.sig_tables.specs.declared.tables.Tables.{Tables}
use Rattle.sig_tables.specs.Tables.{is_enabled}
use Rattle.sig_tables.specs.Slots.{is_defined, is_coordinated, is_omitted, force_point}
use Rattle.sig_tables.specs.Modes.{same_mode, bound}
use Rattle.sig_tables.specs.Coordinating.{is_forced_off}
use Rattle.sig_tables.specs.Past.{Event, Tick, Input, Install, SetPattern, SetClock, Ask, Cancel, SetDrift, Moment, Past, first_moment}
use Rattle.sig_tables.specs.Looking.{last_frame}
use Rattle.sig_tables.specs.Command.{command_now}
use Rattle.sig_tables.specs.Preempts.{preempts_on}
use Rattle.sig_tables.specs.Choosing.{is_in_step}
use Rattle.sig_tables.specs.View.{is_served, is_forced}
use Rattle.sig_tables.specs.Seen.{mode_seen, view_seen, moves_seen}
use Rattle.sig_tables.specs.TickState.{tick_state_of}
use Rattle.sig_tables.specs.Decide.{colours_of, last_moment, next_moment, past_of}
use Rattle.sig_tables.proofs.FreeTickState.{forced-unbound}
use Rattle.tick_laws.specs.Phases.{OtherGreen, OtherStands, SignalStands}
use Rattle.tick_laws.proofs.ForcedSignals.{served-at_force_off}
use Rattle.tick_laws.specs.Lawful.{Lawful}
use Rattle.tick_laws.specs.Served.{ForcesServed, AllServed}
use Rattle.tick_laws.specs.Walking.{OnGreen}
use Rattle.tick_laws.specs.InStep.{EachCoordinated, InStep}
use Rattle.tick_laws.proofs.Choices.{same-is, differs}
use Rattle.tick_laws.proofs.Sought.{Numbered, Known, sought-known}
use Rattle.tick_laws.proofs.FrameStands.{FrameStands}
use Rattle.tick_laws.proofs.PatternFacts.{plan-serves}
use Rattle.tick_laws.proofs.Modes.{ModeGoesOn, sought-goes, reached-coord, same-coord}
use Rattle.tick_laws.proofs.InStep.{GoesInStep, step-of, goes-on, picks-up, shows-coordinated}
use Rattle.tick_laws.proofs.Apart.{Holds, holds}
use Rattle.tick_laws.proofs.Signals.{last-green}

-- what is carried from event to event: where the last frame is coordinated in a pattern of the tables in force, the
-- facts of the step
record Carried (t : Tables) (version : ℕ) (moments : List Moment) : Type 0 where
  numbered : (last_frame moments).version ≤ version
  steps : (n : ℕ) → is_in_step (last_frame moments) version n ≡ true → InStep t n moments
  each : EachCoordinated moments

-- ---- one tick

-- a tick in a pattern's mode follows a frame coordinated in it
goes : (past : Past) (n : ℕ) → Numbered (last_frame past.moments).mode → mode_seen past ≡ Coord n
    → (is_in_step (last_frame past.moments) past.version n ≡ true) × (is_defined past.tables n ≡ true)
goes past n numbered mode =
    subst (ModeGoesOn past.tables past.version (last_frame past.moments)) mode
    (sought-goes past.tables past.version (command_now past) (preempts_on past.heard (last_moment past.tables past.moments)) past.moments numbered)

-- before any tick nothing is coordinated
none-in-step : (version n : ℕ) → is_in_step (last_frame []) version n ≡ true → ⊥
none-in-step version n h = false≢true h

in-step : (past : Past) (n : ℕ) → Holds past.tables past.moments → Carried past.tables past.version past.moments → mode_seen past ≡ Coord n
    → GoesInStep past n
in-step past n h c mode = by past.moments refl
  where
    before : is_in_step (last_frame past.moments) past.version n ≡ true
    before = (goes past n h.numbered mode).0

    by : (ms : List Moment) → past.moments ≡ ms → GoesInStep past n
    by [] e = absurd (none-in-step past.version n (subst (λ (ms : List Moment). is_in_step (last_frame ms) past.version n ≡ true) e before))
    by (l ∷ earlier) e = record {
      sound = h.sound;
      stands = h.stands;
      mode = mode;
      before = before;
      step = c.steps n before;
      last = l;
      earlier = earlier;
      lasting = e;
    }

-- what is forced off is Green, not coordinated, and at its force point
record ForcedOff (past : Past) (n p : ℕ) : Type 0 where
  enabled : is_enabled past.tables p ≡ true
  green : colour_of (last_frame past.moments) p ≡ Green
  other : is_coordinated past.tables n p ≡ false
  late : force_point past.tables n p ≤ (tick_state_of past).counter

forced-off : (past : Past) (n p : ℕ) → mode_seen past ≡ Coord n → is_forced (view_seen past) p ≡ true → ForcedOff past n p
forced-off past n p mode h =
    let a = and_parts (is_enabled past.tables p && same_colour (colour_of (last_frame past.moments) p) Green)
    (is_forced_off (bound (mode_seen past)) past.tables (tick_state_of past).counter p) h in
    let b = and_parts (is_enabled past.tables p) (same_colour (colour_of (last_frame past.moments) p) Green) a.0 in
    let off : is_forced_off (Some n) past.tables (tick_state_of past).counter p ≡ true
    = subst (λ (x : Option ℕ). is_forced_off x past.tables (tick_state_of past).counter p ≡ true) (ap bound mode) a.1 in
    let c = and_parts (not (is_coordinated past.tables n p)) _ off in
    record { enabled = b.0; green = same-is _ Green b.1; other = not-true _ c.0; late = leb-true _ _ c.1 }

off-served : (past : Past) (n p : ℕ) → GoesInStep past n → ForcedOff past n p → is_served past.tables past.moments p ≡ true
off-served past n p g f = elim (cases_Bool (is_omitted past.tables n p)) [
  | inl o ↦ absurd (differs Red Green refl (sym (g.step.in_time.omitted p f.enabled f.other o) ∙ f.green))
  | inr s ↦
      by past.moments (sym g.lasting)
      (subst (λ (x : Colour). OtherStands past.tables n p (last_frame past.moments).counter past.moments x) f.green
      (g.step.in_time.others p f.enabled f.other s))
      (g.step.walks p f.enabled f.other) s
]
  where
    by : (ms : List Moment) → g.last ∷ g.earlier ≡ ms → OtherGreen past.tables n p (last_frame past.moments).counter ms
        → SignalStands past.tables p ms (signal_of (last_frame ms) p) → is_omitted past.tables n p ≡ false → is_served past.tables ms p ≡ true
    by ms is green walks s =
        subst (λ (ys : List Moment). is_served past.tables ys p ≡ true) is
        (served-at_force_off past.tables n p (last_frame past.moments).counter (tick_state_of past).counter g.last g.earlier
        ((plan-serves past.tables n g.sound g.step.defined).other p f.enabled f.other s) (step-of past n g) (g.sound.times.phases.walk p f.enabled)
        (subst (λ (ys : List Moment). OtherGreen past.tables n p (last_frame past.moments).counter ys) (sym is) green)
        (subst (λ (ys : List Moment). SignalStands past.tables p ys (signal_of (last_frame ys) p)) (sym is) walks) f.late)

forces-served : (past : Past) → Holds past.tables past.moments → Carried past.tables past.version past.moments → ForcesServed past
forces-served past h c p = by (mode_seen past) refl
  where
    unbound : bound (mode_seen past) ≡ None → is_forced (view_seen past) p ≡ true → is_served past.tables past.moments p ≡ true
    unbound e forced = absurd (both_ways (is_forced (view_seen past) p) (forced-unbound (view_seen past) p e) forced)

    by : (mode : Mode) → mode_seen past ≡ mode → is_forced (view_seen past) p ≡ true → is_served past.tables past.moments p ≡ true
    by (Coord n) e forced = off-served past n p (in-step past n h c e) (forced-off past n p e forced)
    by _ e forced = unbound (ap bound e) forced

-- the frame is coordinated where its tick continued coordinated, or picked the pattern up
next-in-step : (past : Past) (n : ℕ) → Holds past.tables past.moments → FrameStands past.tables (next_moment past).frame
    → Carried past.tables past.version past.moments → OnGreen (last_frame past.moments) → OnGreen (next_moment past).frame
    → (next_moment past).frame.mode ≡ Coord n → InStep past.tables n (next_moment past ∷ past.moments)
next-in-step past n h stands c last next mode =
    elim (reached-coord (mode_seen past) past.tables (colours_of past (moves_seen past)) n mode) [
      | inl on ↦ goes-on past n (in-step past n h c on) last next
      | inr up ↦ picks-up past n h.sound (defined up.0) up.0 up.1 stands next
    ]
  where
    defined : mode_seen past ≡ Seek n → is_defined past.tables n ≡ true
    defined e =
        subst (Known past.tables) e
        (sought-known past.tables past.version (command_now past) (preempts_on past.heard (last_moment past.tables past.moments)) past.moments h.numbered)

-- ---- all events

first-carried : (t : Tables) → Carried t 0 (first_moment t ∷ [])
first-carried t = record {
  numbered = omega arith;
  steps = λ n h. absurd (false≢true h);
  each = ((λ n e. absurd (false≢true (sym (ap is_start e)))), tt);
}

ticked : (past : Past) → Holds past.tables past.moments → FrameStands past.tables (next_moment past).frame
    → Carried past.tables past.version past.moments → OnGreen (last_frame past.moments) → OnGreen (next_moment past).frame
    → Carried past.tables past.version (next_moment past ∷ past.moments)
ticked past h stands c last next = record {
  numbered = omega arith;
  steps = λ n e. step n (same-coord _ n (and_parts (same_mode (next_moment past).frame.mode (Coord n)) (past.version == past.version) e).0);
  each = ((λ n e. shows-coordinated past.tables n (next_moment past) past.moments h.sound (step n e)), c.each);
}
  where
    step : (n : ℕ) → (next_moment past).frame.mode ≡ Coord n → InStep past.tables n (next_moment past ∷ past.moments)
    step n mode = next-in-step past n h stands c last next mode

-- after a download no frame is coordinated: the tables have a greater number
installed : (old new : Tables) (version : ℕ) (moments : List Moment) → Carried old version moments → Carried new (version + 1) moments
installed old new version moments c = record {
  numbered = let le : (last_frame moments).version ≤ version = c.numbered in omega arith;
  steps = λ n e.
      let same : (last_frame moments).version ≡ version + 1
      = eq-true _ _ (and_parts (same_mode (last_frame moments).mode (Coord n)) ((last_frame moments).version == version + 1) e).1 in
      let le : (last_frame moments).version ≤ version = c.numbered in
      absurd (omega arith);
  each = c.each;
}

abbrev After : Tables → List Event → Type 0
After opening events =
    AllServed opening events × Carried (past_of opening events).tables (past_of opening events).version (past_of opening events).moments

tick : (opening : Tables) (events : List Event) → Lawful opening (Tick ∷ events) → After opening events → After opening (Tick ∷ events)
tick opening events l a =
    let before : Lawful opening events = (l.0, l.1.1) in
    let h : Holds (past_of opening events).tables (past_of opening events).moments = holds opening events before in
    let served : AllServed opening (Tick ∷ events) = (forces-served (past_of opening events) h a.1, a.0) in (
      served,
      ticked (past_of opening events) h (holds opening (Tick ∷ events) l).stands a.1 (last-green opening events a.0)
          (last-green opening (Tick ∷ events) served),
    )

after : (opening : Tables) (events : List Event) → Lawful opening events → After opening events
after opening [] l = (tt, first-carried opening)
after opening (Tick ∷ events) l = tick opening events l (after opening events (l.0, l.1.1))
after opening (Install t ∷ events) l =
    let a : After opening events = after opening events (l.0, l.1.1) in ((tt, a.0), installed _ t _ (past_of opening events).moments a.1)
after opening (Input field ∷ events) l = let a : After opening events = after opening events (l.0, l.1.1) in ((tt, a.0), a.1)
after opening (SetPattern n ∷ events) l = let a : After opening events = after opening events (l.0, l.1.1) in ((tt, a.0), a.1)
after opening (SetClock time ∷ events) l = let a : After opening events = after opening events (l.0, l.1.1) in ((tt, a.0), a.1)
after opening (Ask request ∷ events) l = let a : After opening events = after opening events (l.0, l.1.1) in ((tt, a.0), a.1)
after opening (Cancel number ∷ events) l = let a : After opening events = after opening events (l.0, l.1.1) in ((tt, a.0), a.1)
after opening (SetDrift gain lose ∷ events) l = let a : After opening events = after opening events (l.0, l.1.1) in ((tt, a.0), a.1)

-- a pattern forces off only served phases
pub lawful-served : (opening : Tables) (events : List Event) → Lawful opening events → AllServed opening events
lawful-served opening events l = (after opening events l).0

-- at the tick that comes next as well
pub lawful-forces : (opening : Tables) (events : List Event) → Lawful opening events → ForcesServed (past_of opening events)
lawful-forces opening events l = forces-served (past_of opening events) (holds opening events l) (after opening events l).1

-- what holds of a coordinated cabinet holds after all events
pub lawful-step : (opening : Tables) (events : List Event) (n : ℕ) → Lawful opening events
    → is_in_step (last_frame (past_of opening events).moments) (past_of opening events).version n ≡ true
    → InStep (past_of opening events).tables n (past_of opening events).moments
lawful-step opening events n l h = (after opening events l).1.steps n h

pub lawful-coordinated : (opening : Tables) (events : List Event) → Lawful opening events → EachCoordinated (past_of opening events).moments
lawful-coordinated opening events l = (after opening events l).1.each

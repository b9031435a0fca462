-- Each tick of a lawful history says what coordination rests on.
use Rattle.std.proofs.Common.{◌≡◌, inl, ℕ, ◌+◌, ◌*◌, ◌≤◌, ◌<◌, max, nat_le, Bool, true, false, ◌==◌, ◌&&◌, if◌then◌else◌, List, [], ◌∷◌, refl, ap, subst, arith}
use Rattle.std.proofs.lemmas.Bool.{and_parts, leb-true}
use Rattle.sig_tables.specs.declared.tables.Tables.{Tables}
use Rattle.sig_tables.specs.Cells.{pattern_of}
use Rattle.sig_tables.specs.Counting.{most_a_cycle}
use Rattle.sig_tables.specs.Counters.{correction_of}
use Rattle.sig_tables.specs.Slots.{is_defined, cycle_time, coordinated_phase}
use Rattle.sig_tables.specs.InRange.{InRange}
use Rattle.sig_tables.specs.Events.{EachEvent}
use Rattle.sig_tables.specs.Past.{Event, Tick, Moment, first_moment}
use Rattle.sig_tables.specs.Looking.{last_frame, last_moment}
use Rattle.sig_tables.specs.Decide.{next_moment, past_of}
use Rattle.sig_tables.proofs.Histories.{over-events, each-event}
use Rattle.tick_laws.specs.Each.{EachMoment}
use Rattle.tick_laws.specs.Lawful.{Sound, IsLawfulAfter, Lawful}
use Rattle.plan_facts.specs.Plan.{PlanHolds, HeldForce}
use Rattle.tick_laws.proofs.Apart.{holds}
use Rattle.tick_laws.proofs.Serving.{lawful-step, lawful-coordinated}
use Rattle.plan_facts.specs.Disturbances.{Drift, drifts, drift_gap, IsSlow}
use Rattle.coordination_laws.specs.Cycles.{HasTime}
use Rattle.coordination_laws.specs.Facts.{TellsEach}
use Rattle.coordination_laws.proofs.Meeting.{tells-opening}
use Rattle.coordination_laws.specs.MomentTold.{MomentTold}
use Rattle.coordination_laws.specs.Ranged.{PutsInRange, EachInRange}
use Rattle.coordination_laws.proofs.Underway.{any-moment}
use Rattle.coordination_laws.proofs.TellingMet.{next-told, first-told}
use Rattle.coordination_laws.proofs.Facts.{Before, tells}

-- ---- tables in range leave time between the steps of a slow drift: two of the longest cycles take at most 10,200 ticks
has-time : (d : Drift) (t : Tables) (n : ℕ) → IsSlow d → InRange t → Sound t → is_defined t n ≡ true → HasTime d (correction_of t n)
has-time d t n slow range sound defined = record {
  slow = slow;
  add = short _ _ _ _ plan.window.stands held.window held.last;
  cycles = time (cycle_time t n) (most_a_cycle (correction_of t n)) (ten _ long)
      (most (t.unit.mode == 2) (t.unit.mode == 4) t.unit.dwell t.unit.add t.unit.subtract range.unit.dwell range.unit.add range.unit.subtract);
}
  where
    plan : PlanHolds t n
    plan = sound.plans n defined

    held : HeldForce t n (coordinated_phase t n 1)
    held = plan.held (coordinated_phase t n 1) (plan.coordinates.coordinated 1 (inl refl))

    numbered : (nat_le 1 n ≡ true) × (nat_le n 48 ≡ true)
    numbered = and_parts (nat_le 1 n) (nat_le n 48)
        (and_parts (nat_le 1 n && nat_le n 48) (nat_le 1 (pattern_of t n).cycle) defined).0

    long : (pattern_of t n).cycle ≤ 255
    long = (range.patterns n (leb-true 1 n numbered.0) (leb-true n 48 numbered.1)).cycle

    ten : (c : ℕ) → c ≤ 255 → 10 * c ≤ 2550
    ten c h = omega arith

    short : (a w f c : ℕ) → a ≤ w → w ≤ f → f + 30 ≤ c → a + 1 < c
    short a w f c h i j = omega arith

    most : (two four : Bool) (dwell add subtract : ℕ) → dwell ≤ 2550 → add ≤ 2550 → subtract ≤ 2550
        → (if two then dwell else if four then add else max add subtract) ≤ 2550
    most true four dwell add subtract x y z = x
    most false true dwell add subtract x y z = y
    most false false dwell add subtract x y z = omega arith

    time : (c m : ℕ) → c ≤ 2550 → m ≤ 2550 → 2 * (c + m) + 1 ≤ drift_gap
    time c m h i = omega arith

-- ---- from event to event
-- an event is one that a lawful history allows; where the clock drifts, the tables that it puts in force are in range
abbrev Allows : Drift → Tables → List Event → Event → Type 0
Allows d opening before e = IsLawfulAfter opening before e × (drifts d ≡ true → PutsInRange before e)

each-allowed : (d : Drift) (opening : Tables) (events : List Event) → EachEvent (IsLawfulAfter opening) events
    → (drifts d ≡ true → EachEvent PutsInRange events) → EachEvent (Allows d opening) events
each-allowed d opening [] lawful range = tt
each-allowed d opening (e ∷ events) lawful range =
    ((lawful.0, λ some. (range some).0), each-allowed d opening events lawful.1 (λ some. (range some).1))

-- what is carried from event to event: the last frame names the version in force only where its tables are in force,
-- and each moment says what it must
record Carried (d : Drift) (t : Tables) (version : ℕ) (moments : List Moment) : Type 0 where
  number : (last_frame moments).version ≤ version
  tables : (last_frame moments).version ≡ version → (last_moment t moments).tables ≡ t
  told : EachMoment (λ past m. MomentTold m) moments
  tells : TellsEach d moments
  range : drifts d ≡ true → InRange t

first-carried : (d : Drift) (t : Tables) → (drifts d ≡ true → InRange t) → Carried d t 0 (first_moment t ∷ [])
first-carried d t range =
    record { number = omega arith; tables = λ e. refl; told = (first-told t, tt); tells = tells-opening d t; range = range }

before-tick : (d : Drift) (opening : Tables) (events : List Event) → (drifts d ≡ true → IsSlow d) → Lawful opening events
    → Carried d (past_of opening events).tables (past_of opening events).version (past_of opening events).moments
    → (l : Moment) (earlier : List Moment) → (past_of opening events).moments ≡ l ∷ earlier → Before d (past_of opening events) l earlier
before-tick d opening events slow lawful c l earlier e = record {
  lasting = e;
  holds = holds opening events lawful;
  told = (subst (λ (ms : List Moment). EachMoment (λ past m. MomentTold m) ms) e c.told).0;
  version = subst
      (λ (ms : List Moment). (last_frame ms).version ≡ (past_of opening events).version
      → (last_moment (past_of opening events).tables ms).tables ≡ (past_of opening events).tables)
      e c.tables;
  time = λ some n defined. has-time d (past_of opening events).tables n (slow some) (c.range some) (holds opening events lawful).sound defined;
  any = any-moment opening (Tick ∷ events) later (next_moment (past_of opening events)) (l ∷ earlier)
      (ap (λ (ms : List Moment). next_moment (past_of opening events) ∷ ms) e);
  shown = λ n mode. (lawful-coordinated opening (Tick ∷ events) later).0 n mode;
  steps = λ n mode before. record {
    sound = (holds opening events lawful).sound;
    stands = (holds opening events lawful).stands;
    mode = mode;
    before = before;
    step = lawful-step opening events n lawful before;
    last = l;
    earlier = earlier;
    lasting = e;
  };
}
  where
    later : Lawful opening (Tick ∷ events)
    later = (lawful.0, (tt, lawful.1))

ticked : (d : Drift) (opening : Tables) (events : List Event) → (drifts d ≡ true → IsSlow d) → Lawful opening events
    → Carried d (past_of opening events).tables (past_of opening events).version (past_of opening events).moments
    → Carried d (past_of opening events).tables (past_of opening events).version
    (next_moment (past_of opening events) ∷ (past_of opening events).moments)
ticked d opening events slow lawful c = record {
  number = omega arith;
  tables = λ e. refl;
  told = (next-told (past_of opening events) (holds opening events lawful).numbered, c.told);
  tells = by (past_of opening events).moments refl c.tells;
  range = c.range;
}
  where
    by : (ms : List Moment) → (past_of opening events).moments ≡ ms → TellsEach d ms → TellsEach d (next_moment (past_of opening events) ∷ ms)
    by [] e h = absurd h
    by (l ∷ earlier) e h = (tells d (past_of opening events) l earlier (before-tick d opening events slow lawful c l earlier e), h)

installed : (d : Drift) (old new : Tables) (version : ℕ) (moments : List Moment) → (drifts d ≡ true → InRange new) → Carried d old version moments
    → Carried d new (version + 1) moments
installed d old new version moments range c = record {
  number = let le : (last_frame moments).version ≤ version = c.number in omega arith;
  tables = λ e. let le : (last_frame moments).version ≤ version = c.number in absurd (omega arith);
  told = c.told;
  tells = c.tells;
  range = range;
}

pub tells-each : (d : Drift) (opening : Tables) (events : List Event) → (drifts d ≡ true → IsSlow d)
    → (drifts d ≡ true → EachInRange opening events) → Lawful opening events → TellsEach d (past_of opening events).moments
tells-each d opening events slow range lawful =
    (over-events opening (Allows d opening) (Carried d) (first-carried d opening (λ some. (range some).0))
    (λ before a allowed c. ticked d opening before slow
    (lawful.0, each-event (Allows d opening) (IsLawfulAfter opening) (λ earlier e h. h.0) before a) c)
    (λ before t a allowed c. installed d _ t _ (past_of opening before).moments allowed.1 c)
    events (each-allowed d opening events lawful.1 (λ some. (range some).1))).tells

-- The intervals under way at a moment of a lawful history: each has begun, has not outlasted its time, and has it from a version so far.
use Rattle.std.proofs.Common.{◌≡◌, inl, ℕ, ◌+◌, ◌≤◌, ◌<◌, max, Bool, true, List, ◌∷◌, refl, subst, arith}
use Rattle.sig_types.specs.declared.frame.Colour.{Colour}
use Rattle.sig_types.specs.declared.frame.Colour.TheVariants.{Green, Yellow, Clear, Red}
use Rattle.sig_types.specs.declared.frame.Ped.{Ped}
use Rattle.sig_types.specs.declared.frame.Ped.TheVariants.{Walk, Flash, Dont}
use Rattle.sig_types.specs.Phases.{is_phase}
use Rattle.sig_types.specs.Colour.{colour_of, signal_of}
use Rattle.sig_tables.specs.declared.tables.Tables.{Tables}
use Rattle.sig_tables.specs.Tables.{is_enabled, least_green, yellow_time, red_clear_time, walk_time, pedestrian_clear_time}
use Rattle.sig_tables.specs.Past.{Event, Moment}
use Rattle.sig_tables.specs.Looking.{in_a_row, begun, run, signal_run, shows, signals}
use Rattle.sig_tables.specs.Decide.{past_of}
use Rattle.sig_tables.proofs.Below.{enabled-phase}
use Rattle.tick_laws.proofs.Runs.{run-on}
use Rattle.tick_laws.specs.Lawful.{Lawful}
use Rattle.tick_laws.specs.Safe.{Within, LongYellow, EachWithin, EachLongYellow}
use Rattle.tick_laws.specs.Walking.{WalkWithin, FlashWithin, EachWalkWithin, EachFlashWithin}
use Rattle.tick_laws.proofs.Within.{each-within}
use Rattle.tick_laws.proofs.Apart.{each-long}
use Rattle.tick_laws.proofs.SignalWithin.{each-walk-within, each-flash-within}
use Rattle.tick_laws.proofs.Serving.{lawful-served}
use Rattle.tick_laws.proofs.ForcedSignals.{signal-on}
use Rattle.coordination_laws.specs.Search.{AnyMoment, Runs, SignalRuns}
use Rattle.plan_facts.specs.Greatest.{greatest_time}
use Rattle.coordination_laws.specs.Versions.{greatest_at}
use Rattle.coordination_laws.proofs.Greatest.{was-enabled, time-bounds, begun-version, service-bounds}

pub any-moment : (opening : Tables) (events : List Event) → Lawful opening events → (m : Moment) (past : List Moment)
    → (past_of opening events).moments ≡ m ∷ past → AnyMoment (greatest_at (m ∷ past)) m.tables (m ∷ past)
any-moment opening events lawful m past e = record {
  colours = λ p en. colour p en (colour_of m.frame p) refl;
  signals = λ p en. signal p en (signal_of m.frame p) refl;
}
  where
    within : (p : ℕ) → is_phase p ≡ true → Within past m p
    within = (subst (λ (ms : List Moment). EachWithin ms) e (each-within opening events)).0

    long : (p : ℕ) → is_phase p ≡ true → LongYellow past m p
    long = (subst (λ (ms : List Moment). EachLongYellow ms) e (each-long opening events lawful)).0

    walks : (p : ℕ) → is_phase p ≡ true → WalkWithin past m p
    walks = (subst (λ (ms : List Moment). EachWalkWithin ms) e (each-walk-within opening events (lawful-served opening events lawful))).0

    flashes : (p : ℕ) → is_phase p ≡ true → FlashWithin past m p
    flashes = (subst (λ (ms : List Moment). EachFlashWithin ms) e (each-flash-within opening events)).0

    ran : (p : ℕ) (c : Colour) → colour_of m.frame p ≡ c → 1 ≤ run p c (m ∷ past)
    ran p c h = let k : run p c (m ∷ past) ≡ run p c past + 1 = run-on p c m past h in omega arith

    signalled : (p : ℕ) (s : Ped) → signal_of m.frame p ≡ s → 1 ≤ signal_run p s (m ∷ past)
    signalled p s h = let k : signal_run p s (m ∷ past) ≡ signal_run p s past + 1 = signal-on p s m past h in omega arith

    kept : (time : Tables → ℕ → ℕ) (test : Moment → Bool) (p : ℕ) → is_enabled m.tables p ≡ true → 1 ≤ in_a_row test (m ∷ past)
        → time (begun test m.tables (m ∷ past)) p ≤ greatest_time time p (m ∷ past)
    kept time test p en r =
        time-bounds time (begun test m.tables (m ∷ past)) p (m ∷ past) (was-enabled m.tables p (m ∷ past) en (inl refl))
        (begun-version test m.tables (m ∷ past) r)

    upper : (a b c d : ℕ) → a ≤ b → max b c ≤ d → a ≤ d
    upper a b c d h k = omega arith

    some : (a : ℕ) → 30 ≤ a → 0 < a
    some a h = omega arith

    colour : (p : ℕ) → is_enabled m.tables p ≡ true → (x : Colour) → colour_of m.frame p ≡ x
        → Runs (greatest_at (m ∷ past) p) m.tables p (m ∷ past) x
    colour p en Green h =
        (ran p Green h, upper _ _ _ _ (kept least_green (shows p Green) p en (ran p Green h)) (service-bounds (m ∷ past) p))
    colour p en Yellow h = (
      ran p Yellow h,
      (within p (enabled-phase m.tables p en)).yellow (some _ (long p (enabled-phase m.tables p en) h)),
      kept yellow_time (shows p Yellow) p en (ran p Yellow h),
    )
    colour p en Clear h =
        (ran p Clear h, (within p (enabled-phase m.tables p en)).clear, kept red_clear_time (shows p Clear) p en (ran p Clear h))
    colour p en Red h = ran p Red h

    signal : (p : ℕ) → is_enabled m.tables p ≡ true → (x : Ped) → signal_of m.frame p ≡ x
        → SignalRuns (greatest_at (m ∷ past) p) m.tables p (m ∷ past) x
    signal p en Walk h = (signalled p Walk h, walks p (enabled-phase m.tables p en), kept walk_time (signals p Walk) p en (signalled p Walk h))
    signal p en Flash h =
        (signalled p Flash h, flashes p (enabled-phase m.tables p en), kept pedestrian_clear_time (signals p Flash) p en (signalled p Flash h))
    signal p en Dont h = tt

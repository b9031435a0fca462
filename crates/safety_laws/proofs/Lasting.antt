-- What has ended on the street lasted its time, and the street of a history is safe.
use Rattle.std.proofs.Common.{◌≡◌, ◌≢◌, inl, inr, ◌<◌, ◌≤◌, ◌+◌, ◌-◌, ℕ, Bool, true, false, List, [], ◌∷◌, Option, length, get_or, refl, sym, ◌∙◌, ap}
use Rattle.std.proofs.Common.{subst, arith}
use Rattle.std.proofs.lemmas.Bool.{cases_lt, both_ways}
use Rattle.sig_types.specs.declared.frame.Colour.{Colour}
use Rattle.sig_types.specs.declared.frame.Colour.TheVariants.{Green, Yellow, Clear}
use Rattle.sig_types.specs.declared.frame.Ped.{Ped}
use Rattle.sig_types.specs.declared.frame.Ped.TheVariants.{Walk, Flash}
use Rattle.sig_types.specs.declared.frame.Frame.{Frame}
use Rattle.sig_types.specs.Phases.{is_phase}
use Rattle.sig_types.specs.Colour.{same_colour, same_signal, colour_of, signal_of}
use Rattle.sig_tables.specs.declared.tables.Tables.{Tables}
use Rattle.sig_tables.specs.declared.tables.Preempt.{Preempt}
use Rattle.sig_tables.specs.Tables.{least_green, yellow_time, red_clear_time, walk_time, pedestrian_clear_time}
use Rattle.sig_tables.specs.Past.{Moment}
use Rattle.sig_tables.specs.Looking.{last_frame, signals, in_a_row, begun, run, latched, signal_run, signal_latched}
use Rattle.sig_tables.specs.Lesser.{Lesser}
use Rattle.tick_laws.specs.Each.{EachMoment}
use Rattle.tick_laws.specs.Walking.{WalkLasted, FlashLasted}
use Rattle.tick_laws.proofs.Each.{each-weaker}
use Rattle.tick_laws.proofs.Intervals.{so-far}
use Rattle.safety_laws.specs.Safe.{Indications, Intersection, colour_at, signal_at, in_force, makes_way_for, green_due, walk_due, clearance_due}
use Rattle.safety_laws.specs.Safe.{PhaseFollows, Interval, way_at, Safe}
use Rattle.safety_laws.specs.Written.{shown_by}
use Rattle.safety_laws.proofs.SoFar.{so_far, so_far-all, so_far-next, so_far-some, so_far-holds}
use Rattle.safety_laws.proofs.Intervals.{HasTables, Run, ran, force, Ended}
use Rattle.safety_laws.proofs.Ways.{lesser-is, green-is, walk-lasted, flash-lasted}
use Rattle.safety_laws.proofs.Street.{Known, other-colour, other-signal, colour-shown, signal-shown, way-shown, apart-at, green-at, follows-at}

-- the newest of some moments, and what is known of it
newest : (s : Intersection) (l : List Moment) → 0 < length l → EachMoment (Known s) l
    → (past : List Moment) × (m : Moment) × (l ≡ m ∷ past) × Known s past m
newest s [] some k = absurd (omega (arith, some))
newest s (m ∷ past) some k = (past, m, refl, k.0)

module _ (s : Intersection) (moments : List Moment) (some : 0 < length moments)
    (shows : (tick : ℕ) → s.shown tick ≡ shown_by (last_frame (so_far tick moments))) (known : EachMoment (Known s) moments) where
  known-at : (tick : ℕ) → EachMoment (Known s) (so_far tick moments)
  known-at tick = so_far-holds (λ l. EachMoment (Known s) l) (λ m past k. k.1) tick moments known

  some-at : (tick : ℕ) → 0 < length (so_far tick moments)
  some-at tick = so_far-some tick moments some

  newest-at : (tick : ℕ) → (past : List Moment) × (m : Moment) × (so_far tick moments ≡ m ∷ past) × Known s past m
  newest-at tick = newest s (so_far tick moments) (some-at tick) (known-at tick)

  shown-newest : (tick : ℕ) (m : Moment) (past : List Moment) → so_far tick moments ≡ m ∷ past → s.shown tick ≡ shown_by m.frame
  shown-newest tick m past e = shows tick ∙ ap (λ (x : List Moment). shown_by (last_frame x)) e

  -- past the last moment nothing changes
  same-shown : (tick : ℕ) → length moments ≤ tick + 1 → s.shown (tick + 1) ≡ s.shown tick
  same-shown tick l =
      let more : length moments ≤ tick + 1 + 1 = omega arith in
      shows (tick + 1)
      ∙ ap (λ (x : List Moment). shown_by (last_frame x)) (so_far-all (tick + 1) moments more ∙ sym (so_far-all tick moments l))
      ∙ sym (shows tick)

  follows-each : (p tick : ℕ) → is_phase p ≡ true → PhaseFollows s p tick
  follows-each p tick ph = elim (cases_lt (tick + 1) (length moments)) [
    | inl l ↦
        let next : (m : Moment) × (so_far (tick + 1) moments ≡ m ∷ so_far tick moments) = so_far-next tick moments l in
        let own : EachMoment (Known s) (next.0 ∷ so_far tick moments) = subst (λ (x : List Moment). EachMoment (Known s) x) next.1 (known-at (tick + 1)) in
        follows-at s tick (so_far tick moments) next.0 (shows tick) (shown-newest (tick + 1) next.0 (so_far tick moments) next.1) own.0 p ph
    | inr l ↦ record {
      colour = λ ne. absurd (ne (ap (λ (x : Indications). get_or x.colours (p - 1) Green) (same-shown tick l)));
      signal = λ ne. absurd (ne (ap (λ (x : Indications). get_or x.signals (p - 1) Walk) (same-shown tick l)));
    }
  ]

  tabled : HasTables s.tables moments
  tabled = each-weaker (Known s) (λ past m. s.tables m.frame.version ≡ m.tables) (λ past m k. k.tables) moments known

  -- an interval that has ended is a run that has ended
  ended : (look : Frame → Bool) (holds : ℕ → Type 0) → ((tick : ℕ) → holds tick → look (last_frame (so_far tick moments)) ≡ true)
      → ((tick : ℕ) → ¬ holds tick → look (last_frame (so_far tick moments)) ≡ false)
      → (first end : ℕ) → Interval holds first end → Ended s.tables look moments first end
  ended look holds passes fails first end i = let here : first < end = i.some in elim (cases_lt end (length moments)) [
    | inl l ↦
        let short : end - 1 + 1 < length moments = omega arith in
        let more : end - 1 + 1 ≡ end = omega arith in
        let next : (m : Moment) × (so_far (end - 1 + 1) moments ≡ m ∷ so_far (end - 1) moments) = so_far-next (end - 1) moments short in
        let last : first + (end - 1 - first) ≡ end - 1 = omega arith in
        let whole : first + (end - 1 - first + 1) ≡ end = omega arith in
        let r : Run s.tables look (so_far (first + (end - 1 - first)) moments) (end - 1 - first + 1) (force s.tables look moments first)
        = ran s.tables look moments first (end - 1 - first) (omega arith) (λ tick. so_far-holds (HasTables s.tables) (λ m past k. k.1) tick moments tabled)
        (λ tick a b. passes tick (i.during tick a (omega arith))) (λ tick e. fails tick (i.before tick e)) in
        let all : Run s.tables look (so_far (end - 1) moments) (end - 1 - first + 1) (force s.tables look moments first)
        = subst (λ (k : ℕ). Run s.tables look (so_far k moments) (end - 1 - first + 1) (force s.tables look moments first)) last r in
        record {
          m = next.0;
          past = so_far (end - 1) moments;
          all = subst (λ (k : ℕ). so_far k moments ≡ next.0 ∷ so_far (end - 1) moments) more next.1;
          was = refl;
          long = ap (λ (k : ℕ). first + k) all.long ∙ whole;
          latches = all.latches;
        }
    | inr l ↦
        let before : length moments ≤ end - 1 + 1 = omega arith in
        let beyond : length moments ≤ end + 1 = omega arith in
        let low : first ≤ end - 1 = omega arith in
        let high : end - 1 < end = omega arith in
        let same : so_far end moments ≡ so_far (end - 1) moments = so_far-all end moments beyond ∙ sym (so_far-all (end - 1) moments before) in
        absurd (both_ways (look (last_frame (so_far (end - 1) moments)))
        (subst (λ (x : List Moment). look (last_frame x) ≡ false) same (fails end i.after))
        (passes (end - 1) (i.during (end - 1) low high)))
  ]

  colour-now : (tick p : ℕ) → colour_at s p tick ≡ colour_of (last_frame (so_far tick moments)) p
  colour-now tick p = colour-shown s tick p (last_frame (so_far tick moments)) (shows tick)

  signal-now : (tick p : ℕ) → signal_at s p tick ≡ signal_of (last_frame (so_far tick moments)) p
  signal-now tick p = signal-shown s tick p (last_frame (so_far tick moments)) (shows tick)

  force-now : (first : ℕ) (look : Frame → Bool) (t : Tables) → t ≡ force s.tables look moments first → t ≡ in_force s first
  force-now first look t e = e ∙ sym (ap (λ (x : Indications). s.tables x.version) (shows first))

  -- where a colour or a signal has ended: its run, the tables of its first tick, and the moments at its end
  pub record Over (look : Frame → Bool) (first end : ℕ) : Type 0 where
    pub m : Moment
    pub past : List Moment
    pub own : Known s past m
    pub shows_now : s.shown end ≡ shown_by m.frame
    pub showed : s.shown (end - 1) ≡ shown_by (last_frame past)
    pub each : EachMoment (Known s) past
    pub any : 0 < length past
    pub long : first + in_a_row (λ x. look x.frame) past ≡ end
    pub latches : (now : Tables) → begun (λ x. look x.frame) now past ≡ in_force s first

  over : (look : Frame → Bool) (holds : ℕ → Type 0) → ((tick : ℕ) → holds tick → look (last_frame (so_far tick moments)) ≡ true)
      → ((tick : ℕ) → ¬ holds tick → look (last_frame (so_far tick moments)) ≡ false) → (first end : ℕ) → Interval holds first end → Over look first end
  over look holds passes fails first end i =
      let d : Ended s.tables look moments first end = ended look holds passes fails first end i in
      let all : EachMoment (Known s) (d.m ∷ d.past) = subst (λ (x : List Moment). EachMoment (Known s) x) d.all (known-at end) in
      record {
        m = d.m;
        past = d.past;
        own = all.0;
        shows_now = shown-newest end d.m d.past d.all;
        showed = shows (end - 1) ∙ ap (λ (x : List Moment). shown_by (last_frame x)) d.was;
        each = all.1;
        any = subst (λ (x : List Moment). 0 < length x) d.was (some-at (end - 1));
        long = d.long;
        latches = λ now. force-now first look _ (d.latches now);
      }

  -- the last tick of an interval
  at-last : (holds : ℕ → Type 0) (first end : ℕ) → Interval holds first end → holds (end - 1)
  at-last holds first end i =
      let some : first < end = i.some in
      let low : first ≤ end - 1 = omega arith in
      let high : end - 1 < end = omega arith in
      i.during (end - 1) low high

  module _ (p : ℕ) (ph : is_phase p ≡ true) (first end : ℕ) where
    colour-over : (c : Colour) → same_colour c c ≡ true → Interval (λ tick. colour_at s p tick ≡ c) first end
        → Over (λ f. same_colour (colour_of f p) c) first end
    colour-over c e i =
        over (λ f. same_colour (colour_of f p) c) (λ tick. colour_at s p tick ≡ c)
        (λ tick h. ap (λ (x : Colour). same_colour x c) (sym (colour-now tick p) ∙ h) ∙ e)
        (λ tick h. other-colour _ c (λ k. h (colour-now tick p ∙ k))) first end i

    signal-over : (c : Ped) → same_signal c c ≡ true → Interval (λ tick. signal_at s p tick ≡ c) first end
        → Over (λ f. same_signal (signal_of f p) c) first end
    signal-over c e i =
        over (λ f. same_signal (signal_of f p) c) (λ tick. signal_at s p tick ≡ c)
        (λ tick h. ap (λ (x : Ped). same_signal x c) (sym (signal-now tick p) ∙ h) ∙ e)
        (λ tick h. other-signal _ c (λ k. h (signal-now tick p ∙ k))) first end i

    colour-was : (c : Colour) (d : Over (λ f. same_colour (colour_of f p) c) first end) → Interval (λ tick. colour_at s p tick ≡ c) first end
        → colour_of (last_frame d.past) p ≡ c
    colour-was c d i = sym (colour-shown s (end - 1) p (last_frame d.past) d.showed) ∙ at-last (λ tick. colour_at s p tick ≡ c) first end i

    colour-over-now : (c : Colour) (d : Over (λ f. same_colour (colour_of f p) c) first end) → Interval (λ tick. colour_at s p tick ≡ c) first end
        → colour_of d.m.frame p ≢ c
    colour-over-now c d i k = i.after (colour-shown s end p d.m.frame d.shows_now ∙ k)

    signal-was : (c : Ped) (d : Over (λ f. same_signal (signal_of f p) c) first end) → Interval (λ tick. signal_at s p tick ≡ c) first end
        → signal_of (last_frame d.past) p ≡ c
    signal-was c d i = sym (signal-shown s (end - 1) p (last_frame d.past) d.showed) ∙ at-last (λ tick. signal_at s p tick ≡ c) first end i

    signal-over-now : (c : Ped) (d : Over (λ f. same_signal (signal_of f p) c) first end) → Interval (λ tick. signal_at s p tick ≡ c) first end
        → signal_of d.m.frame p ≢ c
    signal-over-now c d i k = i.after (signal-shown s end p d.m.frame d.shows_now ∙ k)

    -- the end of an interval, from its run and its time
    exact : (time : Tables → ℕ) (run : ℕ) (t : Tables) → first + run ≡ end → run ≡ time t → t ≡ in_force s first → end ≡ first + time (in_force s first)
    exact time run t long lasted e = sym long ∙ ap (λ (k : ℕ). first + k) (lasted ∙ ap time e)

    at-least : (due : Tables → ℕ) (run : ℕ) (t : Tables) → first + run ≡ end → due t ≤ run → t ≡ in_force s first → first + due (in_force s first) ≤ end
    at-least due run t long lasted e = let l : due (in_force s first) ≤ run = subst (λ (x : Tables). due x ≤ run) e lasted in omega (arith, long, l)

    at-most : (time : Tables → ℕ) (run : ℕ) (t : Tables) → first + run ≡ end → run ≤ time t → t ≡ in_force s first → end ≤ first + time (in_force s first)
    at-most time run t long lasted e = let l : run ≤ time (in_force s first) = subst (λ (x : Tables). run ≤ time x) e lasted in omega (arith, long, l)

    way-over : (look : Frame → Bool) (d : Over look first end) → makes_way_for d.m.tables d.m.frame.mode p ≡ way_at s p end
    way-over look d = sym (way-shown s end p d.past d.m d.shows_now d.own)

    lasted-yellow : Interval (λ tick. colour_at s p tick ≡ Yellow) first end → end ≡ first + yellow_time (in_force s first) p
    lasted-yellow i =
        let d = colour-over Yellow refl i in
        exact (λ t. yellow_time t p) _ (latched p Yellow d.m.tables d.past) d.long
        ((d.own.clearances p ph).yellow (colour-was Yellow d i) (colour-over-now Yellow d i)) (d.latches d.m.tables)

    lasted-clear : Interval (λ tick. colour_at s p tick ≡ Clear) first end → end ≡ first + red_clear_time (in_force s first) p
    lasted-clear i =
        let d = colour-over Clear refl i in
        exact (λ t. red_clear_time t p) _ (latched p Clear d.m.tables d.past) d.long
        ((d.own.clearances p ph).clear (colour-was Clear d i) (colour-over-now Clear d i)) (d.latches d.m.tables)

    lasted-green : Interval (λ tick. colour_at s p tick ≡ Green) first end → first + green_due (way_at s p end) (least_green (in_force s first) p) ≤ end
    lasted-green i =
        let d = colour-over Green refl i in
        let t = latched p Green d.m.tables d.past in
        let least = d.own.greens p ph (colour-was Green d i) (colour-over-now Green d i) in
        at-least (λ u. green_due (way_at s p end) (least_green u p)) _ t d.long
        (subst (λ (o : Option Preempt). green_due o (least_green t p) ≤ run p Green d.past) (way-over _ d)
        (subst (λ (n : ℕ). n ≤ run p Green d.past) (green-is d.m.tables d.m.frame.mode p (least_green t p) d.own.numbered ph) least))
        (d.latches d.m.tables)

    lasted-walk : Interval (λ tick. signal_at s p tick ≡ Walk) first end
        → (first + walk_due (way_at s p end) (walk_time (in_force s first) p) ≤ end) × (end ≤ first + walk_time (in_force s first) p)
    lasted-walk i =
        let d = signal-over Walk refl i in
        let t = signal_latched p Walk d.m.tables d.past in
        let lasted = ((d.own.signals p ph).walk (signal-was Walk d i) (signal-over-now Walk d i)).0 in
        let most = so-far (signals p Walk) (λ u n. n ≤ walk_time u p) (λ u. omega arith) d.m.tables d.past
        (each-weaker (Known s) _ (λ past m k. k.walks p ph) d.past d.each) in (
          at-least (λ u. walk_due (way_at s p end) (walk_time u p)) _ t d.long
              (subst (λ (o : Option Preempt). walk_due o (walk_time t p) ≤ signal_run p Walk d.past) (way-over _ d)
              (walk-lasted (makes_way_for d.m.tables d.m.frame.mode p) (walk_time t p) (signal_run p Walk d.past)
              (subst (λ (x : Lesser). WalkLasted x (walk_time t p) (signal_run p Walk d.past))
              (lesser-is d.m.tables d.m.frame.mode p d.own.numbered ph) lasted)))
              (d.latches d.m.tables),
          at-most (λ u. walk_time u p) _ t d.long most (d.latches d.m.tables),
        )

    lasted-flash : Interval (λ tick. signal_at s p tick ≡ Flash) first end
        → (first + clearance_due (way_at s p end) (pedestrian_clear_time (in_force s first) p) ≤ end)
        × (end ≤ first + pedestrian_clear_time (in_force s first) p)
    lasted-flash i =
        let d = signal-over Flash refl i in
        let t = signal_latched p Flash d.m.tables d.past in
        let lasted = ((d.own.signals p ph).flash (signal-was Flash d i) (signal-over-now Flash d i)).0 in
        let most = so-far (signals p Flash) (λ u n. n ≤ pedestrian_clear_time u p) (λ u. omega arith) d.m.tables d.past
        (each-weaker (Known s) _ (λ past m k. k.flashes p ph) d.past d.each) in (
          at-least (λ u. clearance_due (way_at s p end) (pedestrian_clear_time u p)) _ t d.long
              (subst (λ (o : Option Preempt). clearance_due o (pedestrian_clear_time t p) ≤ signal_run p Flash d.past) (way-over _ d)
              (flash-lasted (makes_way_for d.m.tables d.m.frame.mode p) (pedestrian_clear_time t p) (signal_run p Flash d.past)
              (subst (λ (x : Lesser). FlashLasted x (pedestrian_clear_time t p) (signal_run p Flash d.past))
              (lesser-is d.m.tables d.m.frame.mode p d.own.numbered ph) lasted)))
              (d.latches d.m.tables),
          at-most (λ u. pedestrian_clear_time u p) _ t d.long most (d.latches d.m.tables),
        )

  pub is-safe : Safe s
  is-safe = record {
    apart = λ tick. let (past, m, e, k) = newest-at tick in apart-at s tick past m (shown-newest tick m past e) k;
    follows = follows-each;
    lasts = λ p first end ph. record {
      yellow = lasted-yellow p ph first end;
      clear = lasted-clear p ph first end;
      green = lasted-green p ph first end;
      walk = lasted-walk p ph first end;
      flash = lasted-flash p ph first end;
    };
    on_green = λ p tick ph. let (past, m, e, k) = newest-at tick in green-at s tick past m (shown-newest tick m past e) k p ph;
  }

-- Walk and Flash are only on Green, last their times and follow in order, where the pattern forces off only served
-- phases.
use Rattle.std.proofs.Common.{◌≡◌, ◌≢◌, ◌⊎◌, inl, inr, ℕ, Bool, true, false, if◌then◌else◌, ◌==◌, max, min, nat_le, List, [], refl, sym, ◌∙◌, ap, subst}
use Rattle.std.proofs.lemmas.Bool.{cases_Bool, false≢true, leb-true}
use Rattle.std.proofs.lemmas.Bool.Decides.{Decides-eqb}
use Rattle.sig_types.specs.declared.frame.Colour.{Colour}
use Rattle.sig_types.specs.declared.frame.Colour.TheVariants.{Green, Yellow, Red}
use Rattle.sig_types.specs.declared.frame.Ped.{Ped}
use Rattle.sig_types.specs.declared.frame.Ped.TheVariants.{Walk, Flash, Dont}
use Rattle.sig_types.specs.declared.frame.Mode.{Mode}
use Rattle.sig_types.specs.declared.frame.Mode.TheVariants.{Free, Seek, Coord}
use Rattle.sig_types.specs.Phases.{is_phase, is_in}
use Rattle.sig_types.specs.Colour.{colour_of, signal_of}
use Rattle.sig_tables.specs.declared.tables.Tables.{Tables}
use Rattle.sig_tables.specs.Tables.{walk_time, pedestrian_clear_time}
use Rattle.sig_tables.specs.Lesser.{Lesser, InFull, AtMost, lesser_clear, signal_runs_within}
use Rattle.sig_tables.specs.Goals.{lesser_in}
use Rattle.sig_tables.specs.Past.{Event, Moment, Past, first_frame, first_moment}
use Rattle.sig_tables.specs.Looking.{last_frame, signal_run, signal_latched}
use Rattle.sig_tables.specs.View.{is_served, is_forced}
use Rattle.sig_tables.specs.Walking.{Crossing, walk_begins}
use Rattle.sig_tables.specs.Seen.{mode_seen, moves_seen, view_seen}
use Rattle.sig_tables.specs.Decide.{colour_after, colours_of, next_moment, past_of}
use Rattle.tick_laws.specs.Served.{ForcesServed, IsServedAfter, AllServed}
use Rattle.tick_laws.specs.Walking.{OnGreen, EachOnGreen, WalkLasted, FlashLasted, WalkEnds, EachWalkEnds, SignalEnds, EachSignalEnds}
use Rattle.tick_laws.proofs.Each.{each-moment, each-allowed, at-last}
use Rattle.tick_laws.proofs.Choices.{leaves, chosen, not-chosen, never-walk, differs, differs-signal}
use Rattle.tick_laws.proofs.Next.{next-colour, next-signal, mode_given, crossing_seen, walk_seen, first-dont}
use Rattle.tick_laws.proofs.Ended.{tick-ended}
use Rattle.tick_laws.proofs.Ends.{reached-lesser}

-- Walk begins only where Green follows, after Red or after Dont
begins-where : (c : Crossing) (mode : Mode) (p : ℕ) (before after : Colour) (signal : Ped)
    → walk_begins c mode p before after signal ≡ true → (after ≡ Green) × ((before ≡ Red) ⊎ (signal ≡ Dont))
begins-where c Free p Red Green signal h = (refl, inl refl)
begins-where c (Seek n) p Red Green signal h = (refl, inl refl)
begins-where c (Coord n) p Red Green signal h = (refl, inl refl)
begins-where c Free p Green Green Dont h = (refl, inr refl)
begins-where c (Coord n) p Green Green Dont h = (refl, inr refl)
begins-where c mode p before after signal h = absurd (false≢true h)

-- a signal that is Dont stays so by itself
pub dont-stays : (l : Lesser) (p : ℕ) (t : Tables) (past : List Moment) → signal_runs_within l p t past Dont ≡ Dont
dont-stays InFull p t past = refl
dont-stays (AtMost walk clear) p t past = refl

-- Walk begins only after Dont
pub seen-dont : (past : Past) (p : ℕ) → is_phase p ≡ true → OnGreen (last_frame past.moments) → walk_seen past p ≡ true
    → signal_of (last_frame past.moments) p ≡ Dont
seen-dont past p ph h w =
    elim (begins-where (crossing_seen past) (mode_given past) p _ _ _ w).1 [
      | inl r ↦ elim (h p ph) [
        | inl d ↦ d
        | inr g ↦ absurd (differs Red Green refl (sym r ∙ g))
      ]
      | inr d ↦ d
    ]

-- Walk that begins begins on Green
seen-green : (past : Past) (p : ℕ) → is_phase p ≡ true → walk_seen past p ≡ true → colour_of (next_moment past).frame p ≡ Green
seen-green past p ph w = (begins-where (crossing_seen past) (mode_given past) p _ _ _ w).0

-- a phase that ends its green shows Dont, if it is served where the pattern forces it off
pub ends-dont : (past : Past) (p : ℕ) → is_phase p ≡ true
    → (is_forced (view_seen past) p ≡ true → is_served past.tables past.moments p ≡ true)
    → colour_of (last_frame past.moments) p ≡ Green → colour_of (next_moment past).frame p ≢ Green
    → signal_of (next_moment past).frame p ≡ Dont
ends-dont past p ph forced g ne = elim (cases_Bool (walk_seen past p)) [
  | inl w ↦ absurd (ne (seen-green past p ph w))
  | inr w ↦ next-signal past p ph ∙ not-chosen (walk_seen past p) _ _ w ∙ (tick-ended past p forced ends).dont
]
  where
    after : colour_of (next_moment past).frame p ≡ colour_after (moves_seen past) p past.tables past.moments Green
    after = next-colour past p ph ∙ ap (λ (c : Colour). colour_after (moves_seen past) p past.tables past.moments c) g

    ends : is_in (moves_seen past).ends p ≡ true
    ends = leaves (is_in (moves_seen past).ends p) Yellow Green (λ k. ne (after ∙ k))

green-or-not : (c : Colour) → (c ≡ Green) ⊎ (c ≢ Green)
green-or-not Green = inl refl
green-or-not c = inr (λ e. differs c Green refl e)

next-green : (past : Past) → ForcesServed past → OnGreen (last_frame past.moments) → OnGreen (next_moment past).frame
next-green past forced h p ph = elim (green-or-not (colour_of (next_moment past).frame p)) [
  | inl g ↦ inr g
  | inr ne ↦ inl (elim (h p ph) [
    | inl d ↦ elim (cases_Bool (walk_seen past p)) [
      | inl w ↦ absurd (ne (seen-green past p ph w))
      | inr w ↦
          next-signal past p ph ∙ not-chosen (walk_seen past p) _ _ w
          ∙ ap (λ (s : Ped). signal_runs_within (lesser_in past.tables (mode_seen past) p) p past.tables past.moments s) d
          ∙ dont-stays (lesser_in past.tables (mode_seen past) p) p past.tables past.moments
    ]
    | inr g ↦ ends-dont past p ph (forced p) g ne
  ])
]

first-green : OnGreen first_frame
first-green p ph = inl (first-dont p ph)

pub each-on-green : (opening : Tables) (events : List Event) → AllServed opening events → EachOnGreen (past_of opening events).moments
each-on-green opening events served =
    each-allowed opening (IsServedAfter opening) (λ past m. OnGreen m.frame) first-green
    (λ before a forced h. next-green (past_of opening before) forced (at-last OnGreen first-green (past_of opening before).moments h)) events served

-- Walk that ends by itself lasted its time, and what follows it is Flash or Dont
walk-over : (l : Lesser) (p : ℕ) (t : Tables) (past : List Moment) → signal_runs_within l p t past Walk ≢ Walk
    → WalkLasted l (walk_time (signal_latched p Walk t past) p) (signal_run p Walk past)
    × (signal_runs_within l p t past Walk ≡ (if lesser_clear l (pedestrian_clear_time t p) == 0 then Dont else Flash))
walk-over InFull p t past ne =
    let test : (signal_run p Walk past == walk_time (signal_latched p Walk t past) p) ≡ true = leaves _ _ _ ne in
    ((Decides-eqb _ _).0 test, chosen _ _ _ test)
walk-over (AtMost walk clear) p t past ne =
    let test : nat_le (max 1 (min (walk_time (signal_latched p Walk t past) p) walk)) (signal_run p Walk past) ≡ true = leaves _ _ _ ne in
    (leb-true _ _ test, chosen _ _ _ test)

-- and so with Flash, which Dont follows
flash-over : (l : Lesser) (p : ℕ) (t : Tables) (past : List Moment) → signal_runs_within l p t past Flash ≢ Flash
    → FlashLasted l (pedestrian_clear_time (signal_latched p Flash t past) p) (signal_run p Flash past)
    × (signal_runs_within l p t past Flash ≡ Dont)
flash-over InFull p t past ne =
    let test : (signal_run p Flash past == pedestrian_clear_time (signal_latched p Flash t past) p) ≡ true = leaves _ _ _ ne in
    ((Decides-eqb _ _).0 test, chosen _ _ _ test)
flash-over (AtMost walk clear) p t past ne =
    let test : nat_le (lesser_clear (AtMost walk clear) (pedestrian_clear_time (signal_latched p Flash t past) p)) (signal_run p Flash past) ≡ true
    = leaves _ _ _ ne in
    (leb-true _ _ test, chosen _ _ _ test)

-- no signal becomes Walk by itself
pub walk-stays : (l : Lesser) (p : ℕ) (t : Tables) (past : List Moment) (s : Ped) → s ≢ Walk → signal_runs_within l p t past s ≡ Walk → ⊥
walk-stays l p t past Walk ne h = ne refl
walk-stays InFull p t past Flash ne h = never-walk (signal_run p Flash past == pedestrian_clear_time (signal_latched p Flash t past) p) h
walk-stays (AtMost walk clear) p t past Flash ne h =
    never-walk (nat_le (lesser_clear (AtMost walk clear) (pedestrian_clear_time (signal_latched p Flash t past) p)) (signal_run p Flash past)) h
walk-stays l p t past Dont ne h = differs-signal Dont Walk refl (sym (dont-stays l p t past) ∙ h)

-- a signal that ends was not begun again, so that what comes is what follows by itself
by-itself : (w : Bool) (s next : Ped) → (if w then Walk else s) ≡ next → (w ≡ true → next ≡ Walk → ⊥) → next ≡ s
by-itself true s next e never = absurd (never refl (sym e))
by-itself false s next e never = sym e

-- the walk before a tick, and the signal after it: Walk that begins, or what follows by itself
walk-step : (past : List Moment) (m : Moment) (p : ℕ) (l : Lesser) (w : Bool) → lesser_in m.tables m.frame.mode p ≡ l
    → signal_of m.frame p ≡ (if w then Walk else signal_runs_within l p m.tables past (signal_of (last_frame past) p)) → WalkEnds past m p
walk-step past m p l w le e = λ a b.
    let r : signal_of m.frame p ≡ signal_runs_within l p m.tables past Walk
    = by-itself w _ _ (sym e) (λ _ k. b k) ∙ ap (λ (x : Ped). signal_runs_within l p m.tables past x) a in
    let o = walk-over l p m.tables past (λ k. b (r ∙ k)) in (
      subst (λ (x : Lesser). WalkLasted x (walk_time (signal_latched p Walk m.tables past) p) (signal_run p Walk past)) (sym le) o.0,
      r ∙ o.1 ∙ ap (λ (x : Lesser). if lesser_clear x (pedestrian_clear_time m.tables p) == 0 then Dont else Flash) (sym le),
    )

-- the same of each signal, where Walk begins only after Dont
signal-step : (past : List Moment) (m : Moment) (p : ℕ) (l : Lesser) (w : Bool) → lesser_in m.tables m.frame.mode p ≡ l
    → (w ≡ true → signal_of (last_frame past) p ≡ Dont)
    → signal_of m.frame p ≡ (if w then Walk else signal_runs_within l p m.tables past (signal_of (last_frame past) p))
    → SignalEnds past m p
signal-step past m p l w le dont e = record {
  follows = λ a b. elim (cases_Bool w) [
    | inl k ↦ dont k
    | inr f ↦ absurd (walk-stays l p m.tables past (signal_of (last_frame past) p) b (sym (not-chosen w _ _ f) ∙ sym e ∙ a))
  ];
  walk = walk-step past m p l w le e;
  flash = λ a b.
      let r : signal_of m.frame p ≡ signal_runs_within l p m.tables past Flash
      = by-itself w _ _ (sym e) (λ k _. differs-signal Flash Dont refl (sym a ∙ dont k)) ∙ ap (λ (x : Ped). signal_runs_within l p m.tables past x) a in
      let o = flash-over l p m.tables past (λ k. b (r ∙ k)) in (
        subst (λ (x : Lesser). FlashLasted x (pedestrian_clear_time (signal_latched p Flash m.tables past) p) (signal_run p Flash past)) (sym le) o.0,
        r ∙ o.1,
      );
}

-- the signal at the next moment, by the smaller times of its mode
next-walks : (past : Past) (p : ℕ) → is_phase p ≡ true → WalkEnds past.moments (next_moment past) p
next-walks past p ph =
    walk-step past.moments (next_moment past) p (lesser_in past.tables (mode_seen past) p) (walk_seen past p)
    (reached-lesser (mode_seen past) past.tables (colours_of past (moves_seen past)) p) (next-signal past p ph)

pub each-walk-ends : (opening : Tables) (events : List Event) → EachWalkEnds (past_of opening events).moments
each-walk-ends opening events =
    each-moment opening (λ past m. (p : ℕ) → is_phase p ≡ true → WalkEnds past m p) (λ p ph a b. absurd (b a))
    (λ past h p ph. next-walks past p ph) events

next-signals : (past : Past) (p : ℕ) → is_phase p ≡ true → OnGreen (last_frame past.moments) → SignalEnds past.moments (next_moment past) p
next-signals past p ph g =
    signal-step past.moments (next_moment past) p (lesser_in past.tables (mode_seen past) p) (walk_seen past p)
    (reached-lesser (mode_seen past) past.tables (colours_of past (moves_seen past)) p) (seen-dont past p ph g) (next-signal past p ph)

-- before any tick no signal ends
first-signals : (t : Tables) (p : ℕ) → is_phase p ≡ true → SignalEnds [] (first_moment t) p
first-signals t p ph = record {
  follows = λ a b. first-dont p ph;
  walk = λ a b. absurd (b a);
  flash = λ a b. absurd (b a);
}

-- the last frame of a history, where the pattern forces off only served phases
pub last-green : (opening : Tables) (events : List Event) → AllServed opening events → OnGreen (last_frame (past_of opening events).moments)
last-green opening events served = at-last OnGreen first-green (past_of opening events).moments (each-on-green opening events served)

pub each-signals : (opening : Tables) (events : List Event) → AllServed opening events → EachSignalEnds (past_of opening events).moments
each-signals opening events served =
    each-allowed opening (IsServedAfter opening) (λ past m. (p : ℕ) → is_phase p ≡ true → SignalEnds past m p)
    (λ p ph. first-signals opening p ph)
    (λ before a forced h p ph. next-signals (past_of opening before) p ph (last-green opening before a)) events served

-- The phases that are on along a lawful history: no two conflicting phases, no two of one ring, only enabled ones, and
-- yellows of at least 3 seconds, in every mode.
use Rattle.std.proofs.Common.{◌≡◌, ◌⊎◌, inl, inr, ℕ, true, false, not, ◌&&◌, ◌==◌, List, [], ◌∷◌, ◌<◌, ◌≤◌, refl, sym, ◌∙◌, ap, subst, arith}
use Rattle.std.proofs.lemmas.Bool.{and_parts, false≢true, both_ways, not-true}
use Rattle.std.proofs.lemmas.Bool.Decides.{Decides-eqb}
use Rattle.sig_types.specs.declared.frame.Colour.{Colour}
use Rattle.sig_types.specs.declared.frame.Colour.TheVariants.{Green, Yellow, Clear, Red}
use Rattle.sig_types.specs.declared.frame.Frame.{Frame}
use Rattle.sig_types.specs.declared.frame.Mode.{Mode}
use Rattle.sig_types.specs.Phases.{is_phase, all_phases, is_in}
use Rattle.sig_types.specs.Colour.{same_colour, colour_of, on_in}
use Rattle.sig_types.proofs.Lists.{in-those}
use Rattle.sig_tables.specs.declared.tables.Tables.{Tables}
use Rattle.sig_tables.specs.Tables.{is_enabled, starts_up, yellow_time, red_clear_time}
use Rattle.sig_tables.specs.Sides.{are_concurrent}
use Rattle.sig_tables.specs.Past.{Event, Moment, Past, first_frame, first_moment}
use Rattle.sig_tables.specs.Looking.{last_frame, run, latched, shows}
use Rattle.sig_tables.specs.View.{View}
use Rattle.sig_tables.specs.Moves.{Moves}
use Rattle.sig_tables.specs.TickState.{RingTurn, Rest, StartUp, Rings, Goal, startup_phases, tick_state_of}
use Rattle.sig_tables.specs.Seen.{view_seen, tick_inputs_seen, moves_seen}
use Rattle.sig_tables.specs.Decide.{moves_of, colour_after, next_moment, past_of}
use Rattle.sig_tables.proofs.Histories.{over-events}
use Rattle.sig_tables.proofs.Below.{enabled-phase}
use Rattle.plan_facts.specs.Goals.{GoTogether}
use Rattle.tick_laws.specs.Each.{EachMoment}
use Rattle.tick_laws.specs.Lawful.{Sound, SameLayout, IsLawfulAfter, Lawful, is_dark}
use Rattle.tick_laws.specs.Safe.{is_on, Apart, OneEach, EachApart, EachOne, EachEnabled, EachLongYellow}
use Rattle.tick_laws.proofs.Each.{each-weaker}
use Rattle.tick_laws.proofs.Intervals.{Counted, so-far, one-more, running}
use Rattle.tick_laws.proofs.Choices.{neither, never-yellow, differs}
use Rattle.tick_laws.proofs.Next.{first-red}
use Rattle.tick_laws.proofs.RingTurns.{dark-rests, up-from-dark}
use Rattle.tick_laws.proofs.Sought.{Numbered, reached-numbered, sought-known, sought-dark, goal-goes}
use Rattle.tick_laws.proofs.FrameStands.{FrameStands, Fits, standing-next}
use Rattle.tick_laws.proofs.Rings.{rings-fit}
use Rattle.tick_laws.proofs.GoalFits.{goal-fits}
use Rattle.tick_laws.proofs.Within.{other-fresh, shows-next, not-first}

-- a turn and a mode that go together: where nothing is to be on nothing moves, phases start up only where nothing is on, and
-- goals go together
record Suits (t : Tables) (ring_turn : RingTurn) (f : Frame) (mode : Mode) : Type 0 where
  still : is_dark mode ≡ true → (ring_turn ≡ Rest) × (is_dark f.mode ≡ true)
  up : ring_turn ≡ StartUp → is_dark f.mode ≡ true
  goal : (goal : List ℕ) → ring_turn ≡ Goal goal → GoTogether t goal

suits : (past : Past) → Sound past.tables → Numbered (last_frame past.moments).mode
    → Suits past.tables (tick_state_of past).ring_turn (last_frame past.moments) (tick_state_of past).mode
suits past sound k = record {
  still = λ h. (dark-rests (tick_state_of past).mode past.tables past.moments h, sought-dark _ _ _ _ past.moments k h);
  up = λ e. up-from-dark (tick_state_of past).mode past.tables past.moments e;
  goal = λ goal e. goal-goes (tick_state_of past).mode past.tables past.moments sound (sought-known _ _ _ _ past.moments k) goal e;
}

-- what any turn begins fits
moves-fit : (ring_turn : RingTurn) (mode : Mode) (v : View) → Sound v.tables → FrameStands v.tables v.frame → Suits v.tables ring_turn v.frame mode
    → Fits v.tables v.frame v.ended (moves_of ring_turn v).begins
moves-fit Rest mode v sound stands suit = record {
  enabled = λ q h. absurd (false≢true h);
  beside = λ p q ph on stays h. absurd (false≢true h);
  together = λ p q h k. absurd (false≢true h);
}
moves-fit StartUp mode v sound stands suit = record {
  enabled = λ q h. starting q h;
  beside = λ p q ph on stays h. absurd (both_ways _ (stands.idle (suit.up refl) p ph) on);
  together = λ p q h k. sound.start p q (in-those (starts_up v.tables) all_phases p h).0 (in-those (starts_up v.tables) all_phases q k).0;
}
  where
    starting : (q : ℕ) → is_in (startup_phases v.tables) q ≡ true → is_enabled v.tables q ≡ true
    starting q h = (and_parts (is_enabled v.tables q) _ (in-those (starts_up v.tables) all_phases q h).0).0
moves-fit Rings mode v sound stands suit = rings-fit v sound stands
moves-fit (Goal goal) mode v sound stands suit = goal-fits v goal sound (suit.goal goal refl) stands

still-begins : (ring_turn : RingTurn) (v : View) → ring_turn ≡ Rest → (q : ℕ) → is_in (moves_of ring_turn v).begins q ≡ false
still-begins ring_turn v e q = subst (λ (u : RingTurn). is_in (moves_of u v).begins q ≡ false) (sym e) refl

next-stands : (past : Past) → Sound past.tables → Numbered (last_frame past.moments).mode → FrameStands past.tables (last_frame past.moments)
    → FrameStands past.tables (next_moment past).frame
next-stands past sound k stands =
    let suit : Suits past.tables (tick_state_of past).ring_turn (last_frame past.moments) (tick_state_of past).mode = suits past sound k in
    standing-next (tick_state_of past) past (tick_inputs_seen past) (moves_seen past) sound stands
    (moves-fit (tick_state_of past).ring_turn (tick_state_of past).mode (view_seen past) sound stands suit)
    (λ h. ((suit.still h).1, still-begins (tick_state_of past).ring_turn (view_seen past) (suit.still h).0))

none-on : (p : ℕ) → is_phase p ≡ true → is_on first_frame p ≡ false
none-on p ph = ap (λ (c : Colour). not (same_colour c Red)) (first-red p ph)

first-stands : (t : Tables) → FrameStands t first_frame
first-stands t = record {
  enabled = λ p ph on. absurd (both_ways _ (none-on p ph) on);
  together = λ p q hp hq on on'. absurd (both_ways _ (none-on p hp) on);
  placed = λ p ph on. absurd (both_ways _ (none-on p ph) on);
  idle = λ e p ph. none-on p ph;
}

installed-stands : (old new : Tables) (f : Frame) → SameLayout old new → FrameStands old f → FrameStands new f
installed-stands old new f same s = record {
  enabled = λ p ph on. same.enabled p ∙ s.enabled p ph on;
  together = λ p q hp hq on on'. elim (s.together p q hp hq on on') [ inl e ↦ inl e | inr c ↦ inr (same.concurrent p q ∙ c) ];
  placed = λ p ph on. ap (λ (r : ℕ). on_in f r) (same.ring p (s.enabled p ph on)) ∙ s.placed p ph on;
  idle = λ e p ph. s.idle e p ph;
}

-- where nothing is on, any tables may come
dark-stands : (old new : Tables) (f : Frame) → is_dark f.mode ≡ true → FrameStands old f → FrameStands new f
dark-stands old new f d s = record {
  enabled = λ p ph on. absurd (both_ways _ (s.idle d p ph) on);
  together = λ p q hp hq on on'. absurd (both_ways _ (s.idle d p hp) on);
  placed = λ p ph on. absurd (both_ways _ (s.idle d p ph) on);
  idle = λ e p ph. s.idle d p ph;
}

-- incompatible phases are enabled, differ and are not concurrent
stands-apart : (t : Tables) (f : Frame) → FrameStands t f → Apart t f
stands-apart t f s p q h on on' =
    let a : (((is_enabled t p && is_enabled t q) && not (p == q)) ≡ true) × (not (are_concurrent t p q) ≡ true) = and_parts _ _ h in
    let b : ((is_enabled t p && is_enabled t q) ≡ true) × (not (p == q) ≡ true) = and_parts _ _ a.0 in
    let c : (is_enabled t p ≡ true) × (is_enabled t q ≡ true) = and_parts _ _ b.0 in
    elim (s.together p q (enabled-phase t p c.0) (enabled-phase t q c.1) on on') [
      | inl e ↦ both_ways _ (not-true _ b.1) ((Decides-eqb p q).1 e)
      | inr k ↦ both_ways _ (not-true _ a.1) k
    ]

stands-one : (t : Tables) (f : Frame) → Sound t → FrameStands t f → OneEach t f
stands-one t f sound s p q ep eq same on on' =
    elim (s.together p q (enabled-phase t p ep) (enabled-phase t q eq) on on') [ inl e ↦ e | inr c ↦ absurd (sound.across p q c same) ]

-- a yellow that runs has at least 3 seconds
abbrev Long : ℕ → Tables → ℕ → Type 0
Long p t ran = 0 < ran → 30 ≤ yellow_time t p

none-long : (p : ℕ) (t : Tables) → Long p t 0
none-long p t some = absurd (omega (arith, some))

-- one begins only on a phase that was on, which is enabled
long-more : (moves : Moves) (p : ℕ) (t : Tables) (past : List Moment) (before : Colour) → is_phase p ≡ true → Sound t
    → FrameStands t (last_frame past) → colour_of (last_frame past) p ≡ before → colour_after moves p t past before ≡ Yellow
    → Long p (latched p Yellow t past) (run p Yellow past) → 30 ≤ yellow_time (latched p Yellow t past) p
long-more moves p t past Green ph sound s e a long =
    let on : is_on (last_frame past) p ≡ true = ap (λ (c : Colour). not (same_colour c Red)) e in
    let here : latched p Yellow t past ≡ t = (other-fresh p t past Yellow Green e refl).1 in
    subst (λ (u : Tables). 30 ≤ yellow_time u p) (sym here) (sound.times.phases.yellow p (s.enabled p ph on))
long-more moves p t past Yellow ph sound s e a long =
    long (running (λ f. same_colour (colour_of f p) Yellow) past (ap (λ (c : Colour). same_colour c Yellow) (first-red p ph))
    (ap (λ (c : Colour). same_colour c Yellow) e))
long-more moves p t past Clear ph sound s e a long =
    absurd (never-yellow (run p Clear past == red_clear_time (latched p Clear t past) p) a)
long-more moves p t past Red ph sound s e a long =
    absurd (neither (is_in moves.begins p) Green Red Yellow (differs Green Yellow refl) (differs Red Yellow refl) a)

abbrev LongEach : List Moment → Moment → Type 0
LongEach past m = (p : ℕ) → is_phase p ≡ true → Counted (shows p Yellow) (Long p) past m

next-long : (past : Past) → Sound past.tables → FrameStands past.tables (last_frame past.moments) → EachMoment LongEach past.moments
    → LongEach past.moments (next_moment past)
next-long past sound s h p ph =
    one-more (shows p Yellow) (Long p) (none-long p) (next_moment past) past.moments
    (λ shown some. long-more (moves_seen past) p past.tables past.moments _ ph sound s refl (shows-next past p Yellow ph shown)
    (so-far (shows p Yellow) (Long p) (none-long p) past.tables past.moments
    (each-weaker LongEach (Counted (shows p Yellow) (Long p)) (λ before m k. k p ph) past.moments h)))

first-long : (t : Tables) → LongEach [] (first_moment t)
first-long t p ph =
    one-more (shows p Yellow) (Long p) (none-long p) (first_moment t) [] (λ s. absurd (not-first t p Yellow ph refl s))

-- all of it, along a lawful history
pub record Holds (t : Tables) (moments : List Moment) : Type 0 where
  pub sound : Sound t
  pub stands : FrameStands t (last_frame moments)
  pub numbered : Numbered (last_frame moments).mode
  pub apart : EachApart moments
  pub one : EachOne moments
  pub enabled : EachEnabled moments
  long : EachMoment LongEach moments

opened : (t : Tables) → Sound t → Holds t (first_moment t ∷ [])
opened t sound = record {
  sound = sound;
  stands = first-stands t;
  numbered = tt;
  apart = (stands-apart t first_frame (first-stands t), tt);
  one = (stands-one t first_frame sound (first-stands t), tt);
  enabled = ((first-stands t).enabled, tt);
  long = (first-long t, tt);
}

ticked : (past : Past) → Holds past.tables past.moments → Holds past.tables (next_moment past ∷ past.moments)
ticked past h =
    let s : FrameStands past.tables (next_moment past).frame = next-stands past h.sound h.numbered h.stands in
    record {
      sound = h.sound;
      stands = s;
      numbered = reached-numbered (tick_state_of past).mode past.tables _ (sought-known _ _ _ _ past.moments h.numbered);
      apart = (stands-apart past.tables _ s, h.apart);
      one = (stands-one past.tables _ h.sound s, h.one);
      enabled = (s.enabled, h.enabled);
      long = (next-long past h.sound h.stands h.long, h.long);
    }

installed : (past : Past) (new : Tables) → Sound new × ((is_dark (last_frame past.moments).mode ≡ true) ⊎ SameLayout past.tables new)
    → Holds past.tables past.moments → Holds new past.moments
installed past new l h = record {
  sound = l.0;
  stands = elim l.1 [ inl d ↦ dark-stands _ new _ d h.stands | inr same ↦ installed-stands _ new _ same h.stands ];
  numbered = h.numbered;
  apart = h.apart;
  one = h.one;
  enabled = h.enabled;
  long = h.long;
}

pub holds : (opening : Tables) (events : List Event) → Lawful opening events
    → Holds (past_of opening events).tables (past_of opening events).moments
holds opening events l =
    over-events opening (IsLawfulAfter opening) (λ t version moments. Holds t moments) (opened opening l.0)
    (λ before a allowed h. ticked (past_of opening before) h)
    (λ before t a allowed h. installed (past_of opening before) t allowed h)
    events l.1

shown-long : (past : List Moment) (m : Moment) → LongEach past m → (p : ℕ) → is_phase p ≡ true → colour_of m.frame p ≡ Yellow
    → 30 ≤ yellow_time (latched p Yellow m.tables (m ∷ past)) p
shown-long past m h p ph e =
    let here : shows p Yellow m ≡ true = ap (λ (c : Colour). same_colour c Yellow) e in
    let some : 0 < run p Yellow (m ∷ past) = rw here (omega arith) in h p ph some

pub each-long : (opening : Tables) (events : List Event) → Lawful opening events → EachLongYellow (past_of opening events).moments
each-long opening events l = each-weaker LongEach _ shown-long (past_of opening events).moments (holds opening events l).long

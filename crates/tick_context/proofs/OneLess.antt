-- What lasts that many ticks more lasts one less after the next of them.
use Rattle.std.proofs.Common.{◌≡◌, ◌<◌, ◌≤◌, ◌+◌, ◌-◌, ◌&&◌, ◌||◌, ◌==◌, ◌⊎◌, not, if◌then◌else◌, ℕ, suc, Bool, true, false}
use Rattle.std.proofs.Common.{List, [], ◌∷◌, length, get_or, Option, None, Some, refl, sym, ◌∙◌, ap, arith, subst, inl, inr}
use Rattle.std.proofs.lemmas.Bool.{false≢true}
use Rattle.sig_types.specs.declared.frame.Colour.{Colour}
use Rattle.sig_types.specs.declared.frame.Colour.TheVariants.{Green, Yellow, Clear, Red}
use Rattle.sig_types.specs.declared.frame.Ped.{Ped}
use Rattle.sig_types.specs.declared.frame.Ped.TheVariants.{Walk, Flash, Dont}
use Rattle.sig_types.specs.declared.frame.Frame.{Frame}
use Rattle.sig_types.specs.declared.frame.Mode.{Mode}
use Rattle.sig_types.specs.declared.frame.Mode.TheVariants.{Start, Free, Seek, Coord, Ending, Flash as InFlash, Entry, Track, Dwell, Exit}
use Rattle.sig_types.specs.Phases.{all_phases, is_in, some, those}
use Rattle.sig_types.specs.PhaseSet.{has}
use Rattle.sig_types.specs.Colour.{same_colour, same_signal, colour_in, colour_of, signal_of, on_in}
use Rattle.sig_tables.specs.declared.tables.Tables.{Tables}
use Rattle.sig_tables.specs.Tables.{is_enabled, ring_of, least_green, yellow_time, red_clear_time, walk_time, pedestrian_clear_time, gap_time, maximum_time}
use Rattle.sig_tables.specs.Slots.{is_omitted, force_point, cycle_time, window, least_service}
use Rattle.sig_tables.specs.Clock.{target_at}
use Rattle.sig_tables.specs.Command.{is_commanded}
use Rattle.sig_tables.specs.Past.{Past, Moment, Heard}
use Rattle.sig_tables.specs.Looking.{in_a_row, begun, run, latched, shows, signals, signal_run, signal_latched}
use Rattle.sig_tables.specs.Calls.{is_green, is_called, is_active, opposed_of}
use Rattle.sig_tables.specs.SplitCalls.{demand_in, quiet_in, is_called_by}
use Rattle.sig_tables.specs.Sides.{are_incompatible, are_of_one_side}
use Rattle.sig_tables.specs.View.{other_ring}
use Rattle.sig_tables.specs.Splits.{split_maximum}
use Rattle.sig_tables.specs.Modes.{bound}
use Rattle.sig_tables.specs.Preempts.{all_preempts}
use Rattle.sig_tables.specs.Walking.{has_walk}
use Rattle.sig_tables.specs.Ticking.{on_of}
use Rattle.sig_tables.specs.Decide.{with_moment, next_moment}
use Rattle.sig_tables.specs.Seen.{frame_seen, moment_seen, vehicle_seen, pedestrian_seen, detectors_seen, demand_with, quiet_with}
use Rattle.call_store.proofs.Again.{vehicle-again, pedestrian-again, detectors-again}
use Rattle.call_store.specs.Signals.{SignalLasts}
use Rattle.preempt_stages.proofs.Inputs.{seen-is}
use Rattle.tick_context.specs.declared.seeing.TickInputs.{TickInputs}
use Rattle.tick_context.specs.Shows.{is_signalling}
use Rattle.tick_context.specs.Lasting.{IsFresh, Looks, ColourLasts, StaysUnserved, HasNoGap, HasNoMaximum, HasNoReason, StaysUnforced, PhaseLasts, StaysOn, HasNoRoom, IsUnwanted, RingLasts, present_on, StaysFree, StaysInStep, ModeLasts, Lasts, opposed_with}
use Rattle.tick_context.proofs.Again.{no-counter, no-target}
use Rattle.tick_context.proofs.Free.{command-none}
use Rattle.tick_context.proofs.InStep.{command-in, clock-in, target-next, counter-next}
use Rattle.tick_context.proofs.Stays.{GoesAhead}
use Rattle.tick_context.proofs.TicksGoOn.{Goes, tick-goes, Alike, goes-alike}

-- a count of moments in a row has at most one more
row-most : (test : Moment → Bool) (m : Moment) (past : List Moment) → in_a_row test (m ∷ past) ≤ in_a_row test past + 1
row-most test m past = by (test m)
  where
    by : (b : Bool) → (if b then in_a_row test past + 1 else 0) ≤ in_a_row test past + 1
    by true = omega arith
    by false = omega arith

-- the tables of what continues are those at which it began
begun-on : (test : Moment → Bool) (now : Tables) (m : Moment) (past : List Moment) → test m ≡ true → m.tables ≡ now
    → begun test now (m ∷ past) ≡ begun test now past
begun-on test now m past passes same = rw (passes, same) refl

same-itself : (c : Colour) → same_colour c c ≡ true
same-itself Green = refl
same-itself Yellow = refl
same-itself Clear = refl
same-itself Red = refl

signal-itself : (s : Ped) → same_signal s s ≡ true
signal-itself Walk = refl
signal-itself Flash = refl
signal-itself Dont = refl

-- a colour that continues is that of the same interval
latched-on : (p : ℕ) (c : Colour) (now : Tables) (m : Moment) (past : List Moment) → colour_of m.frame p ≡ c → m.tables ≡ now
    → latched p c now (m ∷ past) ≡ latched p c now past
latched-on p c now m past e same = begun-on (shows p c) now m past (ap (λ (x : Colour). same_colour x c) e ∙ same-itself c) same

colour-less : (j p : ℕ) (now : Tables) (m : Moment) (past : List Moment) (c : Colour) → colour_of m.frame p ≡ c → m.tables ≡ now
    → ColourLasts (suc j) p now past c → ColourLasts j p now (m ∷ past) c
colour-less j p now m past Green e same h = tt
colour-less j p now m past Red e same h = tt
colour-less j p now m past Yellow e same h =
    let k : run p Yellow past + suc j ≤ yellow_time (latched p Yellow now past) p = h in
    let most : run p Yellow (m ∷ past) ≤ run p Yellow past + 1 = row-most (shows p Yellow) m past in
    let time : yellow_time (latched p Yellow now (m ∷ past)) p ≡ yellow_time (latched p Yellow now past) p =
    ap (λ (t : Tables). yellow_time t p) (latched-on p Yellow now m past e same) in
    omega (arith, k, most, time)
colour-less j p now m past Clear e same h =
    let k : run p Clear past + suc j ≤ red_clear_time (latched p Clear now past) p = h in
    let most : run p Clear (m ∷ past) ≤ run p Clear past + 1 = row-most (shows p Clear) m past in
    let time : red_clear_time (latched p Clear now (m ∷ past)) p ≡ red_clear_time (latched p Clear now past) p =
    ap (λ (t : Tables). red_clear_time t p) (latched-on p Clear now m past e same) in
    omega (arith, k, most, time)

signal-latched-on : (p : ℕ) (s : Ped) (now : Tables) (m : Moment) (past : List Moment) → signal_of m.frame p ≡ s → m.tables ≡ now
    → signal_latched p s now (m ∷ past) ≡ signal_latched p s now past
signal-latched-on p s now m past e same = begun-on (signals p s) now m past (ap (λ (x : Ped). same_signal x s) e ∙ signal-itself s) same

signal-less : (j p : ℕ) (now : Tables) (m : Moment) (past : List Moment) (s : Ped) → signal_of m.frame p ≡ s → m.tables ≡ now
    → SignalLasts (suc j) p now past s → SignalLasts j p now (m ∷ past) s
signal-less j p now m past Dont e same h = tt
signal-less j p now m past Walk e same h =
    let k : signal_run p Walk past + suc j ≤ walk_time (signal_latched p Walk now past) p = h in
    let most : signal_run p Walk (m ∷ past) ≤ signal_run p Walk past + 1 = row-most (signals p Walk) m past in
    let time : walk_time (signal_latched p Walk now (m ∷ past)) p ≡ walk_time (signal_latched p Walk now past) p =
    ap (λ (t : Tables). walk_time t p) (signal-latched-on p Walk now m past e same) in
    omega (arith, k, most, time)
signal-less j p now m past Flash e same h =
    let k : signal_run p Flash past + suc j ≤ pedestrian_clear_time (signal_latched p Flash now past) p = h in
    let most : signal_run p Flash (m ∷ past) ≤ signal_run p Flash past + 1 = row-most (signals p Flash) m past in
    let time : pedestrian_clear_time (signal_latched p Flash now (m ∷ past)) p ≡ pedestrian_clear_time (signal_latched p Flash now past) p =
    ap (λ (t : Tables). pedestrian_clear_time t p) (signal-latched-on p Flash now m past e same) in
    omega (arith, k, most, time)

-- what is seen depends on the colours of the last frame, and not on its counter
demand-like : (o : Option ℕ) (t : Tables) (f g : Frame) (v q d : List ℕ) → f.veh ≡ g.veh → demand_in o t f v q d ≡ demand_in o t g v q d
demand-like None t f g v q d e =
    ap (λ (veh : List Colour). those (λ p. is_enabled t p && same_colour (colour_in veh p) Red && is_called t v q d p) all_phases) e
demand-like (Some n) t f g v q d e =
    ap (λ (veh : List Colour).
    those
    (λ p. is_enabled t p && same_colour (colour_in veh p) Red && not (is_omitted t n p) && (is_called t v q d p || is_called_by t n p))
    all_phases) e

calls-like : (o : Option ℕ) (t : Tables) (f : Frame) (v w q s d e : List ℕ) → v ≡ w → q ≡ s → d ≡ e → demand_in o t f v q d ≡ demand_in o t f w s e
calls-like o t f v w q s d e a b c = rw (a, b, c) refl

quiet-like : (o : Option ℕ) (t : Tables) (f g : Frame) (heard more : List Heard) (d e : List ℕ) → f.veh ≡ g.veh → heard ≡ more → d ≡ e
    → quiet_in o t f heard d ≡ quiet_in o t g more e
quiet-like o t f g heard more d e a b c = ap (λ (xs : List Heard). quiet_in o t f xs d) b ∙ ap (λ (xs : List ℕ). quiet_in o t f more xs) c ∙ by o
  where
    by : (o : Option ℕ) → quiet_in o t f more e ≡ quiet_in o t g more e
    by None = ap (λ (veh : List Colour). those (λ p. same_colour (colour_in veh p) Green && not (is_active t more e p)) all_phases) a
    by (Some n) =
        ap (λ (veh : List Colour).
        those (λ p. same_colour (colour_in veh p) Green && not (is_active t more e p || split_maximum t n p)) all_phases) a

opposed-like : (t : Tables) (f g : Frame) (d e : List ℕ) → f.veh ≡ g.veh → d ≡ e → opposed_of t f d ≡ opposed_of t g e
opposed-like t f g d e a b =
    ap (λ (xs : List ℕ). opposed_of t f xs) b
    ∙ ap (λ (veh : List Colour). those (λ p. same_colour (colour_in veh p) Green && some (are_incompatible t p) e) all_phases) a

-- what a tick sees is seen again at the one after it
pub record SeenAgain (o : Option ℕ) (past : Past) : Type 0 where
  pub demand : demand_with o (with_moment past (next_moment past)) ≡ demand_with o past
  pub quiet : quiet_with o (with_moment past (next_moment past)) ≡ quiet_with o past
  pub opposed : opposed_with o (with_moment past (next_moment past)) ≡ opposed_with o past
  pub pedestrian : pedestrian_seen (with_moment past (next_moment past)) ≡ pedestrian_seen past

pub seen-again : (o : Option ℕ) (past : Past) → IsFresh past → Alike (next_moment past).frame (frame_seen past) → SeenAgain o past
seen-again o past fresh a =
    let m : Moment = next_moment past in
    let v = vehicle-again past m a.veh refl in
    let q = pedestrian-again past m a.ped refl in
    let d = detectors-again past m refl in
    let demand : demand_with o (with_moment past m) ≡ demand_with o past =
    calls-like o past.tables m.frame _ _ _ _ _ _ v q d
    ∙ demand-like o past.tables m.frame (frame_seen past) (vehicle_seen past) (pedestrian_seen past) (detectors_seen past) a.veh in
    record {
      demand = demand;
      quiet = quiet-like o past.tables m.frame (frame_seen past) [] past.heard _ _ a.veh (sym fresh.heard) d;
      opposed = opposed-like past.tables m.frame (frame_seen past) _ _ a.veh demand;
      pedestrian = q;
    }

pub looks-on : (o : Option ℕ) (s : TickInputs) (past : Past) → Alike (next_moment past).frame (frame_seen past) → SeenAgain o past → Looks o s past
    → Looks o s (with_moment past (next_moment past))
looks-on o s past a g l = record {
  demand = l.demand ∙ sym g.demand;
  quiet = λ p h.
      ap (λ (xs : List ℕ). is_in xs p) g.quiet ∙ l.quiet p h
      ∙ ap (λ (veh : List Colour). same_colour (colour_in veh p) Green && not (has s.active p)) (sym a.veh);
  opposed = λ p h. l.opposed p h ∙ ap (λ (xs : List ℕ). is_in xs p) (sym g.opposed);
}

-- of the counts that are too short
gap-less : (o : Option ℕ) (j : ℕ) (past : Past) (p : ℕ) → SeenAgain o past → HasNoGap o (suc j) past p
    → HasNoGap o j (with_moment past (next_moment past)) p
gap-less o j past p g (inl h) = inl (ap (λ (xs : List ℕ). is_in xs p) g.quiet ∙ h)
gap-less o j past p g (inr h) =
    let k : in_a_row (λ m. is_in m.quiet p) past.moments + suc j < gap_time past.tables p = h in
    let most : in_a_row (λ m. is_in m.quiet p) (next_moment past ∷ past.moments) ≤ in_a_row (λ m. is_in m.quiet p) past.moments + 1 =
    row-most (λ m. is_in m.quiet p) (next_moment past) past.moments in
    inr (omega (arith, k, most))

maximum-less : (o : Option ℕ) (j : ℕ) (past : Past) (p : ℕ) → SeenAgain o past → HasNoMaximum o (suc j) past p
    → HasNoMaximum o j (with_moment past (next_moment past)) p
maximum-less o j past p g (some, inl h) = (some, inl (ap (λ (xs : List ℕ). is_in xs p) g.opposed ∙ h))
maximum-less o j past p g (some, inr h) =
    let k : in_a_row (λ m. is_in m.opposed p) past.moments + suc j < maximum_time past.tables p = h in
    let most : in_a_row (λ m. is_in m.opposed p) (next_moment past ∷ past.moments) ≤ in_a_row (λ m. is_in m.opposed p) past.moments + 1 =
    row-most (λ m. is_in m.opposed p) (next_moment past) past.moments in
    (some, inr (omega (arith, k, most)))

before-less : (counter force j now : ℕ) → counter + suc j < force → now ≤ counter + 1 → now + j < force
before-less counter force j now h most = omega (arith, h, most)

reason-less : (o : Option ℕ) (j : ℕ) (past : Past) (p : ℕ) → SeenAgain o past → (next_moment past).frame.counter ≤ (frame_seen past).counter + 1
    → HasNoReason o (suc j) past p → HasNoReason o j (with_moment past (next_moment past)) p
reason-less None j past p g most (gap, maximum) = (gap-less None j past p g gap, maximum-less None j past p g maximum)
reason-less (Some n) j past p g most (inl (held, before)) =
    inl (held, before-less (frame_seen past).counter (force_point past.tables n p) j (next_moment past).frame.counter before most)
reason-less (Some n) j past p g most (inr (free, (fixed, gap))) = inr (free, (fixed, gap-less (Some n) j past p g gap))

unforced-less : (o : Option ℕ) (j : ℕ) (past : Past) (p : ℕ) → (next_moment past).frame.counter ≤ (frame_seen past).counter + 1
    → StaysUnforced o (suc j) past p → StaysUnforced o j (with_moment past (next_moment past)) p
unforced-less None j past p most h = tt
unforced-less (Some n) j past p most (inl held) = inl held
unforced-less (Some n) j past p most (inr before) =
    inr (before-less (frame_seen past).counter (force_point past.tables n p) j (next_moment past).frame.counter before most)

green-is : (c : Colour) → same_colour c Green ≡ true → c ≡ Green
green-is Green e = refl
green-is Yellow e = absurd (false≢true e)
green-is Clear e = absurd (false≢true e)
green-is Red e = absurd (false≢true e)

unserved-less : (j : ℕ) (past : Past) (p : ℕ) → Alike (next_moment past).frame (frame_seen past) → is_green (next_moment past).frame p ≡ true
    → StaysUnserved (suc j) past p → StaysUnserved j (with_moment past (next_moment past)) p
unserved-less j past p a green (inl h) =
    let m : Moment = next_moment past in
    let k : run p Green past.moments + suc j ≤ least_green (latched p Green past.tables past.moments) p = h in
    let most : run p Green (m ∷ past.moments) ≤ run p Green past.moments + 1 = row-most (shows p Green) m past.moments in
    let time : least_green (latched p Green past.tables (m ∷ past.moments)) p ≡ least_green (latched p Green past.tables past.moments) p =
    ap (λ (t : Tables). least_green t p) (latched-on p Green past.tables m past.moments (green-is (colour_of m.frame p) green) refl) in
    inl (omega (arith, k, most, time))
unserved-less j past p a green (inr h) =
    inr (ap (λ (ped : List Ped). same_signal (get_or ped (p - 1) Walk) Walk || same_signal (get_or ped (p - 1) Walk) Flash) a.ped ∙ h)

second-of : (a b : Bool) → (a && b) ≡ true → b ≡ true
second-of true b e = e
second-of false b e = absurd (false≢true e)

phase-less : (o : Option ℕ) (j : ℕ) (past : Past) (p : ℕ) → Alike (next_moment past).frame (frame_seen past) → SeenAgain o past
    → (next_moment past).frame.counter ≤ (frame_seen past).counter + 1 → PhaseLasts o (suc j) past p
    → PhaseLasts o j (with_moment past (next_moment past)) p
phase-less o j past p a g most l =
    let m : Moment = next_moment past in
    let colour : colour_of m.frame p ≡ colour_of (frame_seen past) p = ap (λ (veh : List Colour). colour_in veh p) a.veh in
    let signal : signal_of m.frame p ≡ signal_of (frame_seen past) p = ap (λ (ped : List Ped). get_or ped (p - 1) Walk) a.ped in
    let here : (is_enabled past.tables p && is_green m.frame p) ≡ true → (is_enabled past.tables p && is_green (frame_seen past) p) ≡ true =
    λ h. ap (λ (c : Colour). is_enabled past.tables p && same_colour c Green) (sym colour) ∙ h in
    record {
      colour = subst (λ (c : Colour). ColourLasts j p past.tables (m ∷ past.moments) c) (sym colour)
          (colour-less j p past.tables m past.moments (colour_of (frame_seen past) p) colour refl l.colour);
      signal = subst (λ (s : Ped). SignalLasts j p past.tables (m ∷ past.moments) s) (sym signal)
          (signal-less j p past.tables m past.moments (signal_of (frame_seen past) p) signal refl l.signal);
      unforced = λ h. unforced-less o j past p most (l.unforced (here h));
    }

on-same : (past : Past) (r : ℕ) → Alike (next_moment past).frame (frame_seen past) → on_in (next_moment past).frame r ≡ on_in (frame_seen past) r
on-same past r a = ap (λ (on : List ℕ). get_or on (r - 1) 0) a.on

present-same : (past : Past) → Alike (next_moment past).frame (frame_seen past) → present_on (with_moment past (next_moment past)) ≡ present_on past
present-same past a = ap (λ (on : List ℕ). if get_or on 0 0 == 0 then get_or on 1 0 else get_or on 0 0) a.on

-- what stays on, or is not wanted
stays-less : (o : Option ℕ) (j : ℕ) (past : Past) (r : ℕ) → Alike (next_moment past).frame (frame_seen past) → SeenAgain o past
    → (next_moment past).frame.counter ≤ (frame_seen past).counter + 1 → StaysOn o (suc j) past r
    → StaysOn o j (with_moment past (next_moment past)) r
stays-less o j past r a g most l =
    let f : Frame = (next_moment past).frame in
    let same : on_in f r ≡ on_in (frame_seen past) r = on-same past r a in
    record {
      on = λ e. l.on (sym same ∙ e);
      undone = subst
          (λ (p : ℕ). (is_enabled past.tables p && is_green f p) ≡ true
          → StaysUnserved j (with_moment past (next_moment past)) p ⊎ HasNoReason o j (with_moment past (next_moment past)) p)
          (sym same)
          (λ h. elim (l.undone (ap (λ (veh : List Colour). is_enabled past.tables (on_in (frame_seen past) r)
          && same_colour (colour_in veh (on_in (frame_seen past) r)) Green) (sym a.veh) ∙ h)) [
            | inl unserved ↦
                inl (unserved-less j past (on_in (frame_seen past) r) a (second-of (is_enabled past.tables (on_in (frame_seen past) r)) _ h) unserved)
            | inr reason ↦ inr (reason-less o j past (on_in (frame_seen past) r) g most reason)
          ]);
    }

room-less : (o : Option ℕ) (j : ℕ) (past : Past) (q : ℕ) → (next_moment past).frame.counter ≤ (frame_seen past).counter + 1 → GoesAhead o past
    → HasNoRoom o (suc j) past q → HasNoRoom o j (with_moment past (next_moment past)) q
room-less None j past q most ahead h = absurd h
room-less (Some n) j past q most ahead (free, inl late) =
    let k : force_point past.tables n q < (frame_seen past).counter + 1 + least_service past.tables q = late in
    let more : (frame_seen past).counter + 1 ≤ (next_moment past).frame.counter = ahead n refl in
    (free, inl (omega (arith, k, more)))
room-less (Some n) j past q most ahead (free, inr early) =
    (free, inr (before-less (frame_seen past).counter (window past.tables n) j (next_moment past).frame.counter early most))

unwanted-less : (o : Option ℕ) (j : ℕ) (past : Past) (q : ℕ) → SeenAgain o past → (next_moment past).frame.counter ≤ (frame_seen past).counter + 1
    → GoesAhead o past → IsUnwanted o (suc j) past q → IsUnwanted o j (with_moment past (next_moment past)) q
unwanted-less o j past q g most ahead (inl none) = inl (ap (λ (xs : List ℕ). is_in xs q) g.demand ∙ none)
unwanted-less o j past q g most ahead (inr full) = inr (room-less o j past q most ahead full)

-- what a ring shows
ring-less : (o : Option ℕ) (j : ℕ) (past : Past) (r : ℕ) → Alike (next_moment past).frame (frame_seen past) → SeenAgain o past
    → (next_moment past).frame.counter ≤ (frame_seen past).counter + 1 → GoesAhead o past → RingLasts o (suc j) past r
    → RingLasts o j (with_moment past (next_moment past)) r
ring-less o j past r a g most ahead (inl stays) = inl (stays-less o j past r a g most stays)
ring-less o j past r a g most ahead (inr (none, wait)) =
    let side = present-same past a in
    inr (
      λ q h. unwanted-less o j past q g most ahead
          (none q (ap (λ (s : ℕ). ring_of past.tables q == r && are_of_one_side past.tables s q) (sym side) ∙ h)),
      elim wait [
        | inl empty ↦ inl (on-same past r a ∙ empty)
        | inr (inl beyond) ↦ inr (inl (λ q i h. unwanted-less o j past q g most ahead
            (beyond q i (ap (λ (s : ℕ). are_of_one_side past.tables s q) (sym side) ∙ h))))
        | inr (inr stays) ↦ inr (inr (stays-less o j past (other_ring r) a g most stays))
      ],
    )

-- who is not called to
uncalled-like : (t : Tables) (f g : Frame) (called more against for : List ℕ) (p : ℕ) → f.veh ≡ g.veh → f.ped ≡ g.ped → more ≡ called → for ≡ against
    → ((has_walk t p && is_in called p) && ((same_colour (colour_of g p) Green && not (is_signalling g p)) && not (is_in against p))) ≡ false
    → ((has_walk t p && is_in more p) && ((same_colour (colour_of f p) Green && not (is_signalling f p)) && not (is_in for p))) ≡ false
uncalled-like t f g called more against for p a b c d none =
    ap (λ (veh : List Colour). (has_walk t p && is_in more p)
    && ((same_colour (colour_in veh p) Green && not (is_signalling f p)) && not (is_in for p))) a
    ∙ ap (λ (ped : List Ped). (has_walk t p && is_in more p)
    && ((same_colour (colour_of g p) Green && not (same_signal (get_or ped (p - 1) Walk) Walk || same_signal (get_or ped (p - 1) Walk) Flash))
    && not (is_in for p))) b
    ∙ ap (λ (xs : List ℕ). (has_walk t p && is_in xs p)
    && ((same_colour (colour_of g p) Green && not (is_signalling g p)) && not (is_in for p))) c
    ∙ ap (λ (xs : List ℕ). (has_walk t p && is_in called p)
    && ((same_colour (colour_of g p) Green && not (is_signalling g p)) && not (is_in xs p))) d
    ∙ none

free-less : (past : Past) → IsFresh past → Goes Free past → Alike (next_moment past).frame (frame_seen past) → SeenAgain None past → StaysFree past
    → StaysFree (with_moment past (next_moment past))
free-less past fresh goes a g s =
    let m : Moment = next_moment past in
    let none = command-none past fresh s.other s.undefined in
    record {
      other = none.0;
      undefined = none.1;
      counter = no-counter past goes.now;
      target = no-target past goes.now;
      uncalled = λ p h. uncalled-like past.tables m.frame (frame_seen past) _ _ _ _ p a.veh a.ped g.pedestrian g.opposed (s.uncalled p h);
    }

coord-less : (n j : ℕ) (past : Past) → IsFresh past → (frame_seen past).mode ≡ Coord n → Goes (Coord n) past → StaysInStep n (suc j) past
    → StaysInStep n j (with_moment past (next_moment past))
coord-less n j past fresh was goes s =
    let m : Moment = next_moment past in
    let clock : m.clock ≡ (moment_seen past).clock + 1 = clock-in n j past fresh s in
    let counter : m.frame.counter ≡ (frame_seen past).counter + 1 = counter-next n j past fresh s was goes.now in
    let cycle : (frame_seen past).counter + suc j < cycle_time past.tables n = s.cycle in
    let few : (frame_seen past).counter + 1 < cycle_time past.tables n = omega (arith, cycle) in
    let told : m.is_commanded ≡ false = ap is_commanded fresh.commanded in
    let row : in_a_row (λ x. not x.is_commanded) (m ∷ past.moments) ≡ in_a_row (λ x. not x.is_commanded) past.moments + 1 =
    ap (λ (b : Bool). if not b then in_a_row (λ x. not x.is_commanded) past.moments + 1 else 0) told in
    record {
      defined = s.defined;
      command = command-in n j past fresh s;
      backup = elim s.backup [
        | inl never ↦ inl never
        | inr less ↦ inr (omega (arith, less, row))
      ];
      day = omega (arith, clock, s.day);
      gain = s.gain;
      lose = s.lose;
      cycle = omega (arith, counter, cycle);
      even = elim s.even [
        | inl late ↦ inl (omega (arith, late, counter))
        | inr on ↦
            inr (ap (λ (x : ℕ). target_at past.tables n x) clock
            ∙ target-next past.tables n (moment_seen past).clock (frame_seen past).counter few on ∙ sym counter)
      ];
      unasked = λ number later.
          let more : (moment_seen past).number + 1 < number = later in
          s.unasked number (omega (arith, more));
    }

mode-less : (mode : Mode) (j : ℕ) (past : Past) → IsFresh past → (frame_seen past).mode ≡ mode → Goes mode past
    → Alike (next_moment past).frame (frame_seen past) → SeenAgain (bound mode) past → ModeLasts mode (suc j) past
    → ModeLasts mode j (with_moment past (next_moment past))
mode-less Free j past fresh was goes a g s = free-less past fresh goes a g s
mode-less (Coord n) j past fresh was goes a g s = coord-less n j past fresh was goes s
mode-less Start j past fresh was goes a g s = s
mode-less (Seek n) j past fresh was goes a g s = s
mode-less Ending j past fresh was goes a g s = s
mode-less InFlash j past fresh was goes a g s = s
mode-less (Entry i) j past fresh was goes a g s = s
mode-less (Track i) j past fresh was goes a g s = s
mode-less (Dwell i) j past fresh was goes a g s = s
mode-less (Exit i) j past fresh was goes a g s = s

-- so all that lasts does
pub lasts-less : (mode : Mode) (j : ℕ) (past : Past) → Lasts mode (suc j) past → Lasts mode j (with_moment past (next_moment past))
lasts-less mode j past l =
    let m : Moment = next_moment past in
    let g = tick-goes mode j past l in
    let a = goes-alike mode j past l in
    let s = seen-again (bound mode) past l.fresh a in
    record {
      fresh = record { heard = refl; commanded = refl; clock_set = refl };
      was = a.mode ∙ l.was;
      beside = seen-is (with_moment past m)
          ∙ ap (λ (xs : List ℕ). those (λ i. is_in xs i) all_preempts) (sym (seen-is past) ∙ l.beside);
      version = a.version ∙ l.version;
      on = a.on ∙ l.on ∙ ap (λ (veh : List Colour). on_of past.tables veh 1 ∷ on_of past.tables veh 2 ∷ []) (sym a.veh);
      some = λ e. l.some (sym (present-same past a) ∙ e);
      first = ring-less (bound mode) j past 1 a s g.counter g.ahead l.first;
      second = ring-less (bound mode) j past 2 a s g.counter g.ahead l.second;
      wide = ap length a.veh ∙ l.wide;
      long = ap length a.ped ∙ l.long;
      goes = mode-less mode j past l.fresh l.was g a s l.goes;
      phases = λ p h. phase-less (bound mode) j past p a s g.counter (l.phases p h);
    }

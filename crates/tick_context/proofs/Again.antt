-- A tick gives again what the last frame shows: at rest, and wherever nothing ends and nothing begins.
use Rattle.std.proofs.Common.{◌||◌, inl, inr, ◌≡◌, ◌≢◌, ◌==◌, ◌&&◌, not, ℕ, Bool, true, false, if◌then◌else◌, List, [], ◌∷◌, map, length, Option, None, refl, sym, ◌∙◌, ap}
use Rattle.std.proofs.lemmas.Bool.{false≢true, ne_eqb, cases_Bool}
use Rattle.sig_types.specs.declared.frame.Colour.{Colour}
use Rattle.sig_types.specs.declared.frame.Colour.TheVariants.{Green, Yellow, Clear, Red}
use Rattle.sig_types.specs.declared.frame.Ped.{Ped}
use Rattle.sig_types.specs.declared.frame.Ped.TheVariants.{Walk, Flash, Dont}
use Rattle.sig_types.specs.declared.frame.Frame.{Frame}
use Rattle.sig_types.specs.declared.frame.Mode.{Mode}
use Rattle.sig_types.specs.declared.frame.Mode.TheVariants.{Start, Free, Seek, Coord, Ending, Flash as InFlash, Entry, Track, Dwell, Exit}
use Rattle.sig_types.specs.declared.phase_set.PhaseSet.{PhaseSet}
use Rattle.sig_types.specs.PhaseSet.{has, phases_of}
use Rattle.sig_types.specs.Phases.{is_phase, is_in, some, those, all_phases}
use Rattle.sig_types.specs.Colour.{same_colour, same_signal, colour_in, colour_of, signal_of, is_start}
use Rattle.sig_types.proofs.Sets.{in-phases, listed-phase, empty-has}
use Rattle.sig_tables.specs.declared.tables.Tables.{Tables}
use Rattle.sig_tables.specs.Sides.{are_incompatible}
use Rattle.sig_tables.specs.Slots.{is_defined}
use Rattle.sig_tables.specs.Past.{Past, Moment}
use Rattle.sig_tables.specs.Looking.{last_frame, runs_on}
use Rattle.sig_tables.specs.Calls.{is_green, opposed_of}
use Rattle.sig_tables.specs.Modes.{bound}
use Rattle.sig_tables.specs.Preempts.{all_preempts, stage_after, stage_now}
use Rattle.sig_tables.specs.Choosing.{mode_sought, mode_after, mode_staged, mode_running, mode_reached, is_in_step}
use Rattle.sig_tables.specs.TickState.{RingTurn, Rings, ring_turn_of, tick_state_of}
use Rattle.sig_tables.specs.Walking.{Crossing, has_walk, walk_begins}
use Rattle.sig_tables.specs.Moves.{Moves, ring_moves}
use Rattle.sig_tables.specs.View.{is_open, is_done, ended_of}
use Rattle.sig_tables.specs.Ticking.{on_of, moves_of, colours_of, frame_of, frame_with, next_moment}
use Rattle.sig_tables.specs.Seen.{frame_seen, mode_seen, view_seen, moves_seen, tick_inputs_seen, demand_with, pedestrian_seen, opposed_seen}
use Rattle.tick_context.specs.Modes.{is_free}
use Rattle.tick_context.specs.Shows.{is_clearing, is_signalling}
use Rattle.tick_context.specs.Walks.{crossing_seen, walk_after, signal_seen}
use Rattle.tick_context.specs.Rests.{IsCurrent}
use Rattle.tick_context.specs.Passed.{timed}
use Rattle.tick_context.proofs.Colours.{still-colours}
use Rattle.tick_context.proofs.Signals.{still-signals}
use Rattle.tick_context.proofs.Frames.{frame-parts}
use Rattle.ring_barrier.proofs.Entering.{idle-moves}
use Rattle.tick_context.proofs.Resting.{resting, none-done}
use Rattle.tick_context.proofs.Seen.{clearance-none}
use Rattle.sig_tables.proofs.FreeTickState.{forced-unbound}

pub free-is : (m : Mode) → is_free m ≡ true → m ≡ Free
free-is Free e = refl
free-is Start e = absurd (false≢true e)
free-is (Seek n) e = absurd (false≢true e)
free-is (Coord n) e = absurd (false≢true e)
free-is Ending e = absurd (false≢true e)
free-is InFlash e = absurd (false≢true e)
free-is (Entry i) e = absurd (false≢true e)
free-is (Track i) e = absurd (false≢true e)
free-is (Dwell i) e = absurd (false≢true e)
free-is (Exit i) e = absurd (false≢true e)

-- an empty set has no preempt
pub no-preempts : (s : PhaseSet) → phases_of s ≡ [] → those (has s) all_preempts ≡ []
no-preempts s e =
    rw (
      empty-has s 1 refl e,
      empty-has s 2 refl e,
      empty-has s 3 refl e,
      empty-has s 4 refl e,
      empty-has s 5 refl e,
      empty-has s 6 refl e,
      empty-has s 7 refl e,
      empty-has s 8 refl e,
    ) refl

-- free operation continues where no preempt input is on and the command asks for no pattern and no flash
pub free-on : (t : Tables) (version n : ℕ) (on : List ℕ) (past : List Moment) → (last_frame past).mode ≡ Free → on ≡ []
    → n ≢ 255 → is_defined t n ≡ false → mode_sought t version n on past ≡ Free
free-on t version n on past was none other undefined =
    let stage : stage_now t on past ≡ None =
    ap (λ (xs : List ℕ). stage_now t xs past) none ∙ ap (λ (m : Mode). stage_after t m [] past) was in
    let runs : mode_running t version n (last_frame past) ≡ Free = rw (ne_eqb n 255 other, undefined) refl in
    ap (λ (m : Mode). mode_after m t version n on past) was
    ∙ ap (λ (s : Option Mode). mode_staged s t version n (last_frame past)) stage ∙ runs

pub rings-ring_turn : (t : Tables) (past : List Moment) (mode : Mode) → (last_frame past).mode ≡ Free → mode ≡ Free → ring_turn_of t past mode ≡ Rings
rings-ring_turn t past mode was e = rw (was, e) refl

-- no walk begins on a phase that keeps its colour, but on one in Green with Dont that is called to and isn't opposed
pub no-walk : (c : Crossing) (mode : Mode) (p : ℕ) (before after : Colour) (signal : Ped) → mode ≡ Free → after ≡ before
    → ((has_walk c.tables p && is_in c.pedestrian p)
    && ((same_colour before Green && not (same_signal signal Walk || same_signal signal Flash)) && not (is_in c.opposed p))) ≡ false
    → walk_begins c mode p before after signal ≡ false
no-walk c mode p before after signal e f none = rw (e, f) (of-colour before signal none)
  where
    uncalled : (a b o : Bool) → ((a && b) && not o) ≡ false → (a && b && not o) ≡ false
    uncalled false b o e = refl
    uncalled true false o e = refl
    uncalled true true o e = e

    of-colour : (colour : Colour) (s : Ped)
        → ((has_walk c.tables p && is_in c.pedestrian p)
        && ((same_colour colour Green && not (same_signal s Walk || same_signal s Flash)) && not (is_in c.opposed p))) ≡ false
        → walk_begins c Free p colour colour s ≡ false
    of-colour Green Dont e = uncalled (has_walk c.tables p) (is_in c.pedestrian p) (is_in c.opposed p) e
    of-colour Green Walk e = refl
    of-colour Green Flash e = refl
    of-colour Yellow s e = refl
    of-colour Clear s e = refl
    of-colour Red s e = refl

-- where nothing has demand, nothing is opposed
pub unopposed : (t : Tables) (f : Frame) (demand : List ℕ) (p : ℕ) → is_phase p ≡ true → demand ≡ [] → is_in (opposed_of t f demand) p ≡ false
unopposed t f demand p h e =
    in-phases (λ q. is_green f q && some (are_incompatible t q) demand) p h ∙ (rw e (never (is_green f p)))
  where
    never : (b : Bool) → (b && false) ≡ false
    never true = refl
    never false = refl

abbrev pub no-moves : Moves
no-moves = record { ends = []; begins = [] }

-- what both rings do, where nothing has demand and neither is open
pub rings-rest : (past : Past) → mode_seen past ≡ Free → demand_with None past ≡ []
    → is_open (view_seen past) 1 ≡ false → is_open (view_seen past) 2 ≡ false → ring_moves (view_seen past) ≡ record { ends = []; begins = [] }
rings-rest past mode none first second =
    resting (view_seen past) (λ p. forced-unbound (view_seen past) p (ap bound mode))
    (ap (λ (m : Mode). demand_with (bound m) past) mode ∙ none) first second

-- and where no phase is done
pub rings-undone : (past : Past) → mode_seen past ≡ Free → ((p : ℕ) → is_phase p ≡ true → is_done (view_seen past) p ≡ false)
    → is_open (view_seen past) 1 ≡ false → is_open (view_seen past) 2 ≡ false → ring_moves (view_seen past) ≡ record { ends = []; begins = [] }
rings-undone past mode none first second =
    idle-moves (view_seen past) first second (none-done (view_seen past) none) (λ p. forced-unbound (view_seen past) p (ap bound mode))

moves-none : (past : Past) → (frame_seen past).mode ≡ Free → mode_seen past ≡ Free → ring_moves (view_seen past) ≡ record { ends = []; begins = [] }
    → moves_seen past ≡ record { ends = []; begins = [] }
moves-none past was mode none = ap (λ (t : RingTurn). moves_of t (view_seen past)) (rings-ring_turn past.tables past.moments (mode_seen past) was mode) ∙ none

-- no counter and no target in Free
pub no-counter : (past : Past) → mode_seen past ≡ Free → (tick_state_of past).counter ≡ 0
no-counter past e = rw e refl

pub no-target : (past : Past) → mode_seen past ≡ Free → (tick_state_of past).target ≡ 0
no-target past e = rw e refl

-- what the last frame shows is repeated, with the counter and the target of the tick, where its colours and its signals
-- do
pub frame-like : (past : Past) (mode : Mode) → (frame_seen past).version ≡ past.version
    → (frame_seen past).on ≡ on_of past.tables (frame_seen past).veh 1 ∷ on_of past.tables (frame_seen past).veh 2 ∷ []
    → (frame_seen past).mode ≡ mode → mode_seen past ≡ mode → mode_reached mode past.tables (frame_seen past).veh ≡ mode
    → (frame_seen past).veh ≡ colours_of past (moves_seen past)
    → (frame_seen past).ped ≡ map (λ p. if walk_after past mode (colours_of past (moves_seen past)) p then Walk else signal_seen past p) all_phases
    → (next_moment past).frame ≡ timed true (tick_state_of past).counter (tick_state_of past).target (frame_seen past)
frame-like past mode version on was now reached veh ped =
    let f : Frame = frame_seen past in
    let at : f.ped ≡ map (λ (p : ℕ). if walk_after past f.mode f.veh p then Walk else signal_seen past p) all_phases =
    ped
    ∙ ap (λ (x : List Colour). map (λ (p : ℕ). if walk_after past mode x p then Walk else signal_seen past p) all_phases) (sym veh)
    ∙ ap (λ (x : Mode). map (λ (p : ℕ). if walk_after past x f.veh p then Walk else signal_seen past p) all_phases) (sym was) in
    let same : f.mode ≡ mode_reached (mode_seen past) past.tables f.veh =
    was ∙ sym reached ∙ sym (ap (λ (m : Mode). mode_reached m past.tables f.veh) now) in
    sym (parts f _ _ (tick_state_of past).counter (tick_state_of past).target on
    ∙ frame-parts past f.mode f.veh f.ped _ _ (tick_state_of past).counter (tick_state_of past).target f.version at refl refl refl refl version
    ∙ ap (λ (m : Mode). frame_of (tick_state_of past) past (tick_inputs_seen past) f.veh m) same
    ∙ ap (λ (x : List Colour). frame_with (tick_state_of past) past (tick_inputs_seen past) x) veh)
  where
    parts : (f : Frame) (one two counter target : ℕ) → f.on ≡ one ∷ two ∷ [] → timed true counter target f ≡ record {
      veh = f.veh;
      ped = f.ped;
      on = one ∷ two ∷ [];
      mode = f.mode;
      counter = counter;
      target = target;
      version = f.version;
    }
    parts f one two counter target e = ap (λ (on : List ℕ). record {
      veh = f.veh;
      ped = f.ped;
      on = on;
      mode = f.mode;
      counter = counter;
      target = target;
      version = f.version;
    }) e

-- and so they do where what clears or signals continues with it, no phase ends or begins, and no walk begins
pub frame-going : (past : Past) (mode : Mode) → (frame_seen past).version ≡ past.version
    → (frame_seen past).on ≡ on_of past.tables (frame_seen past).veh 1 ∷ on_of past.tables (frame_seen past).veh 2 ∷ []
    → (frame_seen past).mode ≡ mode → mode_seen past ≡ mode → mode_reached mode past.tables (frame_seen past).veh ≡ mode
    → moves_seen past ≡ record { ends = []; begins = [] }
    → length (frame_seen past).veh ≡ 16 → length (frame_seen past).ped ≡ 16
    → ((p : ℕ) → is_phase p ≡ true → is_clearing (frame_seen past).veh p ≡ true
    → runs_on p past.tables past.moments (colour_of (frame_seen past) p) ≡ colour_of (frame_seen past) p)
    → ((p : ℕ) → is_phase p ≡ true → is_signalling (frame_seen past) p ≡ true → signal_seen past p ≡ signal_of (frame_seen past) p)
    → ((p : ℕ) → is_phase p ≡ true → walk_after past mode (frame_seen past).veh p ≡ false)
    → (next_moment past).frame ≡ timed true (tick_state_of past).counter (tick_state_of past).target (frame_seen past)
frame-going past mode version on was now reached moves wide long clear dark walks =
    let f : Frame = frame_seen past in
    let still : f.veh ≡ colours_of past no-moves = still-colours past no-moves f.veh wide refl (λ p h. refl) (λ p h. refl) clear in
    let veh : f.veh ≡ colours_of past (moves_seen past) = still ∙ ap (λ (w : Moves). colours_of past w) (sym moves) in
    let ped : f.ped ≡ map (λ (p : ℕ). if walk_after past mode f.veh p then Walk else signal_seen past p) all_phases =
    still-signals past (walk_after past mode f.veh) f.ped long refl walks dark in
    frame-like past mode version on was now reached veh
    (ped ∙ ap (λ (x : List Colour). map (λ (p : ℕ). if walk_after past mode x p then Walk else signal_seen past p) all_phases) veh)

-- a frame of Free has no counter and no target
timed-free : (past : Past) → IsCurrent past → mode_seen past ≡ Free
    → timed true (tick_state_of past).counter (tick_state_of past).target (frame_seen past) ≡ frame_seen past
timed-free past now mode =
    none (frame_seen past) _ _ (no-counter past mode ∙ sym now.counter) (no-target past mode ∙ sym now.target)
  where
    none : (f : Frame) (counter target : ℕ) → counter ≡ f.counter → target ≡ f.target → timed true counter target f ≡ f
    none f counter target c t = rw (c, t) refl

-- so in free operation the last frame itself is repeated
pub frame-same : (past : Past) → IsCurrent past → (frame_seen past).mode ≡ Free → mode_seen past ≡ Free
    → (frame_seen past).veh ≡ colours_of past (moves_seen past)
    → (frame_seen past).ped ≡ map (λ p. if walk_after past Free (colours_of past (moves_seen past)) p then Walk else signal_seen past p) all_phases
    → (next_moment past).frame ≡ frame_seen past
frame-same past now was mode veh ped =
    frame-like past Free now.version now.on was mode refl veh ped ∙ timed-free past now mode

pub frame-again : (past : Past) → IsCurrent past → (frame_seen past).mode ≡ Free → mode_seen past ≡ Free
    → ring_moves (view_seen past) ≡ record { ends = []; begins = [] }
    → length (frame_seen past).veh ≡ 16 → length (frame_seen past).ped ≡ 16
    → ((p : ℕ) → is_phase p ≡ true → is_clearing (frame_seen past).veh p ≡ true
    → runs_on p past.tables past.moments (colour_of (frame_seen past) p) ≡ colour_of (frame_seen past) p)
    → ((p : ℕ) → is_phase p ≡ true → is_signalling (frame_seen past) p ≡ true → signal_seen past p ≡ signal_of (frame_seen past) p)
    → ((p : ℕ) → is_phase p ≡ true
    → ((has_walk past.tables p && is_in (pedestrian_seen past) p)
    && ((same_colour (colour_of (frame_seen past) p) Green && not (is_signalling (frame_seen past) p)) && not (is_in (opposed_seen past) p))) ≡ false)
    → (next_moment past).frame ≡ frame_seen past
frame-again past now was mode none wide long clear dark calls =
    frame-going past Free now.version now.on was mode refl (moves-none past was mode none) wide long clear dark
    (λ p h.
    no-walk (crossing_seen past Free) Free p (colour_of (frame_seen past) p) (colour_in (frame_seen past).veh p) (signal_of (frame_seen past) p) refl refl
    (calls p h))
    ∙ timed-free past now mode

-- a frame of Free is not coordinated in a pattern
pub free-apart : (f : Frame) (version n : ℕ) → f.mode ≡ Free → is_in_step f version n ≡ false
free-apart f version n e = rw e refl

pub free-started : (m : Mode) → m ≡ Free → false ≡ is_start m
free-started m e = rw e refl

-- where what clears stays in it, no ring opens in which something is on
settled : (past : Past) (p : ℕ) → is_phase p ≡ true
    → (is_clearing (frame_seen past).veh p ≡ true
    → runs_on p past.tables past.moments (colour_of (frame_seen past) p) ≡ colour_of (frame_seen past) p)
    → is_in (ended_of past.tables past.moments) p ≡ false
settled past p h clear =
    in-phases (λ q. not (same_colour (colour_of (frame_seen past) q) Red)
    && same_colour (runs_on q past.tables past.moments (colour_of (frame_seen past) q)) Red) p h
    ∙ stays (colour_of (frame_seen past) p) clear
  where
    stays : (c : Colour) → ((same_colour c Yellow || same_colour c Clear) ≡ true → runs_on p past.tables past.moments c ≡ c)
        → (not (same_colour c Red) && same_colour (runs_on p past.tables past.moments c) Red) ≡ false
    stays Green k = refl
    stays Red k = refl
    stays Yellow k = ap (λ (x : Colour). same_colour x Red) (k refl)
    stays Clear k = ap (λ (x : Colour). same_colour x Red) (k refl)

none-ends : (past : Past) (n : ℕ)
    → ((p : ℕ) → is_phase p ≡ true → is_clearing (frame_seen past).veh p ≡ true
    → runs_on p past.tables past.moments (colour_of (frame_seen past) p) ≡ colour_of (frame_seen past) p)
    → is_in (ended_of past.tables past.moments) n ≡ false
none-ends past n clear = elim (cases_Bool (is_in all_phases n)) [
  | inl i ↦ let h = listed-phase n i in settled past n h (clear n h)
  | inr o ↦ clearance-none past n o
]

pub shut : (past : Past) (n : ℕ) → n ≢ 0
    → ((p : ℕ) → is_phase p ≡ true → is_clearing (frame_seen past).veh p ≡ true
    → runs_on p past.tables past.moments (colour_of (frame_seen past) p) ≡ colour_of (frame_seen past) p)
    → (n == 0 || is_in (ended_of past.tables past.moments) n) ≡ false
shut past n some clear = rw (ne_eqb n 0 some) (none-ends past n clear)

-- and it is open where nothing is
pub open-empty : (past : Past) (n : ℕ)
    → ((p : ℕ) → is_phase p ≡ true → is_clearing (frame_seen past).veh p ≡ true
    → runs_on p past.tables past.moments (colour_of (frame_seen past) p) ≡ colour_of (frame_seen past) p)
    → (n == 0) ≡ (n == 0 || is_in (ended_of past.tables past.moments) n)
open-empty past n clear = rw (none-ends past n clear) (alone (n == 0))
  where
    alone : (b : Bool) → b ≡ (b || false)
    alone true = refl
    alone false = refl

-- A tick of a cabinet that lasts as it is: its mode continues, it shows what the last frame shows, and what lasts after
-- it lasts one tick less.
use Rattle.std.proofs.Common.{◌≡◌, ◌<◌, ◌≤◌, ◌+◌, ◌&&◌, not, ℕ, suc, true, false}
use Rattle.std.proofs.Common.{List, [], Option, refl, sym, ◌∙◌, ap, arith}
use Rattle.sig_types.specs.declared.frame.Colour.TheVariants.{Green}
use Rattle.sig_types.specs.declared.frame.Frame.{Frame}
use Rattle.sig_types.specs.declared.frame.Mode.{Mode}
use Rattle.sig_types.specs.declared.frame.Mode.TheVariants.{Start, Free, Seek, Coord, Ending, Flash, Entry, Track, Dwell, Exit}
use Rattle.sig_types.specs.Phases.{is_phase, is_in}
use Rattle.sig_types.specs.Colour.{same_colour, colour_in, colour_of, signal_of, on_in, is_start}
use Rattle.sig_tables.specs.declared.tables.Tables.{Tables}
use Rattle.sig_tables.specs.Past.{Past, Moment}
use Rattle.sig_tables.specs.Looking.{last_frame, runs_on}
use Rattle.sig_tables.specs.Lesser.{Lesser, InFull, signal_runs_within}
use Rattle.sig_tables.specs.Goals.{lesser_in}
use Rattle.sig_tables.specs.Command.{command_now}
use Rattle.sig_tables.specs.Modes.{bound}
use Rattle.sig_tables.specs.Choosing.{mode_reached}
use Rattle.sig_tables.specs.TickState.{RingTurn, Rings, ring_turn_of, tick_state_of}
use Rattle.sig_tables.specs.Priority.{active_in}
use Rattle.sig_tables.specs.Walking.{has_walk}
use Rattle.sig_tables.specs.Ticking.{moves_of}
use Rattle.sig_tables.specs.Decide.{next_moment}
use Rattle.sig_tables.specs.Seen.{frame_seen, moment_seen, mode_seen, ring_turn_seen, view_seen, moves_seen, pedestrian_seen}
use Rattle.preempt_stages.specs.Dwelling.{is_dwell}
use Rattle.preempt_stages.specs.Inputs.{preempts_seen}
use Rattle.preempt_stages.proofs.Inputs.{seen-is}
use Rattle.tick_context.specs.Shows.{is_clearing, is_signalling}
use Rattle.tick_context.specs.Walks.{crossing_seen, walk_after}
use Rattle.tick_context.specs.Lasting.{IsFresh, StaysFree, StaysInStep, Lasts, opposed_with}
use Rattle.tick_context.specs.Passed.{timed}
use Rattle.tick_context.proofs.Again.{free-on, rings-ring_turn, no-counter, no-moves, no-walk, frame-going, open-empty}
use Rattle.tick_context.proofs.Stays.{colour-stays, signal-stays, GoesAhead, rings-stay}
use Rattle.tick_context.proofs.Free.{command-none}
use Rattle.tick_context.proofs.InStep.{mode-in, counter-next, no-walk-in, no-zero}

-- the mode continues at the next tick
pub record Goes (mode : Mode) (past : Past) : Type 0 where
  pub now : mode_seen past ≡ mode
  pub ring_turn : ring_turn_seen past ≡ Rings
  pub reached : mode_reached mode past.tables (frame_seen past).veh ≡ mode
  pub active : (tick_state_of past).active ≡ 0
  pub counter : (tick_state_of past).counter ≤ (frame_seen past).counter + 1
  pub ahead : GoesAhead (bound mode) past
  pub walks : (p : ℕ) → is_phase p ≡ true → walk_after past mode (frame_seen past).veh p ≡ false
  pub full : (p : ℕ) → lesser_in past.tables mode p ≡ InFull
  pub started : is_start mode ≡ false
  pub beside : is_dwell mode ≡ false

goes-free : (past : Past) → IsFresh past → (frame_seen past).mode ≡ Free → preempts_seen past ≡ [] → StaysFree past → Goes Free past
goes-free past fresh was beside s =
    let none = command-none past fresh s.other s.undefined in
    let mode : mode_seen past ≡ Free =
    free-on past.tables past.version (command_now past) _ past.moments was (sym (seen-is past) ∙ beside) none.0 none.1 in
    let zero : (tick_state_of past).counter ≡ 0 = no-counter past mode in
    record {
      now = mode;
      ring_turn = rings-ring_turn past.tables past.moments (mode_seen past) was mode;
      reached = refl;
      active = ap (λ (m : Mode). active_in past.tables m ((moment_seen past).number + 1) past.asked) mode;
      counter = omega (arith, zero);
      ahead = λ n none. absurd (cc none);
      walks = λ p h.
          no-walk (crossing_seen past Free) Free p (colour_of (frame_seen past) p) (colour_in (frame_seen past).veh p) (signal_of (frame_seen past) p) refl refl
          (ap (λ (o : Option ℕ). (has_walk past.tables p && is_in (pedestrian_seen past) p)
          && ((same_colour (colour_of (frame_seen past) p) Green && not (is_signalling (frame_seen past) p))
          && not (is_in (opposed_with o past) p))) (ap bound mode) ∙ s.uncalled p h);
      full = λ p. refl;
      started = refl;
      beside = refl;
    }

goes-coord : (n j : ℕ) (past : Past) → IsFresh past → (frame_seen past).mode ≡ Coord n → (frame_seen past).version ≡ past.version
    → preempts_seen past ≡ [] → StaysInStep n (suc j) past → Goes (Coord n) past
goes-coord n j past fresh was version beside s =
    let mode : mode_seen past ≡ Coord n = mode-in n j past fresh s was version beside in
    let counter : (tick_state_of past).counter ≡ (frame_seen past).counter + 1 = counter-next n j past fresh s was mode in
    let more : (moment_seen past).number < (moment_seen past).number + 1 = omega arith in
    record {
      now = mode;
      ring_turn = coord-ring_turn past.tables past.moments (mode_seen past) n was mode;
      reached = refl;
      active = ap (λ (m : Mode). active_in past.tables m ((moment_seen past).number + 1) past.asked) mode
          ∙ s.unasked ((moment_seen past).number + 1) more;
      counter = omega (arith, counter);
      ahead = λ k e. omega (arith, counter);
      walks = λ p h.
          no-walk-in n (crossing_seen past (Coord n)) p (colour_of (frame_seen past) p) (signal_of (frame_seen past) p)
          (no-zero (Coord n) (tick_state_of past).counter (frame_seen past).counter (frame_seen past) counter);
      full = λ p. refl;
      started = refl;
      beside = refl;
    }
  where
    coord-ring_turn : (t : Tables) (past : List Moment) (mode : Mode) (n : ℕ) → (last_frame past).mode ≡ Coord n → mode ≡ Coord n → ring_turn_of t past mode ≡ Rings
    coord-ring_turn t past mode n was e = rw (was, e) refl

pub tick-goes : (mode : Mode) (j : ℕ) (past : Past) → Lasts mode (suc j) past → Goes mode past
tick-goes Free j past l = goes-free past l.fresh l.was l.beside l.goes
tick-goes (Coord n) j past l = goes-coord n j past l.fresh l.was l.version l.beside l.goes
tick-goes Start j past l = absurd l.goes
tick-goes (Seek n) j past l = absurd l.goes
tick-goes Ending j past l = absurd l.goes
tick-goes Flash j past l = absurd l.goes
tick-goes (Entry i) j past l = absurd l.goes
tick-goes (Track i) j past l = absurd l.goes
tick-goes (Dwell i) j past l = absurd l.goes
tick-goes (Exit i) j past l = absurd l.goes

-- the tick shows what the last frame shows, with its own counter and target
pub frame-goes : (mode : Mode) (j : ℕ) (past : Past) → Lasts mode (suc j) past
    → (next_moment past).frame ≡ timed true (tick_state_of past).counter (tick_state_of past).target (frame_seen past)
frame-goes mode j past l =
    let g = tick-goes mode j past l in
    let clear : (p : ℕ) → is_phase p ≡ true → is_clearing (frame_seen past).veh p ≡ true
    → runs_on p past.tables past.moments (colour_of (frame_seen past) p) ≡ colour_of (frame_seen past) p =
    λ p h e. colour-stays j p past.tables past.moments (colour_of (frame_seen past) p) (l.phases p h).colour in
    let moves : moves_seen past ≡ no-moves =
    ap (λ (t : RingTurn). moves_of t (view_seen past)) g.ring_turn
    ∙ rings-stay j past (bound mode) (ap bound g.now) g.active g.counter g.ahead l.phases l.some
    (sym (open-empty past (on_in (frame_seen past) 1) clear)) (sym (open-empty past (on_in (frame_seen past) 2) clear)) l.first l.second in
    frame-going past mode l.version l.on l.was g.now g.reached moves l.wide l.long clear
    (λ p h e.
    ap (λ (m : Mode). signal_runs_within (lesser_in past.tables m p) p past.tables past.moments (signal_of (frame_seen past) p)) g.now
    ∙ ap (λ (x : Lesser). signal_runs_within x p past.tables past.moments (signal_of (frame_seen past) p)) (g.full p)
    ∙ signal-stays j p past.tables past.moments (signal_of (frame_seen past) p) (l.phases p h).signal)
    g.walks

-- a frame shows what another shows, with a counter and a target of its own
pub record Alike (f g : Frame) : Type 0 where
  pub veh : f.veh ≡ g.veh
  pub ped : f.ped ≡ g.ped
  pub on : f.on ≡ g.on
  pub mode : f.mode ≡ g.mode
  pub version : f.version ≡ g.version

pub alike-by : (f g : Frame) (counter target : ℕ) → f ≡ timed true counter target g → Alike f g
alike-by f g counter target e = record {
  veh = ap (λ (x : Frame). x.veh) e;
  ped = ap (λ (x : Frame). x.ped) e;
  on = ap (λ (x : Frame). x.on) e;
  mode = ap (λ (x : Frame). x.mode) e;
  version = ap (λ (x : Frame). x.version) e;
}

pub goes-alike : (mode : Mode) (j : ℕ) (past : Past) → Lasts mode (suc j) past → Alike (next_moment past).frame (frame_seen past)
goes-alike mode j past l = alike-by (next_moment past).frame (frame_seen past) _ _ (frame-goes mode j past l)

-- The frame of a tick that is only about Start and Free.
use Rattle.std.proofs.Common.{◌≡◌, ℕ, Bool, true, false, not, ◌&&◌, if◌then◌else◌, List, [], ◌∷◌, map, refl, ◌∙◌, ap}
use Rattle.sig_types.specs.declared.frame.Colour.{Colour}
use Rattle.sig_types.specs.declared.frame.Ped.{Ped}
use Rattle.sig_types.specs.declared.frame.Ped.TheVariants.{Walk}
use Rattle.sig_types.specs.declared.frame.Frame.{Frame}
use Rattle.sig_types.specs.declared.frame.Mode.{Mode}
use Rattle.sig_types.specs.declared.frame.Mode.TheVariants.{Start, Free}
use Rattle.sig_types.specs.Phases.{all_phases}
use Rattle.sig_types.specs.Colour.{is_start, colour_in, colour_of, signal_of}
use Rattle.sig_tables.specs.declared.tables.Tables.{Tables}
use Rattle.sig_tables.specs.Past.{Past}
use Rattle.sig_tables.specs.Looking.{last_frame}
use Rattle.sig_tables.specs.Lesser.{Lesser, signal_runs_within}
use Rattle.sig_tables.specs.Goals.{lesser_in}
use Rattle.sig_tables.specs.Choosing.{leaves_start, mode_reached}
use Rattle.sig_tables.specs.TickState.{tick_state_of}
use Rattle.sig_tables.specs.TickInputs.{TickInputs}
use Rattle.sig_tables.specs.Walking.{Crossing, walk_begins, is_local_zero}
use Rattle.sig_tables.specs.Ticking.{crossing_of, signal_after, on_of, frame_with}
use Rattle.sig_tables.specs.Plain.{RunsPlain, plain_mode}
use Rattle.sig_tables.specs.PlainFrame.{plain_signal, plain_crossing, plain_frame}
use Rattle.sig_tables.proofs.FreeTickState.{mode-plain, counter-plain, target-plain, stage-plain, lesser-unstaged}

-- Start and Free are reached as they are sought
reached-as : (t : Tables) (veh : List Colour) (a : Bool) → mode_reached (if a then Start else Free) t veh ≡ (if a then Start else Free)
reached-as t veh true = refl
reached-as t veh false = refl

pub reached-plain : (past : Past) (veh : List Colour) → RunsPlain past → mode_reached (tick_state_of past).mode past.tables veh ≡ plain_mode past.moments
reached-plain past veh r = ap (λ (m : Mode). mode_reached m past.tables veh) (mode-plain past r) ∙ reached-as past.tables veh _

-- and are not local zero
zero-not : (a : Bool) (counter : ℕ) (f : Frame) → is_local_zero (if a then Start else Free) counter f ≡ false
zero-not true counter f = refl
zero-not false counter f = refl

-- what decides the walks, by whether the frame is a local zero
abbrev crossing_by : Past → TickInputs → Bool → Crossing
crossing_by past tick_inputs zero = record {
  ring_turn = (tick_state_of past).ring_turn;
  tables = past.tables;
  is_zero = zero;
  pedestrian = tick_inputs.calls.pedestrian;
  opposed = tick_inputs.opposed;
}

-- the signal by the mode of the frame, whether it is a local zero, and the smaller times
abbrev signal_by : Past → TickInputs → List Colour → Mode → Bool → ℕ → Lesser → Ped
signal_by past tick_inputs veh mode zero p lesser =
    if walk_begins (crossing_by past tick_inputs zero) mode p (colour_of (last_frame past.moments) p) (colour_in veh p) (signal_of (last_frame past.moments) p)
    then Walk
    else signal_runs_within lesser p past.tables past.moments (signal_of (last_frame past.moments) p)

-- the signals are those of Start and Free
pub signals-plain : (past : Past) (tick_inputs : TickInputs) (veh : List Colour) → RunsPlain past → (p : ℕ)
    → signal_after (tick_state_of past) past (crossing_of (tick_state_of past) past tick_inputs (mode_reached (tick_state_of past).mode past.tables veh)) veh (mode_reached (tick_state_of past).mode past.tables veh) p
    ≡ plain_signal (plain_crossing (tick_state_of past).ring_turn past tick_inputs.calls.pedestrian tick_inputs.opposed) past veh p
signals-plain past tick_inputs veh r p =
    ap (λ (m : Mode). signal_by past tick_inputs veh m (is_local_zero m (tick_state_of past).counter (last_frame past.moments)) p (lesser_in past.tables (tick_state_of past).mode p))
    (reached-plain past veh r)
    ∙ ap (λ (z : Bool). signal_by past tick_inputs veh (plain_mode past.moments) z p (lesser_in past.tables (tick_state_of past).mode p))
    (zero-not (is_start (last_frame past.moments).mode && not (leaves_start past.moments)) (tick_state_of past).counter (last_frame past.moments))
    ∙ ap (λ (l : Lesser). signal_by past tick_inputs veh (plain_mode past.moments) false p l)
    (lesser-unstaged past.tables (tick_state_of past).mode p (stage-plain past r))

abbrev made : List Colour → List Ped → List ℕ → Mode → ℕ → ℕ → ℕ → Frame
made veh ped on mode counter target version =
    record { veh = veh; ped = ped; on = on; mode = mode; counter = counter; target = target; version = version }

frame-of : (veh : List Colour) (ped ped' : List Ped) (on : List ℕ) (mode mode' : Mode) (counter target version : ℕ) → ped ≡ ped' → mode ≡ mode' → counter ≡ 0 → target ≡ 0
    → made veh ped on mode counter target version ≡ made veh ped' on mode' 0 0 version
frame-of veh ped ped' on mode mode' counter target version e f g h = rw (e, f, g, h) refl

-- and so is the frame
pub frame-plain : (past : Past) (tick_inputs : TickInputs) (veh : List Colour) → RunsPlain past
    → frame_with (tick_state_of past) past tick_inputs veh ≡ plain_frame (plain_crossing (tick_state_of past).ring_turn past tick_inputs.calls.pedestrian tick_inputs.opposed) past veh
frame-plain past tick_inputs veh r =
    frame-of veh _ _ (on_of past.tables veh 1 ∷ on_of past.tables veh 2 ∷ []) _ _ _ _ past.version
    (ap (λ (f : ℕ → Ped). map f all_phases) (λ i p. signals-plain past tick_inputs veh r p i))
    (reached-plain past veh r) (counter-plain past r) (target-plain past r)

-- The pedestrian signals and the frame of a plain tick (its mode is Start or Free).
use Rattle.std.specs.Prelude.{ℕ, false, if◌then◌else◌, List, [], ◌∷◌, map}
use Rattle.sig_types.specs.declared.frame.Colour.{Colour}
use Rattle.sig_types.specs.declared.frame.Ped.{Ped}
use Rattle.sig_types.specs.declared.frame.Ped.TheVariants.{Walk}
use Rattle.sig_types.specs.declared.frame.Frame.{Frame}
use Rattle.sig_types.specs.Phases.{all_phases}
use Rattle.sig_types.specs.Colour.{colour_in, colour_of, signal_of}
use Rattle.sig_tables.specs.Past.{Past}
use Rattle.sig_tables.specs.Looking.{last_frame, signal_runs_on}
use Rattle.sig_tables.specs.TickState.{RingTurn}
use Rattle.sig_tables.specs.Walking.{Crossing, walk_begins}
use Rattle.sig_tables.specs.Ticking.{on_of}
use Rattle.sig_tables.specs.Plain.{plain_mode}

-- the pedestrian signal of phase p with these colours: Walk if a walk begins, otherwise the signal that follows the
-- last one
abbrev pub plain_signal : Crossing → Past → List Colour → ℕ → Ped
plain_signal crossing past veh p =
    if walk_begins crossing (plain_mode past.moments) p (colour_of (last_frame past.moments) p) (colour_in veh p) (signal_of (last_frame past.moments) p)
    then Walk
    else signal_runs_on p past.tables past.moments (signal_of (last_frame past.moments) p)

-- the values that decide which walks begin at a plain tick, which is never a local zero
abbrev pub plain_crossing : RingTurn → Past → List ℕ → List ℕ → Crossing
plain_crossing ring_turn past pedestrian opposed = record {
  ring_turn = ring_turn;
  tables = past.tables;
  is_zero = false;
  pedestrian = pedestrian;
  opposed = opposed;
}

-- the frame of a plain tick with these colours
abbrev pub plain_frame : Crossing → Past → List Colour → Frame
plain_frame crossing past veh = record {
  veh = veh;
  ped = map (plain_signal crossing past veh) all_phases;
  on = on_of past.tables veh 1 ∷ on_of past.tables veh 2 ∷ [];
  mode = plain_mode past.moments;
  counter = 0;
  target = 0;
  version = past.version;
}

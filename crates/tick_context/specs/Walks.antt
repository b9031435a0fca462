-- Which walks begin at a tick, and the pedestrian signals after it.
use Rattle.std.specs.Prelude.{ℕ, Bool, List}
use Rattle.sig_types.specs.declared.frame.Colour.{Colour}
use Rattle.sig_types.specs.declared.frame.Ped.{Ped}
use Rattle.sig_types.specs.declared.frame.Mode.{Mode}
use Rattle.sig_types.specs.Colour.{colour_in, colour_of, signal_of}
use Rattle.sig_tables.specs.Past.{Past}
use Rattle.sig_tables.specs.TickState.{tick_state_of}
use Rattle.sig_tables.specs.Walking.{Crossing, walk_begins}
use Rattle.sig_tables.specs.Ticking.{crossing_of}
use Rattle.sig_tables.specs.Lesser.{signal_runs_within}
use Rattle.sig_tables.specs.Goals.{lesser_in}
use Rattle.sig_tables.specs.Seen.{frame_seen, mode_seen, tick_inputs_seen}

-- the values that decide which walks begin at the next tick, whose frame is of this mode
abbrev pub crossing_seen : Past → Mode → Crossing
crossing_seen past mode = crossing_of (tick_state_of past) past (tick_inputs_seen past) mode

-- Walk begins on phase p at the next tick, with these colours, in a frame of this mode
abbrev pub walk_after : Past → Mode → List Colour → ℕ → Bool
walk_after past mode veh p =
    walk_begins (crossing_seen past mode) mode p (colour_of (frame_seen past) p) (colour_in veh p) (signal_of (frame_seen past) p)

-- the pedestrian signal of phase p that follows the last one, shortened if p makes way for a preempt
abbrev pub signal_seen : Past → ℕ → Ped
signal_seen past p =
    signal_runs_within (lesser_in past.tables (mode_seen past) p) p past.tables past.moments (signal_of (frame_seen past) p)

-- When a walk begins.
use Rattle.std.specs.Prelude.{ℕ, ◌==◌, ◌&&◌, ◌||◌, not, nat_le, Bool, false, List, Some}
use Rattle.sig_types.specs.declared.frame.Colour.{Colour}
use Rattle.sig_types.specs.declared.frame.Colour.TheVariants.{Green, Red}
use Rattle.sig_types.specs.declared.frame.Ped.{Ped}
use Rattle.sig_types.specs.declared.frame.Ped.TheVariants.{Dont}
use Rattle.sig_types.specs.declared.frame.Mode.{Mode}
use Rattle.sig_types.specs.declared.frame.Mode.TheVariants.{Free, Seek, Coord}
use Rattle.sig_types.specs.declared.frame.Frame.{Frame}
use Rattle.sig_types.specs.Phases.{is_in}
use Rattle.sig_tables.specs.declared.tables.Tables.{Tables}
use Rattle.sig_tables.specs.Tables.{row, has_pedestrian_recall, starts_with_walk}
use Rattle.sig_tables.specs.Slots.{is_coordinated}
use Rattle.sig_tables.specs.Splits.{split_pedestrian, keeps_walk}
use Rattle.sig_tables.specs.Modes.{same_mode}
use Rattle.sig_tables.specs.TickState.{RingTurn, Rest, StartUp, Rings, Goal}

-- a frame of this mode with this counter is a local zero: the mode is Coord, the counter is 0, and the frame before it
-- has another counter or isn't in Coord of the pattern
abbrev pub is_local_zero : Mode → ℕ → Frame → Bool
is_local_zero (Coord n) counter f = counter == 0 && (not (f.counter == 0) || not (same_mode f.mode (Coord n)))
is_local_zero mode counter f = false

-- the values that decide which walks begin at a tick: what the rings do, the tables in force, whether the frame is a
-- local zero, the pedestrian calls, and the Green phases for which a conflicting phase has demand
pub record Crossing : Type 0 where
  pub ring_turn : RingTurn
  pub tables : Tables
  pub is_zero : Bool
  pub pedestrian : List ℕ
  pub opposed : List ℕ

-- Walk begins on phase p together with its Green, by a call, recall or start-up with walk
abbrev pub walks_at_green : RingTurn → Tables → List ℕ → ℕ → Bool
walks_at_green StartUp t pedestrian p = is_in pedestrian p || has_pedestrian_recall t p || starts_with_walk t p
walks_at_green Rings t pedestrian p = is_in pedestrian p || has_pedestrian_recall t p
walks_at_green (Goal goal) t pedestrian p = is_in pedestrian p || has_pedestrian_recall t p
walks_at_green Rest t pedestrian p = false

-- phase p has a walk
abbrev pub has_walk : Tables → ℕ → Bool
has_walk t p = nat_le 1 (row t p).walk

-- Walk begins on phase p, by the mode of the frame (a pickup counts as Coord), the colours before and after the tick,
-- and the pedestrian signal before it. Walk begins with the phase's Green in Free, Seek and Coord. During a Green, it
-- begins in Free if no conflicting phase has demand, and in Coord if the phase is coordinated and this is a local zero.
-- The phase needs a walk time, and a pedestrian call, a pedestrian recall (not during a Green in Free) or a start-up
-- with walk
abbrev pub walk_begins : Crossing → Mode → ℕ → Colour → Colour → Ped → Bool
walk_begins c Free p Red Green signal = has_walk c.tables p && walks_at_green c.ring_turn c.tables c.pedestrian p
walk_begins c (Seek n) p Red Green signal = has_walk c.tables p && walks_at_green c.ring_turn c.tables c.pedestrian p
walk_begins c (Coord n) p Red Green signal =
    has_walk c.tables p && (walks_at_green c.ring_turn c.tables c.pedestrian p || split_pedestrian c.tables n p)
walk_begins c Free p Green Green Dont = has_walk c.tables p && is_in c.pedestrian p && not (is_in c.opposed p)
walk_begins c (Coord n) p Green Green Dont =
    c.is_zero && has_walk c.tables p && is_coordinated c.tables n p && (is_in c.pedestrian p || keeps_walk (Some n) c.tables p)
walk_begins c mode p before after signal = false

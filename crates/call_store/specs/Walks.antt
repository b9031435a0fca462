-- What a tick sees of the phases on which Walk may begin.
use Rattle.std.specs.Prelude.{ℕ, ◌≡◌, ◌&&◌, Bool, true, false, List, Option, Some}
use Rattle.std.specs.Borrow.{Bor}
use Rattle.sig_types.specs.declared.frame.Colour.{Colour}
use Rattle.sig_types.specs.declared.frame.Colour.TheVariants.{Green, Red}
use Rattle.sig_types.specs.declared.frame.Ped.TheVariants.{Dont}
use Rattle.sig_types.specs.declared.frame.Mode.{Mode}
use Rattle.sig_types.specs.declared.frame.Mode.TheVariants.{Free, Seek, Coord}
use Rattle.sig_types.specs.declared.frame.Frame.{Frame}
use Rattle.sig_types.specs.Phases.{is_phase, is_in}
use Rattle.sig_types.specs.PhaseSet.{has}
use Rattle.sig_types.specs.Colour.{same_colour, same_signal, colour_in, colour_of, signal_of}
use Rattle.sig_tables.specs.declared.tables.Tables.{Tables}
use Rattle.sig_tables.specs.TickState.{RingTurn, Rest, StartUp, Rings, Goal}
use Rattle.sig_tables.specs.Walking.{Crossing}
use Rattle.sig_tables.specs.Layout.{Has}
use Rattle.pattern_plan.specs.declared.split_options.SplitOptions.{SplitOptions}
use Rattle.pattern_plan.specs.Options.{AreActivePattern}
use Rattle.call_store.specs.declared.crossing.Greens.{Greens}
use Rattle.call_store.specs.declared.crossing.Greens.TheVariants.{Rest as NoGreens, StartUp as StartUpGreens, Rings as RingGreens}
use Rattle.call_store.specs.declared.crossing.Crosswalks.{Crosswalks}

-- Walk may begin in a frame of this mode: Free, Seek or Coord
abbrev pub may_walk : Mode → Bool
may_walk Free = true
may_walk (Seek n) = true
may_walk (Coord n) = true
may_walk _ = false

-- the greens that begin, by what the rings do
abbrev pub greens_of : RingTurn → Greens
greens_of Rest = NoGreens
greens_of StartUp = StartUpGreens
greens_of Rings = RingGreens
greens_of (Goal goal) = RingGreens

-- in a frame of Coord the options are those of the pattern's split; in other modes any options are allowed
abbrev pub SaysInCoord : Option (Bor SplitOptions) → Mode → Tables → Type 0
SaysInCoord options (Coord n) t = AreActivePattern options (Some n) t
SaysInCoord options mode t = Unit {0}

-- the crosswalks are those between the last frame and these colours, with the pedestrian calls and the turn of the
-- crossing. Of the phases that were Green, the opposed ones are those of the crossing
pub record ShowsCrossing (s : Crosswalks) (crossing : Crossing) (f : Frame) (veh : List Colour) : Type 0 where
  pub begins : Has s.begins (λ p. same_colour (colour_of f p) Red && same_colour (colour_in veh p) Green)
  pub rests : Has s.rests
      (λ p. same_colour (colour_of f p) Green && same_colour (colour_in veh p) Green && same_signal (signal_of f p) Dont)
  pub called : Has s.called (is_in crossing.pedestrian)
  pub opposed : (p : ℕ) → is_phase p ≡ true → same_colour (colour_of f p) Green ≡ true → has s.opposed p ≡ is_in crossing.opposed p
  pub greens : s.greens ≡ greens_of crossing.ring_turn
  pub is_zero : s.is_zero ≡ crossing.is_zero

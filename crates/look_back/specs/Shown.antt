-- The colours and pedestrian signals of a frame as sets of phases.
use Rattle.std.specs.Prelude.{ℕ, ◌≡◌, ◌-◌, List, length, get_or}
use Rattle.sig_types.specs.declared.frame.Colour.{Colour}
use Rattle.sig_types.specs.declared.frame.Colour.TheVariants.{Green, Yellow, Clear, Red}
use Rattle.sig_types.specs.declared.frame.Ped.{Ped}
use Rattle.sig_types.specs.declared.frame.Ped.TheVariants.{Walk, Flash, Dont}
use Rattle.sig_types.specs.declared.phase_set.PhaseSet.{PhaseSet}
use Rattle.sig_types.specs.Colour.{same_colour, same_signal, colour_in}
use Rattle.sig_tables.specs.Layout.{Has}
use Rattle.look_back.specs.declared.shown.Shown.{Shown}

-- the phases that show a colour
abbrev pub in_colour : Shown → Colour → PhaseSet
in_colour s Green = s.green
in_colour s Yellow = s.yellow
in_colour s Clear = s.clear
in_colour s Red = s.red

-- the phases that show a pedestrian signal
abbrev pub in_signal : Shown → Ped → PhaseSet
in_signal s Walk = s.walk
in_signal s Flash = s.flash
in_signal s Dont = s.dont

-- the entry of phase p in a list of signals; Walk if the list is too short
abbrev pub signal_in : List Ped → ℕ → Ped
signal_in ped p = get_or ped (p - 1) Walk

-- the sets are those of these colours and signals of sixteen phases
pub record IsShown (s : Shown) (veh : List Colour) (ped : List Ped) : Type 0 where
  pub wide : length veh ≡ 16
  pub colours : (colour : Colour) → Has (in_colour s colour) (λ p. same_colour (colour_in veh p) colour)
  pub signals : (signal : Ped) → Has (in_signal s signal) (λ p. same_signal (signal_in ped p) signal)

-- the sets of two frames are the same for each colour
pub record ShowsSame (a b : Shown) : Type 0 where
  pub green : a.green ≡ b.green
  pub yellow : a.yellow ≡ b.yellow
  pub clear : a.clear ≡ b.clear
  pub red : a.red ≡ b.red

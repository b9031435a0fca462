-- The sets of a frame are those of its colours and signals.
use Rattle.std.proofs.Common.{◌≡◌, ◌<◌, ◌≤◌, ℕ, List, length}
use Rattle.sig_types.specs.declared.frame.Colour.{Colour}
use Rattle.sig_types.specs.declared.frame.Colour.TheVariants.{Green, Yellow, Clear, Red}
use Rattle.sig_types.specs.declared.frame.Ped.{Ped}
use Rattle.sig_types.specs.declared.frame.Ped.TheVariants.{Walk, Flash, Dont}
use Rattle.sig_types.specs.declared.phase_set.PhaseSet.{PhaseSet}
use Rattle.sig_types.specs.PhaseSet.{has}
use Rattle.sig_types.specs.Colour.{same_colour, same_signal, colour_in}
use Rattle.sig_types.proofs.Lists.{phase-in}
use Rattle.sig_tables.specs.Layout.{Has}
use Rattle.look_back.specs.declared.shown.Shown.{Shown}
use Rattle.look_back.specs.Shown.{IsShown, in_colour, in_signal, signal_in}

-- the set has the phases that show the colour
abbrev pub InColour : PhaseSet → List Colour → Colour → Type 0
InColour s veh colour = (p : ℕ) → 0 < p → p ≤ 16 → has s p ≡ same_colour (colour_in veh p) colour

-- the set has the phases that show the signal
abbrev pub InSignal : PhaseSet → List Ped → Ped → Type 0
InSignal s ped signal = Has s (λ p. same_signal (signal_in ped p) signal)

of-phases : (s : PhaseSet) (veh : List Colour) (colour : Colour) → InColour s veh colour → Has s (λ p. same_colour (colour_in veh p) colour)
of-phases s veh colour h p is = h p (phase-in p is).0 (phase-in p is).1

in-each : (s : Shown) (veh : List Colour) → InColour s.green veh Green → InColour s.yellow veh Yellow → InColour s.clear veh Clear
    → InColour s.red veh Red → (colour : Colour) → Has (in_colour s colour) (λ p. same_colour (colour_in veh p) colour)
in-each s veh green yellow clear red Green = of-phases s.green veh Green green
in-each s veh green yellow clear red Yellow = of-phases s.yellow veh Yellow yellow
in-each s veh green yellow clear red Clear = of-phases s.clear veh Clear clear
in-each s veh green yellow clear red Red = of-phases s.red veh Red red

on-each : (s : Shown) (ped : List Ped) → InSignal s.walk ped Walk → InSignal s.flash ped Flash → InSignal s.dont ped Dont
    → (signal : Ped) → Has (in_signal s signal) (λ p. same_signal (signal_in ped p) signal)
on-each s ped walk flash dont Walk = walk
on-each s ped walk flash dont Flash = flash
on-each s ped walk flash dont Dont = dont

pub is-shown : (s : Shown) (veh : List Colour) (ped : List Ped) → length veh ≡ 16
    → InColour s.green veh Green → InColour s.yellow veh Yellow → InColour s.clear veh Clear → InColour s.red veh Red
    → InSignal s.walk ped Walk → InSignal s.flash ped Flash → InSignal s.dont ped Dont → IsShown s veh ped
is-shown s veh ped wide green yellow clear red walk flash dont = record {
  wide = wide;
  colours = in-each s veh green yellow clear red;
  signals = on-each s ped walk flash dont;
}

-- The frames of a controller name phases, or nothing.
use Rattle.std.proofs.Common.{◌≡◌, ◌≤◌, ℕ, not, ◌&&◌, ◌==◌, List, [], ◌∷◌, length, refl}
use Rattle.sig_types.specs.declared.frame.Colour.{Colour}
use Rattle.sig_types.specs.declared.frame.Colour.TheVariants.{Red}
use Rattle.sig_types.specs.declared.frame.Frame.{Frame}
use Rattle.sig_types.specs.Phases.{all_phases, first}
use Rattle.sig_types.specs.Colour.{same_colour, colour_in}
use Rattle.sig_types.proofs.Sets.{listed-phase}
use Rattle.sig_types.proofs.Members.{first-within}
use Rattle.sig_tables.specs.declared.tables.Tables.{Tables}
use Rattle.sig_tables.specs.Tables.{ring_of, is_enabled}
use Rattle.sig_tables.specs.Ticking.{on_of}
use Rattle.sig_tables.proofs.Below.{is-within}
use Rattle.sig_tables.specs.Past.{Moment}
use Rattle.sig_tables.specs.Looking.{last_frame}
use Rattle.preempt_stages.specs.Dwelling.{NamesPhases, EachFits}

on-within : (t : Tables) (veh : List Colour) (r : ℕ) → on_of t veh r ≤ 16
on-within t veh r = first-within (λ p. is_enabled t p && ring_of t p == r && not (same_colour (colour_in veh p) Red)) all_phases (λ q i. is-within q (listed-phase q i))

pub names-phases : (f : Frame) (t : Tables) (veh : List Colour) → f.on ≡ on_of t veh 1 ∷ on_of t veh 2 ∷ [] → NamesPhases f
names-phases f t veh e = record {
  first = rw e (on-within t veh 1);
  second = rw e (on-within t veh 2);
}

-- the last frame shows sixteen phases
pub last-wide : (past : List Moment) → EachFits past → length (last_frame past).veh ≡ 16
last-wide [] fits = refl
last-wide (m ∷ past) fits = fits.0

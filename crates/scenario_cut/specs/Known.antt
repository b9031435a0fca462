-- The lists of a scenario that one reading of its text searches for, and what is known about each: either the
-- cabinets, or the lists of the rounds.
use Rattle.std.specs.Prelude.{ℕ, ◌≡◌, ◌||◌, Bool, true, false, if◌then◌else◌, List, Option, Some, None, is_some, bytes_eq}
use Rattle.serde_json.specs.Data.{Data}
use Rattle.serde_json.specs.Find.{get}
use Rattle.scenario_cut.specs.Judging.{name_of, TellsIn}
use Rattle.scenario_cut.specs.declared.judge.Listing.{Listing}
use Rattle.scenario_cut.specs.declared.judge.Listing.TheVariants.{Cabinets, Inputs, Loads, Priority, Frames, Faults}
use Rattle.scenario_cut.specs.declared.listing.ListVerdict.{ListVerdict}
use Rattle.scenario_cut.specs.declared.named.Group.{Group}
use Rattle.scenario_cut.specs.declared.named.Group.TheVariants.{Cabinets as OfCabinets, Events as OfEvents}
use Rattle.scenario_cut.specs.declared.named.Known.{Known}
use Rattle.scenario_cut.specs.declared.named.Search.{Search}

-- the list is in this group
abbrev pub is_in : Group → Listing → Bool
is_in OfCabinets Cabinets = true
is_in OfCabinets Inputs = false
is_in OfCabinets Loads = false
is_in OfCabinets Priority = false
is_in OfCabinets Frames = false
is_in OfCabinets Faults = false
is_in OfEvents Cabinets = false
is_in OfEvents Inputs = true
is_in OfEvents Loads = true
is_in OfEvents Priority = true
is_in OfEvents Frames = true
is_in OfEvents Faults = true

-- the scenario has this list
abbrev pub stands : Listing → Data → Bool
stands l d = is_some (get (name_of l) d)

-- the scenario has a list of this group
abbrev pub any_stands : Group → Data → Bool
any_stands OfCabinets d = stands Cabinets d
any_stands OfEvents d = stands Inputs d || (stands Loads d || (stands Priority d || (stands Frames d || stands Faults d)))

-- this list if it has this name, otherwise the other
abbrev pub if_named : List ℕ → Listing → Option Listing → Option Listing
if_named name l other = if bytes_eq name (name_of l) then Some l else other

-- the list of this group with this name, if there is one
abbrev pub list_named : Group → List ℕ → Option Listing
list_named OfCabinets name = if_named name Cabinets None
list_named OfEvents name = if_named name Inputs (if_named name Loads (if_named name Priority (if_named name Frames (if_named name Faults None))))

-- what is known about a list
abbrev pub told_of : Listing → Known → ListVerdict
told_of Cabinets known = known.cabinets
told_of Inputs known = known.inputs
told_of Loads known = known.loads
told_of Priority known = known.priority
told_of Frames known = known.frames
told_of Faults known = known.faults

-- what is known, with this verdict on one list
abbrev pub with_told : Listing → ListVerdict → Known → Known
with_told l told known = record {
  cabinets = if bytes_eq (name_of l) (name_of Cabinets) then told else known.cabinets;
  inputs = if bytes_eq (name_of l) (name_of Inputs) then told else known.inputs;
  loads = if bytes_eq (name_of l) (name_of Loads) then told else known.loads;
  priority = if bytes_eq (name_of l) (name_of Priority) then told else known.priority;
  frames = if bytes_eq (name_of l) (name_of Frames) then told else known.frames;
  faults = if bytes_eq (name_of l) (name_of Faults) then told else known.faults;
}

-- the lists of the group were checked in a scenario
abbrev pub Knows : Search → Known → Data → Type 0
Knows search known d = (l : Listing) → is_in search.group l ≡ true → TellsIn l search.extent (told_of l known) d

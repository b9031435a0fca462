-- What was found at the names of a field file, and the members in which it was found.
use Rattle.std.specs.Prelude.{ℕ, ◌≡◌, List, [], ◌∷◌, codes, Option, Some, None}
use Rattle.serde_json.specs.Data.{Data, array, Items, no_items, Members, put}
use Rattle.serde_json.specs.Find.{get_member}
use Rattle.scenario_data.specs.Content.{scenario_content}
use Rattle.scenario_read.specs.Fields.{unknown_faults, object_of}
use Rattle.scenario_read.specs.Content.{scenario_of}
use Rattle.scenario_read.specs.Faults.{faults}
use Rattle.scenario_file.specs.declared.source.Source.{Source}
use Rattle.scenario_file.specs.Listing.{list_path}
use Rattle.scenario_file.specs.Source.{Writes}
use Rattle.field_read.specs.declared.respond.Respond.{Respond}
use Rattle.field_read.specs.Table.{respond_shape}
use Rattle.field_read.specs.Content.{respond_content, respond_of}
use Rattle.field_read.specs.declared.found.Found.{Found}
use Rattle.field_read.specs.declared.found.Found.TheVariants.{Bank, Pulses}
use Rattle.field_read.specs.declared.parts.Parts.{Parts}
use Rattle.field_read.specs.Lists.{Holds, name_of}

-- the names that are allowed in a field file
abbrev pub known : List (List ℕ)
known = codes "scenario" ∷ codes "bank" ∷ codes "pulses" ∷ codes "respond" ∷ []

-- the source is the scenario that the value describes; the value has no fault
pub record SaysScenario (source : Source) (d : Data) : Type 0 where
  pub clean : faults d ≡ []
  pub said : scenario_content source.scenario ≡ scenario_of d
  pub text : Writes source.text d

-- these are the rules that the value describes; the value has no fault
pub record SaysRespond (respond : Respond) (d : Data) : Type 0 where
  pub clean : object_of respond_shape (list_path (codes "respond")) d ≡ []
  pub said : respond_content respond ≡ respond_of d

-- what was found at a name is what the value at this name describes; nothing was found if there is no value
abbrev pub IsAt : {A : Type 0} → (A → Data → Type 0) → Option A → Option Data → Type 0
IsAt Says None o = o ≡ None
IsAt Says (Some a) o = (d : Data) × (o ≡ Some d) × Says a d

-- the value at a name is the list of these items; if there is no value, there are no items
abbrev pub IsList : Option Data → Items → Type 0
IsList None ds = ds ≡ no_items
IsList (Some d) ds = d ≡ array ds

-- what was found for a list agrees with these members
pub record ListStands (found : Found) (ms : Members) : Type 0 where
  pub items : Items
  pub held : IsList (get_member (name_of found) ms) items
  pub holds : Holds found items

-- what was found agrees with these members, which have no unknown names
pub record PartsStand (parts : Parts) (ms : Members) : Type 0 where
  pub names : unknown_faults known [] ms ≡ []
  pub scenario : IsAt SaysScenario parts.scenario (get_member (codes "scenario") ms)
  pub bank : ListStands (Bank parts.bank) ms
  pub pulses : ListStands (Pulses parts.pulses) ms
  pub respond : IsAt SaysRespond parts.respond (get_member (codes "respond") ms)

-- after a value was read at a name, what was found agrees with the members that have this value
abbrev pub Puts : Parts → Parts → List ℕ → Data → Type 0
Puts old new name d = (ms : Members) → PartsStand old ms → PartsStand new (put name d ms)

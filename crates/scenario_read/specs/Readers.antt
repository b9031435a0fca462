-- What each reader of a part of a scenario answers.
use Rattle.std.specs.Prelude.{ℕ, ◌≡◌, List, [], ◌∷◌, Result, Ok, Err, codes, map, String}
use Rattle.std.specs.declared.alloc.Global.{Global}
use Rattle.serde_json.specs.Data.{Data, null, boolean, number, string, array, object}
use Rattle.scenario_data.specs.declared.refusal.Refusal.{Refusal}
use Rattle.scenario_data.specs.declared.refusal.Refusal.TheVariants.{Field as FieldRefusal, Limit as LimitRefusal}
use Rattle.scenario_data.specs.declared.refusal.ReadFail.{ReadFail}
use Rattle.scenario_data.specs.declared.refusal.ReadFail.TheVariants.{Refused, NoMemory}
use Rattle.scenario_data.specs.declared.scenario.LoadItem.{LoadItem}
use Rattle.scenario_data.specs.Causes.{Cause, Names}
use Rattle.scenario_data.specs.Content.{ScenarioContent, cabinet_content, master_content, load_content, frame_content}
use Rattle.scenario_read.specs.declared.place.List.{List as TopList}
use Rattle.scenario_read.specs.declared.place.List.TheVariants.{Cabinets, Inputs, Loads, Priority, Frames, Faults}
use Rattle.scenario_read.specs.declared.place.Place.{Place}
use Rattle.scenario_read.specs.declared.place.Place.TheVariants.{Top, Master, Entry, Listed, Cell}
use Rattle.scenario_read.specs.declared.events.Events.{Events}
use Rattle.scenario_read.specs.declared.scenario.Parts.{Parts}
use Rattle.scenario_read.specs.declared.setup.Setup.{Setup}
use Rattle.scenario_read.specs.declared.values.Unfit.{Unfit}
use Rattle.scenario_read.specs.declared.values.Unfit.TheVariants.{Wrong as WrongValue, Beyond as BeyondValue}
use Rattle.scenario_read.specs.Paths.{Step, Named, Item}
use Rattle.scenario_read.specs.Kinds.{Fit, Fits, Wrong, Beyond, fault_at}
use Rattle.scenario_read.specs.Fields.{unknown_faults, held}
use Rattle.scenario_read.specs.Table.{rounds, ticks, community, cabinets, master, inputs, loads, priority, frames, link_faults}
use Rattle.scenario_read.specs.Content.{number_at, text_of, list_in, cabinet_of, master_of, input_of, load_of, priority_of, frame_of, fault_of, events_at, version_number, round_count, cabinet_count}
use Rattle.scenario_read.specs.Faults.{first_cause}

-- the name of a list in a scenario
abbrev pub list_name : TopList → List ℕ
list_name Cabinets = codes "cabinets"
list_name Inputs = codes "inputs"
list_name Loads = codes "loads"
list_name Priority = codes "priority"
list_name Frames = codes "frames"
list_name Faults = codes "faults"

-- the path of a place in a scenario
abbrev pub steps_of : Place → List Step
steps_of Top = []
steps_of Master = Named (codes "master") ∷ []
steps_of (Entry entry) = Named (codes "master") ∷ Named (codes "schedule") ∷ Item entry ∷ []
steps_of (Listed list place) = Named (list_name list) ∷ Item place ∷ []
steps_of (Cell list place cell) = Named (list_name list) ∷ Item place ∷ Named (codes "cells") ∷ Item cell ∷ []

-- how a value fits that a reader refused
abbrev pub fit_of : Unfit → Fit
fit_of WrongValue = Wrong
fit_of BeyondValue = Beyond

-- the refusal of a value at a path
abbrev pub refusal_at : String Global → Unfit → Refusal
refusal_at path WrongValue = FieldRefusal path
refusal_at path BeyondValue = LimitRefusal path

-- the answer to a value that fits like this. If the value is read, it fits, and `Is` holds for the result; if it is
-- refused, the refusal says how it fits
abbrev pub ReadAs : {A : Type 0} → Result A Unfit → Fit → (A → Type 0) → Type 0
ReadAs (Ok a) fit Is = (fit ≡ Fits) × Is a
ReadAs (Err unfit) fit Is = fit ≡ fit_of unfit

-- the refusal names the first of these faults, or memory ran out
abbrev pub Refuses : ReadFail → List Cause → Type 0
Refuses (Refused refusal) causes = Names refusal (first_cause causes)
Refuses NoMemory causes = Unit {0}

-- the answer to a value with these faults. If the value is read, it has no faults, and `Is` holds for the result. If
-- it isn't read, the refusal names the first fault, or memory ran out
abbrev pub Answers : {A : Type 0} → Result A ReadFail → List Cause → (A → Type 0) → Type 0
Answers (Ok a) causes Is = (causes ≡ []) × Is a
Answers (Err fail) causes Is = Refuses fail causes

-- the faults of unknown names in an object; every other value is of the wrong kind
abbrev pub names_faults : List (List ℕ) → List Step → Data → List Cause
names_faults known path null = fault_at path Wrong
names_faults known path (boolean b) = fault_at path Wrong
names_faults known path (number n) = fault_at path Wrong
names_faults known path (string s) = fault_at path Wrong
names_faults known path (array ds) = fault_at path Wrong
names_faults known path (object ms) = unknown_faults known path ms

-- the cabinet of each load
abbrev pub load_cabinets : List LoadItem → List ℕ
load_cabinets loads = map (λ load. load.cabinet) loads

-- what was read about the whole run is what the value describes, in a scenario of this version
pub record SaysSetup (setup : Setup) (version : ℕ) (d : Data) : Type 0 where
  pub rounds : setup.rounds ≡ number_at rounds d
  pub ticks : setup.ticks ≡ number_at ticks d
  pub community : setup.community.items ≡ text_of (held community d)
  pub cabinets : map cabinet_content setup.cabinets.items ≡ list_in (cabinet_of version) (held (cabinets version) d)
  pub master : master_content setup.master ≡ master_of (held master d)

-- what was read about the rounds is what the value describes, in a scenario with this many rounds and cabinets
pub record SaysEvents (events : Events) (rounds cabinets : ℕ) (d : Data) : Type 0 where
  pub inputs : events.inputs.items ≡ events_at inputs input_of rounds cabinets d
  pub loads : map load_content events.loads.items ≡ events_at loads load_of rounds cabinets d
  pub priority : events.priority.items ≡ events_at priority priority_of rounds cabinets d
  pub frames : map frame_content events.frames.items ≡ events_at frames frame_of rounds cabinets d
  pub faults : events.faults.items ≡ events_at link_faults fault_of rounds cabinets d

-- what was read is what the value describes
pub record Says (parts : Parts) (d : Data) : Type 0 where
  pub version : parts.version ≡ version_number d
  pub setup : SaysSetup parts.setup (version_number d) d
  pub events : SaysEvents parts.events (round_count d) (cabinet_count d) d

-- the content of the scenario with these parts and this compact text
abbrev pub content_from : Parts → List ℕ → ScenarioContent
content_from parts compact = record {
  version = parts.version;
  rounds = parts.setup.rounds;
  ticks = parts.setup.ticks;
  community = parts.setup.community.items;
  cabinets = map cabinet_content parts.setup.cabinets.items;
  master = master_content parts.setup.master;
  inputs = parts.events.inputs.items;
  loads = map load_content parts.events.loads.items;
  priority = parts.events.priority.items;
  frames = map frame_content parts.events.frames.items;
  faults = parts.events.faults.items;
  compact = compact;
}

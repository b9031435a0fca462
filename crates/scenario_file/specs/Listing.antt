-- What is known about the items of a list before the version and the numbers of rounds and cabinets are known.
use Rattle.std.specs.Prelude.{◌≡◌, ◌≤◌, ◌||◌, ℕ, Bool, true, false, if◌then◌else◌, List, [], ◌∷◌, ◌++◌, bytes_eq, codes, is_some, length, map}
use Rattle.serde_json.specs.Data.{Data, Items, no_items, item}
use Rattle.serde_json.specs.Find.{get}
use Rattle.scenario_data.specs.declared.scenario.Entry.{Entry}
use Rattle.scenario_data.specs.declared.scenario.Fault.{Fault}
use Rattle.scenario_data.specs.declared.scenario.Input.{Input}
use Rattle.scenario_data.specs.declared.scenario.PriorityItem.{PriorityItem}
use Rattle.scenario_data.specs.Content.{CabinetContent, LoadContent, FrameContent, cabinet_content, load_content, frame_content}
use Rattle.scenario_read.specs.Paths.{Step, Named, then_item}
use Rattle.scenario_read.specs.Kinds.{Kind, each, each_behind}
use Rattle.scenario_read.specs.Fields.{object_of}
use Rattle.scenario_read.specs.Readers.{load_cabinets}
use Rattle.scenario_read.specs.Table.{cabinet, gain, lose, entry_shape, round, cabinet_number, input_shape, load_cabinet, load, priority_item, frame_shape, fault_shape}
use Rattle.scenario_read.specs.Content.{number_at, each_of, cabinet_of, entry_of, input_of, load_of, priority_of, frame_of, fault_of}
use Rattle.scenario_file.specs.declared.found.Found.{Found}
use Rattle.scenario_file.specs.declared.found.Found.TheVariants.{Cabinets, Inputs, Loads, Priority, Frames, Faults, Schedule}
use Rattle.scenario_file.specs.declared.found.Reach.{Reach}
use Rattle.scenario_file.specs.declared.listed.Listed.{Listed}
use Rattle.scenario_file.specs.Growing.{written, inner_text, follows}

-- the path of a list at the top
abbrev pub list_path : List ℕ → List Step
list_path name = Named name ∷ []

-- the path of the master's schedule
abbrev pub schedule_path : List Step
schedule_path = Named (codes "master") ∷ Named (codes "schedule") ∷ []

-- the kind of items with the widest limits: for cabinets those of version 2, for other items the maximum number of
-- rounds and of cabinets
abbrev pub any_cabinet : Kind
any_cabinet = cabinet 2

abbrev pub any_input : Kind
any_input = object_of (input_shape 86400 64)

abbrev pub any_load : List ℕ → Kind
any_load = load 86400 64

abbrev pub any_priority : Kind
any_priority = priority_item 86400 64

abbrev pub any_frame : Kind
any_frame = object_of (frame_shape 86400 64)

abbrev pub any_fault : Kind
any_fault = object_of (fault_shape 86400 64)

abbrev pub any_entry : Kind
any_entry = object_of entry_shape

-- the items of the list at this path have no fault of this kind, they are at most `most`, and `found` is what they
-- describe
pub record ListTold {A : Type 0} (path : List Step) (kind : Kind) (says : Data → A) (most : ℕ) (found : List A) (ds : Items) : Type 0 where
  pub causes : each kind path 0 ds ≡ []
  pub said : found ≡ each_of says ds
  pub few : length found ≤ most

-- the items of the list of loads have no fault, `found` is what they describe, and `cabinets` has the cabinet of each
pub record ToldLoads (found : List LoadContent) (cabinets : List ℕ) (ds : Items) : Type 0 where
  pub causes : each_behind any_load (load_cabinet 64) (list_path (codes "loads")) 0 [] ds ≡ []
  pub said : found ≡ each_of (load_of 86400 64) ds
  pub whose : cabinets ≡ each_of (load_cabinet 64) ds

-- what was found for a list is what its items describe, and the items have no fault with the widest limits
abbrev pub ToldCabinets : List CabinetContent → Items → Type 0
ToldCabinets = ListTold (list_path (codes "cabinets")) any_cabinet (cabinet_of 2) 64

abbrev pub ToldInputs : List Input → Items → Type 0
ToldInputs = ListTold (list_path (codes "inputs")) any_input (input_of 86400 64) 1000000

abbrev pub ToldPriority : List PriorityItem → Items → Type 0
ToldPriority = ListTold (list_path (codes "priority")) any_priority (priority_of 86400 64) 100000

abbrev pub ToldFrames : List FrameContent → Items → Type 0
ToldFrames = ListTold (list_path (codes "frames")) any_frame (frame_of 86400 64) 100000

abbrev pub ToldFaults : List Fault → Items → Type 0
ToldFaults = ListTold (list_path (codes "faults")) any_fault (fault_of 86400 64) 100000

abbrev pub ToldEntries : List Entry → Items → Type 0
ToldEntries = ListTold schedule_path any_entry entry_of 1000

-- what was found is what the items describe. With the widest limits the items have no fault
abbrev pub Holds : Found → Items → Type 0
Holds (Cabinets found) ds = ToldCabinets (map cabinet_content found.items) ds
Holds (Inputs found) ds = ToldInputs found.items ds
Holds (Loads found) ds = ToldLoads (map load_content found.items) (load_cabinets found.items) ds
Holds (Priority found) ds = ToldPriority found.items ds
Holds (Frames found) ds = ToldFrames (map frame_content found.items) ds
Holds (Faults found) ds = ToldFaults found.items ds
Holds (Schedule found) ds = ToldEntries found.items ds

-- the name of a list
abbrev pub name_of : Found → List ℕ
name_of (Cabinets found) = codes "cabinets"
name_of (Inputs found) = codes "inputs"
name_of (Loads found) = codes "loads"
name_of (Priority found) = codes "priority"
name_of (Frames found) = codes "frames"
name_of (Faults found) = codes "faults"
name_of (Schedule found) = codes "schedule"

-- one more value was read after the items of the list: it has no fault of this kind, and what it describes was added
pub record Adds {A : Type 0} (path : List Step) (kind : Kind) (says : Data → A) (most : ℕ) (old new : List A) (d : Data) : Type 0 where
  pub causes : kind (then_item path (length old)) d ≡ []
  pub more : new ≡ old ++ says d ∷ []
  pub few : length new ≤ most

-- the version that a cabinet requires: 2 if it has a drift of its clock, otherwise 1
abbrev pub asked_version : Data → ℕ
asked_version d = if is_some (get gain.name d) || is_some (get lose.name d) then 2 else 1

-- the round and the cabinet of an item are at most these
abbrev pub InRounds : ℕ → ℕ → Data → Type 0
InRounds rounds cabinets d = (number_at (round 86400) d ≤ rounds) × (number_at (cabinet_number 64) d ≤ cabinets)

-- an item is within these limits: a cabinet by the version that it requires, every other item by its round and its
-- cabinet
abbrev pub AsksWithin : Bool → Reach → Data → Type 0
AsksWithin true reach d = asked_version d ≤ reach.version
AsksWithin false reach d = InRounds reach.round reach.cabinet d

-- the condition holds, or the list is the schedule, whose entries have no limit
abbrev pub UnlessEntry : Bool → Type 0 → Type 0
UnlessEntry true P = Unit {0}
UnlessEntry false P = P

-- an item of the list with this name is within these limits
abbrev pub Within : List ℕ → Reach → Data → Type 0
Within name reach d = UnlessEntry (bytes_eq name (codes "schedule")) (AsksWithin (bytes_eq name (codes "cabinets")) reach d)

-- the condition holds for each item
abbrev pub AllOf : (Data → Type 0) → Items → Type 0
AllOf P no_items = Unit {0}
AllOf P (item d ds) = P d × AllOf P ds

-- each of the three limits is unchanged or higher
pub record ReachGrows (old new : Reach) : Type 0 where
  pub round : old.round ≤ new.round
  pub cabinet : old.cabinet ≤ new.cabinet
  pub version : old.version ≤ new.version

-- what is known of a list with these items: what they describe, the text between its brackets, and limits that all of
-- them keep
pub record Lists (listed : Listed) (ds : Items) : Type 0 where
  pub holds : Holds listed.found ds
  pub text : written listed.text ≡ inner_text false ds
  pub some : listed.some ≡ follows false ds
  pub within : AllOf (Within (name_of listed.found) listed.last) ds

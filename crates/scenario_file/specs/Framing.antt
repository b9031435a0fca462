-- The value of a scenario from its frame. The frame has the same members, but its lists have no items, or one empty
-- object for each cabinet; the value has the items in their place. In the same way the frame has the master without
-- the entries of its schedule.
use Rattle.std.specs.Prelude.{ℕ, List, [], ◌≡◌, ◌||◌, Bool, true, false, codes, if◌then◌else◌, bytes_eq, Option, Some, None, Vec}
use Rattle.std.specs.declared.alloc.Global.{Global}
use Rattle.serde_json.specs.Events.{items_len}
use Rattle.serde_json.specs.Data.{Data, null, boolean, number, string, array, object, Items, no_items, Members, put}
use Rattle.serde_json.specs.Find.{get, get_member}
use Rattle.scenario_data.specs.declared.scenario.Cabinet.{Cabinet}
use Rattle.scenario_data.specs.declared.scenario.Entry.{Entry}
use Rattle.scenario_read.specs.declared.setup.Setup.{Setup}
use Rattle.scenario_read.specs.Fields.{held}
use Rattle.scenario_read.specs.Table.{master}
pub use Rattle.scenario_cut.specs.Last.{filled, Enters}
use Rattle.scenario_file.specs.Growing.{written, inner_text, blanks}
use Rattle.scenario_file.specs.Listing.{Holds, name_of, AllOf, Within, Lists as ListsItems}
use Rattle.scenario_file.specs.declared.found.Found.{Found}
use Rattle.scenario_file.specs.declared.found.Found.TheVariants.{Cabinets, Inputs, Loads, Priority, Frames, Faults, Schedule}
use Rattle.scenario_file.specs.declared.found.Reach.{Reach}
use Rattle.scenario_file.specs.declared.listed.Listed.{Listed}
use Rattle.scenario_file.specs.declared.lists.Lists.{Lists}
use Rattle.scenario_file.specs.declared.lists.Texts.{Texts}
use Rattle.scenario_file.specs.declared.written.Written.{Written}

-- this is the name of a list at the top, which is read item by item
abbrev pub is_list : List ℕ → Bool
is_list name =
    bytes_eq name (codes "cabinets")
    || (bytes_eq name (codes "inputs") || (bytes_eq name (codes "loads") || (bytes_eq name (codes "priority") || (bytes_eq name (codes "frames") || bytes_eq name (codes "faults")))))

-- what is found when the reading of a member begins: a list without items if this is the name of a list, otherwise
-- nothing
abbrev pub Begins : Option Found → List ℕ → Type 0
Begins None name = is_list name ≡ false
Begins (Some found) name = (name_of found ≡ name) × (is_list name ≡ true) × Holds found no_items

-- ---- the frame and the value

-- the object with what `fill` makes of each of its members; any other value is unchanged
abbrev pub filled_in : (List ℕ → Data → Data) → Data → Data
filled_in fill null = null
filled_in fill (boolean b) = boolean b
filled_in fill (number n) = number n
filled_in fill (string s) = string s
filled_in fill (array ds) = array ds
filled_in fill (object ms) = object (filled fill ms)

-- the value at this name of the master: these entries for the schedule, otherwise the value itself
abbrev pub scheduled : Items → List ℕ → Data → Data
scheduled ds name d = if bytes_eq name (codes "schedule") then array ds else d

-- the master with these entries in its schedule
abbrev pub master_with : Items → Data → Data
master_with ds = filled_in (scheduled ds)

-- the value at this name of the scenario: the items of the list, the master with its schedule, or the value itself
abbrev pub value_in : (List ℕ → Items) → List ℕ → Data → Data
value_in rows name d =
    if is_list name then array (rows name) else
    if bytes_eq name (codes "master") then master_with (rows (codes "schedule")) d else d

-- the members of the scenario, with the items of its lists
abbrev pub with_lists : (List ℕ → Items) → Members → Members
with_lists rows = filled (value_in rows)

-- the items of the lists, with these items at this name
abbrev pub with_rows : (List ℕ → Items) → List ℕ → Items → List ℕ → Items
with_rows rows name ds other = if bytes_eq other name then ds else rows other

-- ---- the texts of lists

-- the text between the brackets of the list at this name; empty at any other name
abbrev pub text_named : Texts → List ℕ → List ℕ
text_named texts name =
    if bytes_eq name (codes "cabinets") then written texts.cabinets else
    if bytes_eq name (codes "inputs") then written texts.inputs else
    if bytes_eq name (codes "loads") then written texts.loads else
    if bytes_eq name (codes "priority") then written texts.priority else
    if bytes_eq name (codes "frames") then written texts.frames else
    if bytes_eq name (codes "faults") then written texts.faults else []

-- these are the texts of the items of the lists
pub record TextsStand (texts : Texts) (rows : List ℕ → Items) : Type 0 where
  pub top : (name : List ℕ) → is_list name ≡ true → text_named texts name ≡ inner_text false (rows name)
  pub schedule : written texts.schedule ≡ inner_text false (rows (codes "schedule"))

-- ---- what was found of lists

-- what represents a list with these items in the frame: for the cabinets the same number of empty objects, otherwise
-- an empty list
abbrev pub stand_in : List ℕ → Items → Data
stand_in name ds = array (if bytes_eq name (codes "cabinets") then blanks (items_len ds) else no_items)

-- the frame has what represents these items; if it doesn't have the list, there are no items
abbrev pub IsHeld : List ℕ → Option Data → Items → Type 0
IsHeld name None ds = ds ≡ no_items
IsHeld name (Some d) ds = d ≡ stand_in name ds

-- what was found for a list agrees with its items and with the frame
pub record FramingStands (found : Found) (text : Written) (last : Reach) (frame : Members) (ds : Items) : Type 0 where
  pub holds : Holds found ds
  pub text_is : written text ≡ inner_text false ds
  pub within : AllOf (Within (name_of found) last) ds
  pub held : IsHeld (name_of found) (get_member (name_of found) frame) ds

-- the master has what represents these entries of its schedule; if it has no schedule, there are no entries
abbrev pub HoldsPlace : Data → Items → Type 0
HoldsPlace d ds = IsHeld (codes "schedule") (get (codes "schedule") d) ds

-- what was found for the schedule agrees with these entries and with a master that has these members
pub record MasterStands (schedule : Listed) (ms : Members) (ds : Items) : Type 0 where
  pub list : name_of schedule.found ≡ codes "schedule"
  pub items : ListsItems schedule ds
  pub held : HoldsPlace (object ms) ds

-- what was found for the schedule agrees with these entries and with the master in the frame, if there is one
pub record ScheduleStands (found : Found) (text : Written) (frame : Members) (ds : Items) : Type 0 where
  pub holds : Holds found ds
  pub text_is : written text ≡ inner_text false ds
  pub held : HoldsPlace (held master (object frame)) ds

-- what was found for all lists agrees with their items and with the frame
pub record AllStand (lists : Lists) (frame : Members) (rows : List ℕ → Items) : Type 0 where
  pub cabinets : FramingStands (Cabinets lists.cabinets) lists.texts.cabinets lists.last frame (rows (codes "cabinets"))
  pub inputs : FramingStands (Inputs lists.events.inputs) lists.texts.inputs lists.last frame (rows (codes "inputs"))
  pub loads : FramingStands (Loads lists.events.loads) lists.texts.loads lists.last frame (rows (codes "loads"))
  pub priority : FramingStands (Priority lists.events.priority) lists.texts.priority lists.last frame (rows (codes "priority"))
  pub frames : FramingStands (Frames lists.events.frames) lists.texts.frames lists.last frame (rows (codes "frames"))
  pub faults : FramingStands (Faults lists.events.faults) lists.texts.faults lists.last frame (rows (codes "faults"))
  pub schedule : ScheduleStands (Schedule lists.schedule) lists.texts.schedule frame (rows (codes "schedule"))

-- after a value was read at a name and what represents it was put into the frame, what was found for all lists still
-- agrees with their items
abbrev pub Puts : Lists → Lists → List ℕ → Data → Data → Type 0
Puts old new name d standing =
    (frame : Members) → (rows : List ℕ → Items) → AllStand old frame rows
    → (now : List ℕ → Items) × Enters (value_in rows) (value_in now) name d standing × AllStand new (put name standing frame) now

-- the setup of a run with these cabinets and this schedule
abbrev pub setup_with : Setup → Vec Cabinet Global → Vec Entry Global → Setup
setup_with setup cabinets schedule = record {
  rounds = setup.rounds;
  ticks = setup.ticks;
  community = setup.community;
  cabinets = cabinets;
  master = record {
    clock = setup.master.clock;
    poll_every = setup.master.poll_every;
    clock_every = setup.master.clock_every;
    pattern_every = setup.master.pattern_every;
    retries = setup.master.retries;
    schedule = schedule;
  };
}

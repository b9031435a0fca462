-- The text of a scenario in parts, and a scenario with more inputs or with a different schedule.
use Rattle.std.specs.Prelude.{ℕ, ◌≡◌, ◌≤◌, false, List, [], codes, Some, None}
use Rattle.json.specs.Json.{Json}
use Rattle.serde_json.specs.Data.{Data, null, boolean, number, string, array, object, depth, Items, no_items, put}
use Rattle.serde_json.specs.Find.{get_member}
use Rattle.serde_json.specs.Read.{of_json, max_depth}
use Rattle.serde_json.specs.View.{members_view}
use Rattle.serde_json.specs.Written.{members_have_float}
use Rattle.scenario_data.specs.Content.{scenario_content}
use Rattle.scenario_read.specs.Answers.{Reads}
use Rattle.scenario_read.specs.Content.{round_count, cabinet_count, scenario_of}
use Rattle.scenario_read.specs.Faults.{faults}
use Rattle.scenario_read.specs.Fields.{held}
use Rattle.scenario_read.specs.Kinds.{items_in}
use Rattle.scenario_read.specs.Sorted.{MembersSorted}
use Rattle.scenario_read.specs.Table.{inputs, master}
use Rattle.scenario_cut.specs.Growing.{both}
use Rattle.scenario_file.specs.Growing.{follows}
use Rattle.scenario_file.specs.Framing.{with_lists, AllStand, TextsStand}
use Rattle.scenario_file.specs.declared.source.ScenarioText.{ScenarioText}
use Rattle.scenario_file.specs.declared.source.Source.{Source}
use Rattle.scenario_file.specs.declared.top.Whole.{Whole}

-- the object with this value at a name, in place of its own; any other value is unchanged
abbrev pub with_member : List ℕ → Data → Data → Data
with_member name d null = null
with_member name d (boolean b) = boolean b
with_member name d (number n) = number n
with_member name d (string s) = string s
with_member name d (array ds) = array ds
with_member name d (object ms) = object (put name d ms)

-- the inputs of a scenario, followed by more inputs
abbrev pub inputs_and : Items → Data → Data
inputs_and more d = array (both (items_in (held (inputs (round_count d) (cabinet_count d)) d)) more)

-- a scenario with more inputs
abbrev pub with_inputs : Items → Data → Data
with_inputs more d = with_member (codes "inputs") (inputs_and more d) d

-- the master of a scenario, with this value as its schedule
abbrev pub master_and : Data → Data → Data
master_and schedule d = with_member (codes "schedule") schedule (held master d)

-- a scenario with these entries as the schedule of its master
abbrev pub with_schedule : Items → Data → Data
with_schedule ds d = with_member (codes "master") (master_and (array ds) d) d

-- the parts are those of the text of this value
pub record Writes (text : ScenarioText) (d : Data) : Type 0 where
  pub rows : List ℕ → Items
  pub whole : d ≡ object (with_lists rows (members_view text.frame.entries))
  pub texts : TextsStand text.texts rows
  pub floatless : members_have_float (members_view text.frame.entries) ≡ false
  pub sorted : MembersSorted (members_view text.frame.entries)
  pub some : text.some ≡ follows false (rows (codes "inputs"))
  pub absent : get_member (codes "inputs") (members_view text.frame.entries) ≡ None → rows (codes "inputs") ≡ no_items

-- the frame and the lists are those of this value, which was read
pub record IsRead (whole : Whole) (d : Data) : Type 0 where
  pub rows : List ℕ → Items
  pub is : d ≡ object (with_lists rows (members_view whole.frame.entries))
  pub stands : AllStand whole.lists (members_view whole.frame.entries) rows
  pub sorted : MembersSorted (members_view whole.frame.entries)
  pub tree : Json
  pub from : of_json tree ≡ Some d
  pub nests : depth d ≤ max_depth

-- the value is a scenario without a fault. `source` has the content of this scenario and the parts of its text
pub record IsSource (source : Source) (d : Data) : Type 0 where
  pub faultless : faults d ≡ []
  pub said : scenario_content source.scenario ≡ scenario_of d
  pub writes : Writes source.text d
  pub back : Reads source.scenario.compact.items d

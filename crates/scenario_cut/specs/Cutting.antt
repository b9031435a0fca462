-- What is stored of a scenario's value, or of an object around a scenario, when only its first fault is needed. null
-- represents an array or an object where only a number, a text or a word is allowed, because it is at fault there
-- with any content. In Setup and Outer, null represents a list that isn't needed: all lists except the master's
-- schedule, the bank, and the rules by which patterns follow the traffic. If an item of the rounds or a pulse lacks a
-- required name, null represents the items after it. Only a limited number of cabinets, entries, sections, steps,
-- cells and parts of cells is stored. If an object has names that no object may have there, only the first of them is
-- stored, with null: it is at fault before everything else in the object.
use Rattle.std.specs.Prelude.{ℕ, zero, suc, ◌&&◌, ◌||◌, Bool, true, false, if◌then◌else◌, List, [], ◌∷◌, ◌++◌, codes, bytes_eq, is_some}
use Rattle.serde_json.specs.Data.{Data, null, boolean, number, string, array, object, Items, no_items, item, Members, no_members, member}
use Rattle.serde_json.specs.Find.{get}
use Rattle.scenario_read.specs.Kinds.{is_among}
pub use Rattle.scenario_cut.specs.declared.form.Form.{Form}
pub use Rattle.scenario_cut.specs.declared.form.Form.TheVariants.{Street, Field, Outer, Whole, Setup, Cabinets, Cabinet, Events, Event, Pulses, Pulse, Master, Entries, Entry, Respond, Sections, Section, Steps, Step, Rows, Row, Part, Times, Bare}

-- an array is allowed here
abbrev pub opens_array : Form → Bool
opens_array Cabinets = true
opens_array Events = true
opens_array Pulses = true
opens_array Entries = true
opens_array Sections = true
opens_array Steps = true
opens_array Rows = true
opens_array Row = true
opens_array Times = true
opens_array _ = false

-- an object is allowed here
abbrev pub opens_object : Form → Bool
opens_object Street = true
opens_object Field = true
opens_object Outer = true
opens_object Whole = true
opens_object Setup = true
opens_object Cabinet = true
opens_object Event = true
opens_object Pulse = true
opens_object Master = true
opens_object Entry = true
opens_object Respond = true
opens_object Section = true
opens_object Step = true
opens_object _ = false

-- the form of each item
abbrev pub item_form : Form → Form
item_form Cabinets = Cabinet
item_form Events = Event
item_form Pulses = Pulse
item_form Entries = Entry
item_form Sections = Section
item_form Steps = Step
item_form Rows = Row
item_form Row = Part
item_form _ = Bare

-- the name of a list of items that happen in the rounds
abbrev pub is_event_list : List ℕ → Bool
is_event_list name = bytes_eq name (codes "inputs") || (bytes_eq name (codes "loads") || (bytes_eq name (codes "priority") || (bytes_eq name (codes "frames") || bytes_eq name (codes "faults"))))

-- the form of the member with this name
abbrev pub member_form : Form → List ℕ → Form
member_form Street name =
    if bytes_eq name (codes "scenario") then Whole else
    if bytes_eq name (codes "travel") then Times else Bare
member_form Field name =
    if bytes_eq name (codes "scenario") then Whole else
    if bytes_eq name (codes "bank") then Entries else
    if bytes_eq name (codes "pulses") then Pulses else
    if bytes_eq name (codes "respond") then Respond else Bare
member_form Outer name =
    if bytes_eq name (codes "scenario") then Setup else
    if bytes_eq name (codes "bank") then Entries else
    if bytes_eq name (codes "respond") then Respond else Bare
member_form Whole name =
    if bytes_eq name (codes "cabinets") then Cabinets else
    if bytes_eq name (codes "master") then Master else
    if is_event_list name then Events else Bare
member_form Setup name = if bytes_eq name (codes "master") then Master else Bare
member_form Cabinet name = if bytes_eq name (codes "cells") then Rows else Bare
member_form Event name = if bytes_eq name (codes "cells") then Rows else Bare
member_form Master name = if bytes_eq name (codes "schedule") then Entries else Bare
member_form Respond name = if bytes_eq name (codes "sections") then Sections else Bare
member_form Section name = if bytes_eq name (codes "steps") then Steps else Bare
member_form _ name = Bare

-- the names of a scenario
abbrev pub scenario_names : List (List ℕ)
scenario_names =
    codes "version" ∷ codes "rounds" ∷ codes "ticks" ∷ codes "community" ∷ codes "cabinets" ∷ codes "master" ∷ codes "inputs" ∷ codes "loads" ∷ codes "priority" ∷ codes "frames" ∷ codes "faults" ∷ []

-- the names of an input or a load
abbrev pub input_names : List (List ℕ)
input_names = codes "round" ∷ codes "cabinet" ∷ codes "veh" ∷ codes "on" ∷ codes "ped" ∷ codes "preempt" ∷ codes "cells" ∷ []

-- the further names of a priority request or its cancel
abbrev pub request_names : List (List ℕ)
request_names = codes "cancel" ∷ codes "number" ∷ codes "class" ∷ codes "level" ∷ codes "phase" ∷ codes "arrival" ∷ codes "departure" ∷ []

-- the further names of a message or a fault of the link
abbrev pub link_names : List (List ℕ)
link_names = codes "stream" ∷ codes "hex" ∷ codes "way" ∷ codes "index" ∷ codes "kind" ∷ codes "by" ∷ codes "octet" ∷ []

-- the names of an entry of the schedule and of a detector of the bank
abbrev pub entry_names : List (List ℕ)
entry_names =
    codes "second" ∷ codes "section" ∷ codes "pattern" ∷ codes "cabinet" ∷ codes "detector" ∷ codes "phase" ∷ codes "delay" ∷ codes "extend" ∷ codes "no_activity" ∷ codes "max_presence" ∷ codes "erratic" ∷ []

-- the names that an object may have here, for all kinds of objects that are allowed here
abbrev pub names_at : Form → List (List ℕ)
names_at Street = codes "scenario" ∷ codes "section" ∷ codes "pattern" ∷ codes "travel" ∷ []
names_at Field = codes "scenario" ∷ codes "bank" ∷ codes "pulses" ∷ codes "respond" ∷ []
names_at Outer = codes "scenario" ∷ codes "section" ∷ codes "pattern" ∷ codes "travel" ∷ codes "bank" ∷ codes "pulses" ∷ codes "respond" ∷ []
names_at Whole = scenario_names
names_at Setup = scenario_names
names_at Cabinet = codes "base" ∷ codes "cells" ∷ codes "pattern" ∷ codes "clock" ∷ codes "section" ∷ codes "gain" ∷ codes "lose" ∷ []
names_at Event = input_names ++ (request_names ++ link_names)
names_at Pulse = codes "round" ∷ codes "cabinet" ∷ codes "detector" ∷ codes "on" ∷ []
names_at Master = codes "clock" ∷ codes "poll_every" ∷ codes "clock_every" ∷ codes "pattern_every" ∷ codes "retries" ∷ codes "schedule" ∷ []
names_at Entry = entry_names
names_at Respond = codes "period" ∷ codes "sections" ∷ []
names_at Section = codes "section" ∷ codes "base" ∷ codes "steps" ∷ []
names_at Step = codes "up" ∷ codes "down" ∷ codes "pattern" ∷ []
names_at _ = []

-- the members with these names
abbrev pub only : List (List ℕ) → Members → Members
only known no_members = no_members
only known (member name d ms) = if is_among known name then member name d (only known ms) else only known ms

-- the members with these names, and the first of the other members, with null
abbrev pub few : List (List ℕ) → Members → Members
few known no_members = no_members
few known (member name d ms) = if is_among known name then member name d (few known ms) else member name null (only known ms)

-- the item has a round and a cabinet; otherwise it is at fault
abbrev pub is_of_a_round : Data → Bool
is_of_a_round d = is_some (get (codes "round") d) && is_some (get (codes "cabinet") d)

-- the pulse also has a detector and a state (on or off); otherwise it is at fault
abbrev pub is_a_pulse : Data → Bool
is_a_pulse d = is_of_a_round d && (is_some (get (codes "detector") d) && is_some (get (codes "on") d))

-- how many items of this form may be stored at the beginning; 1 represents any number
abbrev pub room : Form → ℕ
room Cabinet = 65
room Entry = 1001
room Section = 9
room Step = 9
room Row = 4097
room Part = 6
room _ = 1

-- how many items of this form may still be stored after this item
abbrev pub room_behind : Form → ℕ → Data → ℕ
room_behind Cabinet n d = n
room_behind Entry n d = n
room_behind Section n d = n
room_behind Step n d = n
room_behind Row n d = n
room_behind Part n d = n
room_behind Event n d = if is_of_a_round d then suc n else 0
room_behind Pulse n d = if is_a_pulse d then suc n else 0
room_behind _ n d = suc n

-- items beyond this number are dropped. Enough of them are stored that their list is at fault for its number of items
abbrev pub drops : Form → Bool
drops Cabinet = true
drops Entry = true
drops Section = true
drops Step = true
drops Row = true
drops Part = true
drops _ = false

abbrev mutual
  pub cut : Form → Data → Data
  cut f null = null
  cut f (boolean b) = boolean b
  cut f (number n) = number n
  cut f (string s) = string s
  cut f (array ds) = if opens_array f then array (cut_items (item_form f) (room (item_form f)) ds) else null
  cut f (object ms) = if opens_object f then object (few (names_at f) (cut_members f ms)) else null

  pub cut_items : Form → ℕ → Items → Items
  cut_items f n no_items = no_items
  cut_items f zero (item d ds) = if drops f then no_items else item null (cut_items f zero ds)
  cut_items f (suc n) (item d ds) = item (cut f d) (cut_items f (room_behind f n d) ds)

  pub cut_members : Form → Members → Members
  cut_members f no_members = no_members
  cut_members f (member name d ms) = member name (cut (member_form f name) d) (cut_members f ms)

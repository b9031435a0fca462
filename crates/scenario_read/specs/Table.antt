-- The table of the names of a scenario: the fields of each object in order, each with its valid values and its
-- default.
use Rattle.std.specs.Prelude.{ℕ, ◌+◌, ◌==◌, ◌&&◌, nat_lt, Bool, false, if◌then◌else◌, List, [], ◌∷◌, ◌++◌, codes}
use Rattle.serde_json.specs.Data.{unsigned, number, Data, string, array, object, no_items, no_members}
use Rattle.sig_types.specs.declared.notes.Request.{Request}
use Rattle.scenario_data.specs.declared.scenario.PriorityAct.{PriorityAct}
use Rattle.scenario_data.specs.declared.scenario.PriorityAct.TheVariants.{Request as AskRequest, Cancel}
use Rattle.scenario_data.specs.Causes.{Cause}
use Rattle.scenario_read.specs.Paths.{Step, then_named}
use Rattle.scenario_read.specs.Kinds.{Fits, Wrong, Beyond, Kind, fault_at, whole, rare, text, word, flag, list_of, list_behind}
use Rattle.scenario_read.specs.Fields.{Field, needed, optional, Shape, held, stands, object_of}
use Rattle.scenario_read.specs.CellLists.{cell, hex_text, whole_of}

-- a required whole number from `least` to `most`
abbrev pub needed_whole : List ℕ → ℕ → ℕ → Field
needed_whole name least most = needed name (whole least most)

-- an optional whole number from `least` to `most`, with its default
abbrev pub optional_whole : List ℕ → ℕ → ℕ → ℕ → Field
optional_whole name least most default = optional name (whole least most) (number (unsigned default))

-- the whole number in a field, or else its default
abbrev pub number_at : Field → Data → ℕ
number_at f d = whole_of (held f d)

-- the fields of a cabinet
abbrev pub base : Field
base = optional (codes "base") (word (codes "std8" ∷ codes "max8" ∷ [])) (string (codes "std8"))

abbrev pub cells : Field
cells = optional (codes "cells") (list_of 0 4096 cell) (array no_items)

abbrev pub pattern : Field
pattern = optional_whole (codes "pattern") 0 255 0

abbrev pub clock : Field
clock = optional_whole (codes "clock") 0 863999 0

abbrev pub section : Field
section = optional_whole (codes "section") 1 8 1

abbrev pub gain : Field
gain = optional (codes "gain") (rare 12000 864000) (number (unsigned 0))

abbrev pub lose : Field
lose = optional (codes "lose") (rare 12000 864000) (number (unsigned 0))

-- the fields of the drift of a clock, which only version 2 has
abbrev pub drift_fields : ℕ → List Field
drift_fields version = if version == 2 then gain ∷ lose ∷ [] else []

-- the shape of a cabinet
abbrev pub cabinet_shape : ℕ → Shape
cabinet_shape version = record { fields = base ∷ cells ∷ pattern ∷ clock ∷ section ∷ drift_fields version; alternatives = [] }

-- the clock of the cabinet both gains and loses
abbrev pub drifts_both_ways : ℕ → Data → Bool
drifts_both_ways version d = version == 2 && (nat_lt 0 (number_at gain d) && nat_lt 0 (number_at lose d))

-- the fault of a cabinet whose clock both gains and loses: the cabinet itself is at fault, after its fields
abbrev pub drift_faults : ℕ → List Step → Data → List Cause
drift_faults version path d = fault_at path (if drifts_both_ways version d then Wrong else Fits)

-- the kind of cabinets
abbrev pub cabinet : ℕ → Kind
cabinet version path d = object_of (cabinet_shape version) path d ++ drift_faults version path d

-- the fields of an entry of the master's schedule
abbrev pub second : Field
second = needed_whole (codes "second") 0 86399

abbrev pub entry_section : Field
entry_section = needed_whole (codes "section") 1 8

abbrev pub entry_pattern : Field
entry_pattern = needed_whole (codes "pattern") 0 255

abbrev pub entry_shape : Shape
entry_shape = record { fields = second ∷ entry_section ∷ entry_pattern ∷ []; alternatives = [] }

-- the fields of the master
abbrev pub poll_every : Field
poll_every = optional_whole (codes "poll_every") 0 86400 0

abbrev pub clock_every : Field
clock_every = optional_whole (codes "clock_every") 0 86400 0

abbrev pub pattern_every : Field
pattern_every = optional_whole (codes "pattern_every") 0 86400 0

abbrev pub retries : Field
retries = optional_whole (codes "retries") 1 10 3

abbrev pub schedule : Field
schedule = optional (codes "schedule") (list_of 0 1000 (object_of entry_shape)) (array no_items)

abbrev pub master_shape : Shape
master_shape = record { fields = clock ∷ poll_every ∷ clock_every ∷ pattern_every ∷ retries ∷ schedule ∷ []; alternatives = [] }

-- the fields for the round and the cabinet of an item; the scenario has this many of each
abbrev pub round : ℕ → Field
round rounds = needed_whole (codes "round") 1 rounds

abbrev pub cabinet_number : ℕ → Field
cabinet_number cabinets = needed_whole (codes "cabinet") 1 cabinets

-- the fields of an input. A vehicle detector turns on or off, a push button is pressed, or a preempt input turns on
-- or off
abbrev pub veh : Field
veh = needed_whole (codes "veh") 1 16

abbrev pub on : Field
on = needed (codes "on") flag

abbrev pub ped : Field
ped = needed_whole (codes "ped") 1 16

abbrev pub preempt : Field
preempt = needed_whole (codes "preempt") 1 8

abbrev pub input_fields : List (List Field)
input_fields = (veh ∷ on ∷ []) ∷ (ped ∷ []) ∷ (preempt ∷ on ∷ []) ∷ []

abbrev pub input_shape : ℕ → ℕ → Shape
input_shape rounds cabinets = record { fields = round rounds ∷ cabinet_number cabinets ∷ []; alternatives = input_fields }

-- the fields of a load
abbrev pub load_cells : Field
load_cells = needed (codes "cells") (list_of 1 768 cell)

abbrev pub load_shape : ℕ → ℕ → Shape
load_shape rounds cabinets = record { fields = round rounds ∷ cabinet_number cabinets ∷ load_cells ∷ []; alternatives = [] }

abbrev pub load_cabinet : ℕ → Data → ℕ
load_cabinet cabinets d = number_at (cabinet_number cabinets) d

-- how often a number occurs in a list
abbrev pub count_of : ℕ → List ℕ → ℕ
count_of n [] = 0
count_of n (m ∷ more) = (if m == n then 1 else 0) + count_of n more

-- the fault of a load with 100 or more earlier loads of the same cabinet: the load itself is out of range
abbrev pub full_faults : List ℕ → List Step → ℕ → List Cause
full_faults earlier path cabinet = fault_at path (if nat_lt (count_of cabinet earlier) 100 then Fits else Beyond)

-- the kind of loads, by the cabinets of the earlier loads; the load itself is checked after its fields
abbrev pub load : ℕ → ℕ → List ℕ → Kind
load rounds cabinets earlier path d = object_of (load_shape rounds cabinets) path d ++ full_faults earlier path (load_cabinet cabinets d)

-- the fields of a priority request, or of the cancel of one
abbrev pub cancel : Field
cancel = needed_whole (codes "cancel") 1 10

abbrev pub request_number : Field
request_number = needed_whole (codes "number") 1 10

abbrev pub class : Field
class = needed_whole (codes "class") 1 10

abbrev pub level : Field
level = needed_whole (codes "level") 1 10

abbrev pub phase : Field
phase = needed_whole (codes "phase") 1 16

abbrev pub arrival : Field
arrival = needed_whole (codes "arrival") 0 65535

abbrev pub departure : Field
departure = needed_whole (codes "departure") 0 65535

abbrev pub request_fields : List Field
request_fields = request_number ∷ class ∷ level ∷ phase ∷ arrival ∷ departure ∷ []

abbrev pub priority_fields : List (List Field)
priority_fields = (cancel ∷ []) ∷ request_fields ∷ []

abbrev pub priority_shape : ℕ → ℕ → Shape
priority_shape rounds cabinets = record { fields = round rounds ∷ cabinet_number cabinets ∷ []; alternatives = priority_fields }

-- the priority request that an object describes
abbrev pub request_of : Data → Request
request_of d = record {
  number = number_at request_number d;
  class = number_at class d;
  level = number_at level d;
  phase = number_at phase d;
  arrival = number_at arrival d;
  departure = number_at departure d;
}

-- the priority request or the cancel that an object describes
abbrev pub act_of : Data → PriorityAct
act_of d = if stands d (cancel ∷ []) then Cancel (number_at cancel d) else AskRequest (request_of d)

-- the arrival of the request is after its departure
abbrev pub is_late : PriorityAct → Bool
is_late (AskRequest request) = nat_lt request.departure request.arrival
is_late (Cancel n) = false

-- the fault of a request whose arrival is after its departure: the departure is out of range
abbrev pub departure_faults : List Step → PriorityAct → List Cause
departure_faults path act = fault_at (then_named path departure.name) (if is_late act then Beyond else Fits)

-- the kind of priority requests and cancels
abbrev pub priority_item : ℕ → ℕ → Kind
priority_item rounds cabinets path d = object_of (priority_shape rounds cabinets) path d ++ departure_faults path (act_of d)

-- the fields of a message that reaches a cabinet on a stream
abbrev pub stream_words : List (List ℕ)
stream_words = codes "poll" ∷ codes "load" ∷ codes "priority" ∷ []

abbrev pub stream : Field
stream = needed (codes "stream") (word stream_words)

abbrev pub frame_hex : Field
frame_hex = needed (codes "hex") (hex_text 1472)

abbrev pub frame_shape : ℕ → ℕ → Shape
frame_shape rounds cabinets = record { fields = round rounds ∷ cabinet_number cabinets ∷ stream ∷ frame_hex ∷ []; alternatives = [] }

-- the fields of a fault of the link
abbrev pub way_words : List (List ℕ)
way_words = codes "down" ∷ codes "up" ∷ []

abbrev pub way : Field
way = needed (codes "way") (word way_words)

abbrev pub index : Field
index = optional_whole (codes "index") 0 65535 0

abbrev pub fault_kind_words : List (List ℕ)
fault_kind_words = codes "lose" ∷ codes "repeat" ∷ codes "late" ∷ codes "flip" ∷ codes "cut" ∷ []

abbrev pub fault_kind : Field
fault_kind = needed (codes "kind") (word fault_kind_words)

abbrev pub by : Field
by = optional_whole (codes "by") 0 86400 1

abbrev pub octet : Field
octet = optional_whole (codes "octet") 1 255 1

abbrev pub fault_shape : ℕ → ℕ → Shape
fault_shape rounds cabinets = record {
  fields = round rounds ∷ cabinet_number cabinets ∷ stream ∷ way ∷ index ∷ fault_kind ∷ by ∷ octet ∷ [];
  alternatives = [];
}

-- the fields of the scenario itself
abbrev pub version : Field
version = needed_whole (codes "version") 1 2

abbrev pub rounds : Field
rounds = needed_whole (codes "rounds") 1 86400

abbrev pub ticks : Field
ticks = needed_whole (codes "ticks") 1 600

abbrev pub community : Field
community = optional (codes "community") (text 1 32) (string (codes "public"))

abbrev pub cabinets : ℕ → Field
cabinets version = needed (codes "cabinets") (list_of 1 64 (cabinet version))

abbrev pub master : Field
master = optional (codes "master") (object_of master_shape) (object no_members)

-- an optional list of at most `most` items; by default it is empty
abbrev pub optional_list : List ℕ → ℕ → Kind → Field
optional_list name most kind = optional name (list_of 0 most kind) (array no_items)

-- the lists of the scenario
abbrev pub inputs : ℕ → ℕ → Field
inputs rounds cabinets = optional_list (codes "inputs") 1000000 (object_of (input_shape rounds cabinets))

abbrev pub loads : ℕ → ℕ → Field
loads rounds cabinets = optional (codes "loads") (list_behind (load rounds cabinets) (load_cabinet cabinets)) (array no_items)

abbrev pub priority : ℕ → ℕ → Field
priority rounds cabinets = optional_list (codes "priority") 100000 (priority_item rounds cabinets)

abbrev pub frames : ℕ → ℕ → Field
frames rounds cabinets = optional_list (codes "frames") 100000 (object_of (frame_shape rounds cabinets))

abbrev pub link_faults : ℕ → ℕ → Field
link_faults rounds cabinets = optional_list (codes "faults") 100000 (object_of (fault_shape rounds cabinets))

-- the fields that describe the whole run, after the version
abbrev pub setup_fields : ℕ → List Field
setup_fields version = rounds ∷ ticks ∷ community ∷ cabinets version ∷ master ∷ []

-- the fields of the items that happen in the rounds
abbrev pub event_fields : ℕ → ℕ → List Field
event_fields rounds cabinets = inputs rounds cabinets ∷ loads rounds cabinets ∷ priority rounds cabinets ∷ frames rounds cabinets ∷ link_faults rounds cabinets ∷ []

-- the shape of a scenario
abbrev pub scenario_shape : ℕ → ℕ → ℕ → Shape
scenario_shape version_number rounds cabinets = record {
  fields = version ∷ (setup_fields version_number ++ event_fields rounds cabinets);
  alternatives = [];
}

-- The scenario that a value describes: for each name its value, or the default.
use Rattle.std.specs.Prelude.{ℕ, ◌==◌, Bool, false, if◌then◌else◌, List, [], ◌∷◌, length, bytes_eq, codes}
use Rattle.serde_json.specs.Data.{Data, null, boolean, number, string, array, object, Items, no_items, item}
use Rattle.serde_json.specs.Written.{compact_text}
use Rattle.sig_types.specs.declared.frame.Field.{Field}
use Rattle.sig_types.specs.declared.frame.Field.TheVariants.{Veh, Ped, Preempt}
use Rattle.sig_types.specs.declared.notes.Way.{Way}
use Rattle.sig_types.specs.declared.notes.Way.TheVariants.{Poll, Load, Prio}
use Rattle.scenario_data.specs.declared.scenario.Base.{Base}
use Rattle.scenario_data.specs.declared.scenario.Base.TheVariants.{Std8, Max8}
use Rattle.scenario_data.specs.declared.scenario.Direction.{Direction}
use Rattle.scenario_data.specs.declared.scenario.Direction.TheVariants.{Down, Up}
use Rattle.scenario_data.specs.declared.scenario.FaultKind.{FaultKind}
use Rattle.scenario_data.specs.declared.scenario.FaultKind.TheVariants.{Lose, Repeat, Late, Flip, Cut}
use Rattle.scenario_data.specs.declared.scenario.Entry.{Entry}
use Rattle.scenario_data.specs.declared.scenario.Fault.{Fault}
use Rattle.scenario_data.specs.declared.scenario.Input.{Input}
use Rattle.scenario_data.specs.declared.scenario.PriorityItem.{PriorityItem}
use Rattle.scenario_data.specs.Content.{CabinetContent, FrameContent, LoadContent, MasterContent, ScenarioContent}
use Rattle.scenario_read.specs.Kinds.{items_in}
use Rattle.scenario_read.specs.Fields.{Field as Name, held, stands}
pub use Rattle.scenario_read.specs.CellLists.{whole_of}
use Rattle.scenario_read.specs.CellLists.{cell_of, octets_of}
pub use Rattle.scenario_read.specs.Table.{number_at, request_of, act_of}
use Rattle.scenario_read.specs.Table.{base, cells, pattern, clock, section, gain, lose, second, entry_section, entry_pattern, poll_every, clock_every, pattern_every, retries, schedule, round, cabinet_number, veh, on, ped, preempt, load_cells, stream, frame_hex, way, index, fault_kind, by, octet, version, rounds, ticks, community, cabinets, master, inputs, loads, priority, frames, link_faults}

-- the flag that a value is; false for any other value
abbrev pub flag_of : Data → Bool
flag_of null = false
flag_of (boolean b) = b
flag_of (number n) = false
flag_of (string s) = false
flag_of (array ds) = false
flag_of (object ms) = false

-- the base tables that a value names; std8 for any other value
abbrev pub base_of : Data → Base
base_of null = Std8
base_of (boolean b) = Std8
base_of (number n) = Std8
base_of (string s) = if bytes_eq s (codes "max8") then Max8 else Std8
base_of (array ds) = Std8
base_of (object ms) = Std8

-- the result of `f` for each of these items
abbrev pub each_of : {A : Type 0} → (Data → A) → Items → List A
each_of f no_items = []
each_of f (item d ds) = f d ∷ each_of f ds

-- the result of `f` for each item of a list
abbrev pub list_in : {A : Type 0} → (Data → A) → Data → List A
list_in f d = each_of f (items_in d)

-- the text that a value is; empty for any other value
abbrev pub text_of : Data → List ℕ
text_of null = []
text_of (boolean b) = []
text_of (number n) = []
text_of (string s) = s
text_of (array ds) = []
text_of (object ms) = []

-- the stream that a value names
abbrev pub stream_of : Data → Way
stream_of d = if bytes_eq (text_of d) (codes "poll") then Poll else if bytes_eq (text_of d) (codes "load") then Load else Prio

-- the direction that a value names
abbrev pub direction_of : Data → Direction
direction_of d = if bytes_eq (text_of d) (codes "down") then Down else Up

-- the kind of fault that a value names
abbrev pub fault_kind_of : Data → FaultKind
fault_kind_of d =
    if bytes_eq (text_of d) (codes "lose") then Lose else
    if bytes_eq (text_of d) (codes "repeat") then Repeat else
    if bytes_eq (text_of d) (codes "late") then Late else
    if bytes_eq (text_of d) (codes "flip") then Flip else Cut

-- the number of ticks after which a clock drifts by one tick; 0 (never) in version 1
abbrev pub drift_at : ℕ → Name → Data → ℕ
drift_at version f d = if version == 2 then number_at f d else 0

-- the cabinet that an object describes, in a scenario of this version
abbrev pub cabinet_of : ℕ → Data → CabinetContent
cabinet_of version d = record {
  base = base_of (held base d);
  cells = list_in cell_of (held cells d);
  pattern = number_at pattern d;
  clock = number_at clock d;
  section = number_at section d;
  gain = drift_at version gain d;
  lose = drift_at version lose d;
}

-- the entry of a schedule that an object describes
abbrev pub entry_of : Data → Entry
entry_of d = record { second = number_at second d; section = number_at entry_section d; pattern = number_at entry_pattern d }

-- the master that an object describes
abbrev pub master_of : Data → MasterContent
master_of d = record {
  clock = number_at clock d;
  poll_every = number_at poll_every d;
  clock_every = number_at clock_every d;
  pattern_every = number_at pattern_every d;
  retries = number_at retries d;
  schedule = list_in entry_of (held schedule d);
}

-- the detector, push button or preempt input that an object describes
abbrev pub field_of : Data → Field
field_of d =
    if stands d (veh ∷ on ∷ []) then Veh (number_at veh d) (flag_of (held on d)) else
    if stands d (ped ∷ []) then Ped (number_at ped d) else Preempt (number_at preempt d) (flag_of (held on d))

-- the input that an object describes. The numbers of rounds and cabinets determine which values are valid, not the
-- result
abbrev pub input_of : ℕ → ℕ → Data → Input
input_of round_count cabinet_count d = record {
  round = number_at (round round_count) d;
  cabinet = number_at (cabinet_number cabinet_count) d;
  field = field_of d;
}

-- the load that an object describes
abbrev pub load_of : ℕ → ℕ → Data → LoadContent
load_of round_count cabinet_count d = record {
  round = number_at (round round_count) d;
  cabinet = number_at (cabinet_number cabinet_count) d;
  cells = list_in cell_of (held load_cells d);
}

-- the priority request or its cancel that an object describes, with the round and the cabinet
abbrev pub priority_of : ℕ → ℕ → Data → PriorityItem
priority_of round_count cabinet_count d = record {
  round = number_at (round round_count) d;
  cabinet = number_at (cabinet_number cabinet_count) d;
  act = act_of d;
}

-- the message that an object describes
abbrev pub frame_of : ℕ → ℕ → Data → FrameContent
frame_of round_count cabinet_count d = record {
  round = number_at (round round_count) d;
  cabinet = number_at (cabinet_number cabinet_count) d;
  stream = stream_of (held stream d);
  hex = octets_of (held frame_hex d);
}

-- the fault of the link that an object describes
abbrev pub fault_of : ℕ → ℕ → Data → Fault
fault_of round_count cabinet_count d = record {
  round = number_at (round round_count) d;
  cabinet = number_at (cabinet_number cabinet_count) d;
  stream = stream_of (held stream d);
  way = direction_of (held way d);
  index = number_at index d;
  kind = fault_kind_of (held fault_kind d);
  by = number_at by d;
  octet = number_at octet d;
}

-- the version of the scenario's format
abbrev pub version_number : Data → ℕ
version_number d = number_at version d

-- the number of rounds
abbrev pub round_count : Data → ℕ
round_count d = number_at rounds d

-- the number of ticks in each round
abbrev pub tick_count : Data → ℕ
tick_count d = number_at ticks d

-- the cabinets in order
abbrev pub cabinets_of : Data → List CabinetContent
cabinets_of d = list_in (cabinet_of (version_number d)) (held (cabinets (version_number d)) d)

-- the number of cabinets
abbrev pub cabinet_count : Data → ℕ
cabinet_count d = length (cabinets_of d)

-- what the items of this list describe. The numbers of rounds and cabinets determine which values are valid
abbrev pub events_at : {A : Type 0} → (ℕ → ℕ → Name) → (ℕ → ℕ → Data → A) → ℕ → ℕ → Data → List A
events_at name says round_count cabinet_count d = list_in (says round_count cabinet_count) (held (name round_count cabinet_count) d)

-- the scenario that a value describes
abbrev pub scenario_of : Data → ScenarioContent
scenario_of d = record {
  version = version_number d;
  rounds = round_count d;
  ticks = tick_count d;
  community = text_of (held community d);
  cabinets = cabinets_of d;
  master = master_of (held master d);
  inputs = events_at inputs input_of (round_count d) (cabinet_count d) d;
  loads = events_at loads load_of (round_count d) (cabinet_count d) d;
  priority = events_at priority priority_of (round_count d) (cabinet_count d) d;
  frames = events_at frames frame_of (round_count d) (cabinet_count d) d;
  faults = events_at link_faults fault_of (round_count d) (cabinet_count d) d;
  compact = compact_text d;
}

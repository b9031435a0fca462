-- The table of the names of a field file: the fields of each object in order, each with its valid values and its
-- default.
use Rattle.std.specs.Prelude.{ℕ, List, [], ◌∷◌, codes}
use Rattle.serde_json.specs.Data.{unsigned, Data, number, array, object, item, no_items, member, no_members}
use Rattle.scenario_read.specs.Kinds.{list_of}
use Rattle.scenario_read.specs.Fields.{Field, needed, optional, Shape, object_of}
use Rattle.scenario_read.specs.Table.{needed_whole, optional_list, round, cabinet_number, phase, on}
use Rattle.scenario_checked.specs.Inside.{scenario}

-- the fields of a detector of the bank, for a scenario with this many cabinets
abbrev pub detector : Field
detector = needed_whole (codes "detector") 1 64

abbrev pub delay : Field
delay = needed_whole (codes "delay") 0 255

abbrev pub extend : Field
extend = needed_whole (codes "extend") 0 255

abbrev pub no_activity : Field
no_activity = needed_whole (codes "no_activity") 0 65535

abbrev pub max_presence : Field
max_presence = needed_whole (codes "max_presence") 0 65535

abbrev pub erratic : Field
erratic = needed_whole (codes "erratic") 0 255

abbrev pub detector_shape : ℕ → Shape
detector_shape cabinets = record {
  fields = cabinet_number cabinets ∷ detector ∷ phase ∷ delay ∷ extend ∷ no_activity ∷ max_presence ∷ erratic ∷ [];
  alternatives = [];
}

-- the fields of a pulse: a detector turns on or off in a round
abbrev pub pulse_shape : ℕ → ℕ → Shape
pulse_shape rounds cabinets = record { fields = round rounds ∷ cabinet_number cabinets ∷ detector ∷ on ∷ []; alternatives = [] }

-- the fields of a step in the rule of a section. The step's pattern begins at a volume of `up`, and continues while
-- the volume is at least `down`
abbrev pub up : Field
up = needed_whole (codes "up") 1 1000000

abbrev pub down : Field
down = needed_whole (codes "down") 1 1000000

abbrev pub pattern : Field
pattern = needed_whole (codes "pattern") 0 255

abbrev pub step_shape : Shape
step_shape = record { fields = up ∷ down ∷ pattern ∷ []; alternatives = [] }

-- the fields of the rule of a section
abbrev pub section : Field
section = needed_whole (codes "section") 1 8

abbrev pub base : Field
base = needed_whole (codes "base") 0 255

abbrev pub steps : Field
steps = needed (codes "steps") (list_of 0 8 (object_of step_shape))

abbrev pub section_shape : Shape
section_shape = record { fields = section ∷ base ∷ steps ∷ []; alternatives = [] }

-- the fields of patterns that follow the traffic
abbrev pub period : Field
period = needed_whole (codes "period") 1 3600

abbrev pub sections : Field
sections = needed (codes "sections") (list_of 1 8 (object_of section_shape))

abbrev pub respond_shape : Shape
respond_shape = record { fields = period ∷ sections ∷ []; alternatives = [] }

-- the default for `respond`: a value without a fault, whose content isn't used
abbrev pub unasked_section : Data
unasked_section =
    object (member (codes "base") (number (unsigned 0)) (member (codes "section") (number (unsigned 1)) (member (codes "steps") (array no_items) no_members)))

abbrev pub unasked : Data
unasked = object (member (codes "period") (number (unsigned 1)) (member (codes "sections") (array (item unasked_section no_items)) no_members))

-- the fields of a field file, for a scenario with this many rounds and cabinets
abbrev pub bank : ℕ → Field
bank cabinets = optional_list (codes "bank") 512 (object_of (detector_shape cabinets))

abbrev pub pulses : ℕ → ℕ → Field
pulses rounds cabinets = optional_list (codes "pulses") 1000000 (object_of (pulse_shape rounds cabinets))

abbrev pub respond : Field
respond = optional (codes "respond") (object_of respond_shape) unasked

abbrev pub traffic_fields : ℕ → ℕ → List Field
traffic_fields rounds cabinets = bank cabinets ∷ pulses rounds cabinets ∷ respond ∷ []

abbrev pub field_shape : ℕ → ℕ → Shape
field_shape rounds cabinets = record { fields = scenario ∷ traffic_fields rounds cabinets; alternatives = [] }

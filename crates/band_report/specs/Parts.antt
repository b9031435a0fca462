-- The parts of a request for bands: what was read at each of its names, and the items of its travel times.
use Rattle.std.specs.Prelude.{ℕ, ◌≡◌, ◌≤◌, List, [], ◌∷◌, length, Result, codes}
use Rattle.serde_json.specs.Data.{Data, null, boolean, number, string, array, object, Items, Members, put}
use Rattle.scenario_data.specs.declared.refusal.ReadFail.{ReadFail}
use Rattle.scenario_data.specs.declared.scenario.Scenario.{Scenario}
use Rattle.scenario_data.specs.Content.{scenario_content}
use Rattle.scenario_read.specs.Paths.{then_named}
use Rattle.scenario_read.specs.Kinds.{each, whole}
use Rattle.scenario_read.specs.Content.{cabinets_of, each_of, list_in, number_at, whole_of}
use Rattle.scenario_read.specs.Fields.{Field, held, field_faults, names, unknown_faults}
use Rattle.scenario_read.specs.Readers.{Answers}
use Rattle.scenario_checked.specs.Inside.{scenario}
use Rattle.scenario_cut.specs.Judging.{Tells}
use Rattle.band_report.specs.declared.asked.Beside.{Beside}
use Rattle.band_report.specs.declared.legs.Legs.{Legs}
use Rattle.band_report.specs.declared.parts.Parts.{Parts}
use Rattle.band_report.specs.Asked.{section, pattern, travel, travel_asked, asked_shape}

-- ---- values

-- the value if it is a number; otherwise null represents it
abbrev pub number_alone : Data → Data
number_alone null = null
number_alone (boolean b) = null
number_alone (number n) = number n
number_alone (string s) = null
number_alone (array ds) = null
number_alone (object ms) = null

-- the items were read as travel times: the refusal names their first fault, or they have no fault and these are the
-- times
abbrev pub AreLegs : Legs → Items → Type 0
AreLegs legs ds =
    Tells legs.refusal (each (whole 0 864000) (then_named [] (codes "travel")) 0 ds) (legs.found.items ≡ each_of whole_of ds)

-- ---- the four names

-- the answer to the value at a name of the object with these members
abbrev pub AnswersAt : {A : Type 0} → Field → Result A ReadFail → (A → Data → Type 0) → Members → Type 0
AnswersAt field answer Says ms = Answers answer (field_faults [] (object ms) field) (λ a. Says a (held field (object ms)))

-- the scenario has the cabinets that the value describes, and at most 64
abbrev pub SaysCabinets : Scenario → Data → Type 0
SaysCabinets s d = ((scenario_content s).cabinets ≡ cabinets_of d) × (length s.cabinets.items ≤ 64)

-- the value is this number
abbrev pub SaysNumber : ℕ → Data → Type 0
SaysNumber n d = n ≡ whole_of d

-- the parts are the answers to the names of the object with these members; all its names are known
pub record PartsStand (parts : Parts) (ms : Members) : Type 0 where
  pub known : unknown_faults (names asked_shape.fields) [] ms ≡ []
  pub scenario : AnswersAt scenario parts.scenario SaysCabinets ms
  pub section : AnswersAt section parts.section SaysNumber ms
  pub pattern : AnswersAt pattern parts.pattern SaysNumber ms
  pub travel : AnswersAt travel parts.travel (λ found d. found.items ≡ list_in whole_of d) ms

-- after a value was put at a name, the parts are those of the object with this value
abbrev pub Puts : Parts → Parts → List ℕ → Data → Type 0
Puts old new name d = (ms : Members) → PartsStand old ms → PartsStand new (put name d ms)

-- ---- an object that is kept

-- the fields in addition to the scenario
abbrev pub beside_fields : List Field
beside_fields = section ∷ pattern ∷ travel ∷ []

-- what was read for these fields is what the value describes
pub record SaysBeside (beside : Beside) (d : Data) : Type 0 where
  pub section : beside.section ≡ number_at section d
  pub pattern : beside.pattern ≡ number_at pattern d
  pub travel : beside.travel.items ≡ travel_asked d

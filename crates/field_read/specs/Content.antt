-- The content of a field file: for each name its value, or the default.
use Rattle.std.specs.Prelude.{ℕ, List, map, Option, option_map}
use Rattle.serde_json.specs.Data.{Data}
use Rattle.serde_json.specs.Find.{get}
use Rattle.scenario_data.specs.Content.{ScenarioContent, scenario_content}
use Rattle.scenario_read.specs.Fields.{held}
use Rattle.scenario_read.specs.Table.{round, cabinet_number, phase, on}
use Rattle.scenario_read.specs.Content.{number_at, flag_of, list_in, round_count, cabinet_count, scenario_of}
use Rattle.scenario_checked.specs.Inside.{scenario}
use Rattle.detector_bank.specs.declared.bank.Detector.{Detector}
use Rattle.detector_bank.specs.declared.bank.Pulse.{Pulse}
use Rattle.responsive.specs.declared.Rule.{Rule}
use Rattle.responsive.specs.declared.Step.{Step}
use Rattle.field_read.specs.declared.respond.Respond.{Respond}
use Rattle.field_read.specs.declared.named.Field.{Field}
use Rattle.field_read.specs.Table.{detector, delay, extend, no_activity, max_presence, erratic, up, down, pattern, section, base, steps, period, sections, respond, bank, pulses}

-- the rule of a section: its base pattern and its steps
pub record RuleContent : Type 0 where
  pub section : ℕ
  pub base : ℕ
  pub steps : List Step

-- the rules of all sections, and the number of rounds in a period
pub record RespondContent : Type 0 where
  pub period : ℕ
  pub sections : List RuleContent

-- a field file: its scenario, its bank, its pulses, and its rules, if it has any
pub record FieldContent : Type 0 where
  pub scenario : ScenarioContent
  pub bank : List Detector
  pub pulses : List Pulse
  pub respond : Option RespondContent

-- the content of a rule
abbrev pub rule_content : Rule → RuleContent
rule_content r = record { section = r.section; base = r.base; steps = r.steps.items }

-- the content of the rules of all sections
abbrev pub respond_content : Respond → RespondContent
respond_content r = record { period = r.period; sections = map rule_content r.sections.items }

-- the content of a field file
abbrev pub field_content : Field → FieldContent
field_content f = record {
  scenario = scenario_content f.scenario;
  bank = f.bank.items;
  pulses = f.pulses.items;
  respond = option_map respond_content f.respond;
}

-- what an object describes. The numbers of rounds and cabinets determine which values are valid, not the result
abbrev pub detector_of : ℕ → Data → Detector
detector_of cabinets d = record {
  cabinet = number_at (cabinet_number cabinets) d;
  detector = number_at detector d;
  phase = number_at phase d;
  delay = number_at delay d;
  extend = number_at extend d;
  no_activity = number_at no_activity d;
  max_presence = number_at max_presence d;
  erratic = number_at erratic d;
}

abbrev pub pulse_of : ℕ → ℕ → Data → Pulse
pulse_of rounds cabinets d = record {
  round = number_at (round rounds) d;
  cabinet = number_at (cabinet_number cabinets) d;
  detector = number_at detector d;
  on = flag_of (held on d);
}

abbrev pub step_of : Data → Step
step_of d = record { up = number_at up d; down = number_at down d; pattern = number_at pattern d }

abbrev pub rule_of : Data → RuleContent
rule_of d = record { section = number_at section d; base = number_at base d; steps = list_in step_of (held steps d) }

abbrev pub respond_of : Data → RespondContent
respond_of d = record { period = number_at period d; sections = list_in rule_of (held sections d) }

-- the lists of a field file, and its rules, if it has any
abbrev pub bank_of : ℕ → Data → List Detector
bank_of cabinets d = list_in (detector_of cabinets) (held (bank cabinets) d)

abbrev pub pulses_of : ℕ → ℕ → Data → List Pulse
pulses_of rounds cabinets d = list_in (pulse_of rounds cabinets) (held (pulses rounds cabinets) d)

abbrev pub respond_asked : Data → Option RespondContent
respond_asked d = option_map respond_of (get respond.name d)

-- the number of rounds and of cabinets in the scenario of a field file
abbrev pub rounds_run : Data → ℕ
rounds_run d = round_count (held scenario d)

abbrev pub cabinets_run : Data → ℕ
cabinets_run d = cabinet_count (held scenario d)

-- the field file that a value describes
abbrev pub field_of : Data → FieldContent
field_of d = record {
  scenario = scenario_of (held scenario d);
  bank = bank_of (cabinets_run d) d;
  pulses = pulses_of (rounds_run d) (cabinets_run d) d;
  respond = respond_asked d;
}

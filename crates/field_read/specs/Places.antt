-- The place of a reader in a field file, and what its parts describe.
use Rattle.std.specs.Prelude.{ℕ, ◌≡◌, ◌*◌, ◌+◌, ◌<◌, ◌≤◌, Bool, false, List, [], ◌∷◌, length, get_or, codes, option_map}
use Rattle.serde_json.specs.Data.{Data}
use Rattle.scenario_read.specs.Paths.{Step as PathStep, Named}
use Rattle.detector_bank.specs.declared.bank.Detector.{Detector as BankDetector}
use Rattle.detector_bank.specs.declared.bank.Pulse.{Pulse as BankPulse}
use Rattle.field_read.specs.declared.place.Place.{Place}
use Rattle.field_read.specs.declared.place.Place.TheVariants.{Top, Scenario, Master, Detector, Pulse, Respond, Section, Step}
use Rattle.field_read.specs.declared.traffic.Traffic.{Traffic}
use Rattle.field_read.specs.Content.{respond_content, bank_of, pulses_of, respond_asked}
use Rattle.field_read.specs.Checks.{detector_path, pulse_path, section_path, step_path, has_detector}

-- the path of a place
abbrev pub steps_of : Place → List PathStep
steps_of Top = []
steps_of Scenario = Named (codes "scenario") ∷ []
steps_of Master = Named (codes "scenario") ∷ Named (codes "master") ∷ []
steps_of (Detector i) = detector_path i
steps_of (Pulse i) = pulse_path i
steps_of Respond = Named (codes "respond") ∷ []
steps_of (Section i) = section_path i
steps_of (Step i j) = step_path i j

-- what was read after the scenario is what the value describes, for this many rounds and cabinets
pub record SaysTraffic (traffic : Traffic) (rounds cabinets : ℕ) (d : Data) : Type 0 where
  pub bank : traffic.bank.items ≡ bank_of cabinets d
  pub pulses : traffic.pulses.items ≡ pulses_of rounds cabinets d
  pub respond : option_map respond_content traffic.respond ≡ respond_asked d

-- the detectors and the pulses have cabinets and numbers of at most 64
abbrev pub BankPlaced : List BankDetector → Type 0
BankPlaced ds = (k : ℕ) (d : BankDetector) → k < length ds → ((get_or ds k d).cabinet ≤ 64) × ((get_or ds k d).detector ≤ 64)

abbrev pub PulsesPlaced : List BankPulse → Type 0
PulsesPlaced ps = (k : ℕ) (p : BankPulse) → k < length ps → ((get_or ps k p).cabinet ≤ 64) × ((get_or ps k p).detector ≤ 64)

-- the marks say which detectors are in the list
abbrev pub Marks : List Bool → List BankDetector → Type 0
Marks marks ds = (cabinet detector : ℕ) → cabinet ≤ 64 → detector ≤ 64 → get_or marks (cabinet * 65 + detector) false ≡ has_detector ds cabinet detector

-- All faults of a field file, in the order of the checks: first names and values, then checks across its lists.
-- Places in lists are counted from 0.
use Rattle.std.specs.Prelude.{ℕ, zero, suc, ◌*◌, ◌%◌, ◌==◌, ◌&&◌, ◌||◌, nat_le, nat_lt, Bool, true, false, if◌then◌else◌, List, [], ◌∷◌, ◌++◌, length, take, get_or, codes, Option, Some, None}
use Rattle.serde_json.specs.Data.{Data}
use Rattle.scenario_data.specs.declared.scenario.Entry.{Entry}
use Rattle.scenario_data.specs.Causes.{Cause}
use Rattle.scenario_data.specs.Content.{ScenarioContent}
use Rattle.scenario_read.specs.Paths.{Step as PathStep, Named, Item}
use Rattle.scenario_read.specs.Kinds.{Fit, Fits, Wrong, Beyond, fault_at}
use Rattle.scenario_read.specs.Fields.{object_of}
use Rattle.detector_bank.specs.declared.bank.Detector.{Detector}
use Rattle.detector_bank.specs.declared.bank.Pulse.{Pulse}
use Rattle.responsive.specs.declared.Step.{Step}
use Rattle.responsive.specs.Level.{step_to}
use Rattle.field_read.specs.Table.{field_shape}
use Rattle.field_read.specs.Content.{RuleContent, RespondContent, FieldContent, rounds_run, cabinets_run, field_of}

-- the path of a detector of the bank
abbrev pub detector_path : ℕ → List PathStep
detector_path i = Named (codes "bank") ∷ Item i ∷ []

-- the path of a pulse
abbrev pub pulse_path : ℕ → List PathStep
pulse_path i = Named (codes "pulses") ∷ Item i ∷ []

-- the path of the rule of a section
abbrev pub section_path : ℕ → List PathStep
section_path i = Named (codes "respond") ∷ Named (codes "sections") ∷ Item i ∷ []

-- the path of a step in the rule of a section
abbrev pub step_path : ℕ → ℕ → List PathStep
step_path i j = Named (codes "respond") ∷ Named (codes "sections") ∷ Item i ∷ Named (codes "steps") ∷ Item j ∷ []

-- the faults at the places 0 to n - 1, in order
abbrev pub upto : (ℕ → List Cause) → ℕ → List Cause
upto faults zero = []
upto faults (suc n) = upto faults n ++ faults n

-- the list contains the detector with this number at this cabinet
abbrev pub has_detector : List Detector → ℕ → ℕ → Bool
has_detector [] cabinet detector = false
has_detector (d ∷ ds) cabinet detector = ((d.cabinet == cabinet) && (d.detector == detector)) || has_detector ds cabinet detector

-- the detector at this place of a list
abbrev pub detector_at : List Detector → ℕ → Detector
detector_at bank i =
    get_or bank i (record { cabinet = 0; detector = 0; phase = 0; delay = 0; extend = 0; no_activity = 0; max_presence = 0; erratic = 0 })

-- the pulse at this place of a list
abbrev pub pulse_at : List Pulse → ℕ → Pulse
pulse_at pulses i = get_or pulses i (record { round = 0; cabinet = 0; detector = 0; on = false })

-- the rule at this place of a list
abbrev pub rule_at : List RuleContent → ℕ → RuleContent
rule_at rules i = get_or rules i (record { section = 0; base = 0; steps = [] })

-- a detector of the bank must not repeat an earlier detector
abbrev pub bank_fit : List Detector → ℕ → Fit
bank_fit bank i = if has_detector (take i bank) (detector_at bank i).cabinet (detector_at bank i).detector then Wrong else Fits

abbrev pub bank_fault : List Detector → ℕ → List Cause
bank_fault bank i = fault_at (detector_path i) (bank_fit bank i)

abbrev pub bank_faults : List Detector → List Cause
bank_faults bank = upto (bank_fault bank) (length bank)

-- the detector of a pulse must be in the bank
abbrev pub pulse_fit : List Detector → List Pulse → ℕ → Fit
pulse_fit bank pulses i = if has_detector bank (pulse_at pulses i).cabinet (pulse_at pulses i).detector then Fits else Wrong

abbrev pub pulse_fault : List Detector → List Pulse → ℕ → List Cause
pulse_fault bank pulses i = fault_at (pulse_path i) (pulse_fit bank pulses i)

abbrev pub pulse_faults : List Detector → List Pulse → List Cause
pulse_faults bank pulses = upto (pulse_fault bank pulses) (length pulses)

-- the test holds at one of the places 0 to n - 1
abbrev pub any_below : (ℕ → Bool) → ℕ → Bool
any_below test zero = false
any_below test (suc n) = any_below test n || test n

-- a section must not have a second rule
abbrev pub has_section : List RuleContent → ℕ → ℕ → Bool
has_section rules section i = (rule_at rules i).section == section

abbrev pub is_repeated : List RuleContent → ℕ → Bool
is_repeated rules i = any_below (has_section rules (rule_at rules i).section) i

abbrev pub section_fit : List RuleContent → ℕ → Fit
section_fit rules i = if is_repeated rules i then Wrong else Fits

abbrev pub section_fault : List RuleContent → ℕ → List Cause
section_fault rules i = fault_at (section_path i) (section_fit rules i)

abbrev pub section_faults : List RuleContent → List Cause
section_faults rules = upto (section_fault rules) (length rules)

-- both volumes of a step are above those of the step before
abbrev pub is_above : List Step → ℕ → Bool
is_above steps zero = true
is_above steps (suc j) = nat_lt (step_to steps j).up (step_to steps (suc j)).up && nat_lt (step_to steps j).down (step_to steps (suc j)).down

-- the `down` of a step is at most its `up`, and both increase from step to step
abbrev pub step_fit : List Step → ℕ → Fit
step_fit steps j = if nat_le (step_to steps j).down (step_to steps j).up && is_above steps j then Fits else Beyond

abbrev pub step_fault : ℕ → List Step → ℕ → List Cause
step_fault i steps j = fault_at (step_path i j) (step_fit steps j)

abbrev pub step_faults : ℕ → List Step → List Cause
step_faults i steps = upto (step_fault i steps) (length steps)

abbrev pub rule_step_faults : List RuleContent → ℕ → List Cause
rule_step_faults rules i = step_faults i (rule_at rules i).steps

abbrev pub all_step_faults : List RuleContent → List Cause
all_step_faults rules = upto (rule_step_faults rules) (length rules)

-- the scenario must not have its own schedule
abbrev pub schedule_fit : List Entry → Fit
schedule_fit [] = Fits
schedule_fit (entry ∷ entries) = Wrong

abbrev pub schedule_faults : ScenarioContent → List Cause
schedule_faults s = fault_at (Named (codes "scenario") ∷ Named (codes "master") ∷ Named (codes "schedule") ∷ []) (schedule_fit s.master.schedule)

-- each period must begin at a whole second of the master's clock
abbrev pub period_fit : ℕ → ℕ → ℕ → Fit
period_fit clock period ticks = if (clock % 10 == 0) && ((period * ticks) % 10 == 0) then Fits else Beyond

abbrev pub period_faults : ScenarioContent → ℕ → List Cause
period_faults s period = fault_at (Named (codes "respond") ∷ Named (codes "period") ∷ []) (period_fit s.master.clock period s.ticks)

-- the rounds must not take more than a day
abbrev pub day_fit : ℕ → Fit
day_fit ticks = if nat_le ticks 864000 then Fits else Beyond

abbrev pub day_faults : ScenarioContent → List Cause
day_faults s = fault_at (Named (codes "scenario") ∷ Named (codes "rounds") ∷ []) (day_fit (s.rounds * s.ticks))

-- the faults across the rules and the scenario, if patterns follow the traffic
abbrev pub respond_faults : ScenarioContent → RespondContent → List Cause
respond_faults s r = section_faults r.sections ++ (all_step_faults r.sections ++ (schedule_faults s ++ (period_faults s r.period ++ day_faults s)))

abbrev pub asked_faults : ScenarioContent → Option RespondContent → List Cause
asked_faults s None = []
asked_faults s (Some r) = respond_faults s r

-- the faults across the lists
abbrev pub across_faults : FieldContent → List Cause
across_faults f = bank_faults f.bank ++ (pulse_faults f.bank f.pulses ++ asked_faults f.scenario f.respond)

-- the faults of names and values, with the faults of the scenario
abbrev pub named_faults : Data → List Cause
named_faults d = object_of (field_shape (rounds_run d) (cabinets_run d)) [] d

-- all faults, in the order of the checks
abbrev pub file_faults : Data → List Cause
file_faults d = named_faults d ++ across_faults (field_of d)

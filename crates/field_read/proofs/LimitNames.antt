-- No limit of a field file is that of the whole: each has the name of what is beyond it.
use Rattle.std.proofs.Common.{◌≡◌, ◌*◌, ℕ, zero, suc, List, [], ◌∷◌, ◌++◌, length, Option, Some, None, codes, String, string_bytes, arith}
use Rattle.std.specs.declared.alloc.Global.{Global}
use Rattle.serde_json.specs.Data.{Data}
use Rattle.scenario_data.specs.declared.refusal.Refusal.TheVariants.{Limit as LimitRefusal}
use Rattle.scenario_data.specs.Causes.{Cause}
use Rattle.scenario_data.specs.Content.{ScenarioContent}
use Rattle.scenario_read.specs.Paths.{Named}
use Rattle.scenario_read.specs.Fields.{object_of}
use Rattle.scenario_read.proofs.Elsewhere.{AllElsewhere, joined, at-elsewhere, Good, list-good, whole-good, flag-good, none-chosen, object-elsewhere, object-good, first-elsewhere, no-word}
use Rattle.scenario_checked.proofs.InnerNames.{inner-good}
use Rattle.field_read.specs.Table.{detector_shape, pulse_shape, step_shape, section_shape, respond_shape, field_shape}
use Rattle.field_read.specs.Content.{RuleContent, RespondContent, FieldContent, rounds_run, cabinets_run, field_of}
use Rattle.field_read.specs.Checks.{upto, section_faults, all_step_faults, schedule_faults, period_faults, day_faults, respond_faults, asked_faults, bank_faults, pulse_faults, across_faults, named_faults, file_faults, detector_path, bank_fit, pulse_path, pulse_fit, section_path, section_fit, section_fault, bank_fault, pulse_fault, step_fault, rule_step_faults, step_path, step_fit, rule_at, schedule_fit, period_fit, day_fit}
use Rattle.field_read.specs.Answers.{IsFirstFieldFault}

detector-good : (c : ℕ) → Good (object_of (detector_shape c))
detector-good c = object-good (detector_shape c) (
  omega arith,
  whole-good 1 c,
  (
    omega arith,
    whole-good 1 64,
    (
      omega arith,
      whole-good 1 16,
      (
        omega arith,
        whole-good 0 255,
        (omega arith, whole-good 0 255, (omega arith, whole-good 0 65535, (omega arith, whole-good 0 65535, (omega arith, whole-good 0 255, tt)))),
      ),
    ),
  ),
)
    none-chosen

pulse-good : (r c : ℕ) → Good (object_of (pulse_shape r c))
pulse-good r c =
    object-good (pulse_shape r c) (omega arith, whole-good 1 r, (omega arith, whole-good 1 c, (omega arith, whole-good 1 64, (omega arith, flag-good, tt))))
    none-chosen

step-good : Good (object_of step_shape)
step-good = object-good step_shape (omega arith, whole-good 1 1000000, (omega arith, whole-good 1 1000000, (omega arith, whole-good 0 255, tt))) none-chosen

section-good : Good (object_of section_shape)
section-good =
    object-good section_shape (omega arith, whole-good 1 8, (omega arith, whole-good 0 255, (omega arith, list-good 0 8 _ step-good, tt))) none-chosen

respond-good : Good (object_of respond_shape)
respond-good = object-good respond_shape (omega arith, whole-good 1 3600, (omega arith, list-good 1 8 _ section-good, tt)) none-chosen

named-elsewhere : (d : Data) → AllElsewhere (named_faults d)
named-elsewhere d =
    let r = rounds_run d in
    let c = cabinets_run d in
    object-elsewhere (field_shape r c) [] d tt (
      omega arith,
      inner-good,
      (omega arith, list-good 0 512 _ (detector-good c), (omega arith, list-good 0 1000000 _ (pulse-good r c), (omega arith, respond-good, tt))),
    )
    none-chosen

-- the faults at the places of a list
upto-elsewhere : (f : ℕ → List Cause) → ((i : ℕ) → AllElsewhere (f i)) → (n : ℕ) → AllElsewhere (upto f n)
upto-elsewhere f each zero = tt
upto-elsewhere f each (suc n) = joined (upto f n) (f n) (upto-elsewhere f each n) (each n)

steps-elsewhere : (rules : List RuleContent) → AllElsewhere (all_step_faults rules)
steps-elsewhere rules =
    upto-elsewhere (rule_step_faults rules)
    (λ i. upto-elsewhere (step_fault i (rule_at rules i).steps) (λ j. at-elsewhere (step_path i j) (step_fit (rule_at rules i).steps j) (omega arith)) (length (rule_at rules i).steps))
    (length rules)

respond-elsewhere : (s : ScenarioContent) (r : RespondContent) → AllElsewhere (respond_faults s r)
respond-elsewhere s r =
    let schedule : AllElsewhere (schedule_faults s) =
    at-elsewhere (Named (codes "scenario") ∷ Named (codes "master") ∷ Named (codes "schedule") ∷ []) (schedule_fit s.master.schedule) (omega arith) in
    let seconds : AllElsewhere (period_faults s r.period) = at-elsewhere (Named (codes "respond") ∷ Named (codes "period") ∷ []) (period_fit s.master.clock r.period s.ticks) (omega arith) in
    let day : AllElsewhere (day_faults s) = at-elsewhere (Named (codes "scenario") ∷ Named (codes "rounds") ∷ []) (day_fit (s.rounds * s.ticks)) (omega arith) in
    let differ : AllElsewhere (section_faults r.sections) =
    upto-elsewhere (section_fault r.sections) (λ i. at-elsewhere (section_path i) (section_fit r.sections i) (omega arith)) (length r.sections) in
    joined (section_faults r.sections) (all_step_faults r.sections ++ (schedule_faults s ++ (period_faults s r.period ++ day_faults s))) differ
    (joined (all_step_faults r.sections) (schedule_faults s ++ (period_faults s r.period ++ day_faults s)) (steps-elsewhere r.sections)
    (joined (schedule_faults s) (period_faults s r.period ++ day_faults s) schedule (joined (period_faults s r.period) (day_faults s) seconds day)))

asked-elsewhere : (s : ScenarioContent) (o : Option RespondContent) → AllElsewhere (asked_faults s o)
asked-elsewhere s None = tt
asked-elsewhere s (Some r) = respond-elsewhere s r

across-elsewhere : (f : FieldContent) → AllElsewhere (across_faults f)
across-elsewhere f =
    joined (bank_faults f.bank) _
    (upto-elsewhere (bank_fault f.bank) (λ i. at-elsewhere (detector_path i) (bank_fit f.bank i) (omega arith)) (length f.bank))
    (joined (pulse_faults f.bank f.pulses) (asked_faults f.scenario f.respond)
    (upto-elsewhere (pulse_fault f.bank f.pulses) (λ i. at-elsewhere (pulse_path i) (pulse_fit f.bank f.pulses i) (omega arith)) (length f.pulses))
    (asked-elsewhere f.scenario f.respond))

all-elsewhere : (d : Data) → AllElsewhere (file_faults d)
all-elsewhere d = joined (named_faults d) (across_faults (field_of d)) (named-elsewhere d) (across-elsewhere (field_of d))

pub limit-elsewhere : (bytes : List ℕ) (path : String Global) → IsFirstFieldFault bytes (LimitRefusal path) → string_bytes path ≡ codes "." → ⊥
limit-elsewhere bytes path (d, reads, first) e = no-word (string_bytes path) e (first-elsewhere (file_faults d) (string_bytes path) (all-elsewhere d) first)

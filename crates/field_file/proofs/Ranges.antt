-- What a field file without faults at its names says is in range: its detectors, its pulses, its rules and the rounds of its scenario.
use Rattle.std.proofs.Common.{◌≡◌, ◌≤◌, ◌<◌, ℕ, zero, suc, List, [], ◌∷◌, length, get_or, codes, Option, Some, None, unwrap_or, option_map, refl, sym, ap, subst, arith}
use Rattle.serde_json.specs.Data.{Data, null}
use Rattle.serde_json.specs.Find.{get}
use Rattle.scenario_data.specs.Causes.{Cause}
use Rattle.scenario_read.specs.Paths.{Step as PathStep, Named, then_named}
use Rattle.scenario_read.specs.Kinds.{items_in}
use Rattle.scenario_read.specs.Fields.{held, either, faults_of, object_of}
use Rattle.scenario_read.specs.Table.{scenario_shape}
use Rattle.scenario_read.specs.Content.{version_number, round_count, cabinet_count}
use Rattle.scenario_read.specs.Faults.{faults}
use Rattle.scenario_read.proofs.Walks.{each_of-len}
use Rattle.scenario_read.proofs.Whole.{faultless-parts}
use Rattle.scenario_checked.proofs.RangesParts.{list-in, held-in, object-in, all-clean}
use Rattle.scenario_checked.specs.Inside.{inner_scenario, scenario}
use Rattle.responsive.specs.declared.Step.{Step}
use Rattle.responsive.specs.Level.{step_to}
use Rattle.field_read.specs.Table.{detector_shape, pulse_shape, step_shape, section_shape, respond_shape, steps, sections, bank, pulses, respond}
use Rattle.field_read.specs.Content.{RuleContent, RespondContent, detector_of, pulse_of, step_of, rule_of, respond_of, bank_of, pulses_of, respond_asked, rounds_run, cabinets_run}
use Rattle.field_read.specs.Checks.{named_faults}
use Rattle.field_read.proofs.Placed.{whole-held, none-mapped, named-clean}
use Rattle.field_file.specs.Counting.{RulesStand}
use Rattle.field_file.proofs.Every.{Every, every-at, every-read}
use Rattle.field_file.proofs.Called.{IsPlaced}

-- ---- the scenario

none-cons : (cause : Cause) (causes : List Cause) → cause ∷ causes ≡ [] → ⊥
none-cons cause causes e = absurd (cc)

pub scenario-stands : (d : Data) → named_faults d ≡ [] → get (codes "scenario") d ≡ None → ⊥
scenario-stands d e none =
    let path : List PathStep = then_named [] (codes "scenario") in
    none-cons _ _ (subst (λ (o : Option Data). faults_of inner_scenario path (either o None) ≡ []) none (named-clean d e).0)

pub scenario-faultless : (d : Data) → named_faults d ≡ [] → faults (held scenario d) ≡ []
scenario-faultless d e = none-mapped (faults (held scenario d)) (held-in [] d scenario (named-clean d e).0)

pub rounds-few : (s : Data) → faults s ≡ [] → round_count s ≤ 86400
rounds-few s e =
    let shape = scenario_shape (version_number s) (round_count s) (cabinet_count s) in
    let own = all-clean [] s shape.fields (object-in shape [] s (faultless-parts s e).0).0 in
    (whole-held [] s (codes "rounds") 1 86400 own.1.0).1

-- ---- the bank and the pulses

detector-in : (cabinets : ℕ) (path : List PathStep) (d : Data) → object_of (detector_shape cabinets) path d ≡ [] → IsPlaced cabinets (detector_of cabinets d)
detector-in cabinets path d e =
    let own = all-clean path d (detector_shape cabinets).fields (object-in (detector_shape cabinets) path d e).0 in
    let cabinet = whole-held path d (codes "cabinet") 1 cabinets own.0 in
    let phase = whole-held path d (codes "phase") 1 16 own.1.1.0 in
    record { some = cabinet.0; few = cabinet.1; least = phase.0; most = phase.1 }

pub bank-in : (d : Data) → named_faults d ≡ [] → Every (IsPlaced (cabinets_run d)) (bank_of (cabinets_run d) d)
bank-in d e =
    let c = cabinets_run d in
    let clean = list-in 0 512 (object_of (detector_shape c)) (then_named [] (bank c).name) (held (bank c) d) (held-in [] d (bank c) (named-clean d e).1.0) in
    every-read (object_of (detector_shape c)) (detector_of c) (IsPlaced c) (detector-in c) (then_named [] (bank c).name) 0 (items_in (held (bank c) d)) clean.2

pub pulses-few : (d : Data) → named_faults d ≡ [] → length (pulses_of (rounds_run d) (cabinets_run d) d) ≤ 1000000
pulses-few d e =
    let r = rounds_run d in
    let c = cabinets_run d in
    let clean = list-in 0 1000000 (object_of (pulse_shape r c)) (then_named [] (pulses r c).name) (held (pulses r c) d) (held-in [] d (pulses r c) (named-clean d e).1.1.0) in
    subst (λ (n : ℕ). n ≤ 1000000) (sym (each_of-len (pulse_of r c) (items_in (held (pulses r c) d)))) clean.1

-- ---- the rules

pub record StepInRange (s : Step) : Type 0 where
  pub up : s.up ≤ 1000000
  pub down : s.down ≤ 1000000
  pub pattern : s.pattern ≤ 255

pub record RuleInRange (r : RuleContent) : Type 0 where
  pub some : 1 ≤ r.section
  pub few : r.section ≤ 8
  pub base : r.base ≤ 255
  pub count : length r.steps ≤ 8
  pub steps : Every StepInRange r.steps

pub record RespondInRange (r : RespondContent) : Type 0 where
  pub period : 0 < r.period
  pub sections : Every RuleInRange r.sections

step-in : (path : List PathStep) (d : Data) → object_of step_shape path d ≡ [] → StepInRange (step_of d)
step-in path d e =
    let own = all-clean path d step_shape.fields (object-in step_shape path d e).0 in record {
      up = (whole-held path d (codes "up") 1 1000000 own.0).1;
      down = (whole-held path d (codes "down") 1 1000000 own.1.0).1;
      pattern = (whole-held path d (codes "pattern") 0 255 own.1.1.0).1;
    }

rule-in : (path : List PathStep) (d : Data) → object_of section_shape path d ≡ [] → RuleInRange (rule_of d)
rule-in path d e =
    let own = all-clean path d section_shape.fields (object-in section_shape path d e).0 in
    let number = whole-held path d (codes "section") 1 8 own.0 in
    let listed = list-in 0 8 (object_of step_shape) (then_named path (codes "steps")) (held steps d) (held-in path d steps own.1.1.0) in record {
      some = number.0;
      few = number.1;
      base = (whole-held path d (codes "base") 0 255 own.1.0).1;
      count = subst (λ (n : ℕ). n ≤ 8) (sym (each_of-len step_of (items_in (held steps d)))) listed.1;
      steps = every-read (object_of step_shape) step_of StepInRange step-in (then_named path (codes "steps")) 0 (items_in (held steps d)) listed.2;
    }

respond-in : (path : List PathStep) (d : Data) → object_of respond_shape path d ≡ [] → RespondInRange (respond_of d)
respond-in path d e =
    let own = all-clean path d respond_shape.fields (object-in respond_shape path d e).0 in
    let listed = list-in 1 8 (object_of section_shape) (then_named path (codes "sections")) (held sections d) (held-in path d sections own.1.0) in
    let least = (whole-held path d (codes "period") 1 3600 own.0).0 in record {
      period = least;
      sections = every-read (object_of section_shape) rule_of RuleInRange rule-in (then_named path (codes "sections")) 0 (items_in (held sections d)) listed.2;
    }

pub rules-in : (d : Data) (r : RespondContent) → named_faults d ≡ [] → respond_asked d ≡ Some r → RespondInRange r
rules-in d r e is = from (get (codes "respond") d) refl
  where
    clean : object_of respond_shape (Named (codes "respond") ∷ []) (held respond d) ≡ []
    clean = held-in [] d respond (named-clean d e).1.1.1.0

    from : (o : Option Data) → get (codes "respond") d ≡ o → RespondInRange r
    from None there = let none : respond_asked d ≡ None = ap (option_map respond_of) there in absurd (cc)
    from (Some x) there =
        let said : respond_asked d ≡ Some (respond_of x) = ap (option_map respond_of) there in
        let same : respond_of x ≡ r = cc in
        let here : held respond d ≡ x = ap (λ (o : Option Data). unwrap_or (either o respond.default) null) there in
        subst RespondInRange same (respond-in (Named (codes "respond") ∷ []) x (subst (λ (v : Data). object_of respond_shape (Named (codes "respond") ∷ []) v ≡ []) here clean))

told : (steps : List Step) → Every StepInRange steps → (i : ℕ) → ((step_to steps i).up ≤ 4294967295) × ((step_to steps i).down ≤ 4294967295)
told [] h i = (omega arith, omega arith)
told (s ∷ steps) h zero =
    let up : s.up ≤ 1000000 = h.0.up in
    let down : s.down ≤ 1000000 = h.0.down in
    (omega (arith, up), omega (arith, down))
told (s ∷ steps) h (suc i) = told steps h.1 i

pub rules-stand : (rules : List RuleContent) → Every RuleInRange rules → RulesStand rules
rules-stand rules h k r low =
    let at = every-at RuleInRange rules h k r low in
    record { some = at.some; few = at.few; steps = at.count; told = told (get_or rules k r).steps at.steps }

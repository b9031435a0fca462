-- What is kept of a text's value, where it has no faults, is the value, and its compact text reads as the same scenario.
use Rattle.std.proofs.Common.{◌≡◌, ℕ, List, [], sym, ap, ◌∙◌, subst}
use Rattle.serde_json.specs.Data.{Data}
use Rattle.scenario_data.specs.declared.refusal.ReadFail.{ReadFail}
use Rattle.scenario_data.specs.declared.refusal.ReadFail.TheVariants.{Refused, NoMemory}
use Rattle.scenario_read.specs.Faults.{faults, first_cause}
use Rattle.scenario_read.specs.Answers.{Reads, IsFirstFault, OnRefusal}
use Rattle.scenario_read.proofs.Rising.{read-sorted}
use Rattle.scenario_cut.specs.Cutting.{Whole, cut}
use Rattle.scenario_cut.specs.Texts.{IsNoText}
use Rattle.scenario_cut.proofs.Same.{kept-right}
use Rattle.scenario_cut.proofs.Scenario.{first-kept}
use Rattle.scenario_cut.proofs.Entire.{faultless-entire}

-- where what is kept has no faults, it is the value
pub scenario-right : (bytes : List ℕ) (d v : Data) → Reads bytes d → v ≡ cut Whole d → faults v ≡ [] → v ≡ d
scenario-right bytes d v reads is none =
    kept-right faults v d (ap (λ w. first_cause (faults w)) is ∙ first-kept d) (λ clean. is ∙ faultless-entire d (read-sorted bytes d reads.1) clean) none

-- bytes that are not JSON have that as their first fault
pub no-text : (bytes : List ℕ) (fail : ReadFail) → OnRefusal fail (IsNoText bytes) → OnRefusal fail (IsFirstFault bytes)
no-text bytes (Refused refusal) none = subst (IsFirstFault bytes) (sym none.0) none.1
no-text bytes NoMemory none = tt

-- Values of which only a number is kept.
use Rattle.std.proofs.Common.{◌≡◌, ℕ, List, ◌∷◌, Result, Ok, Err, refl, sym, ap, ◌∙◌, subst}
use Rattle.serde_json.specs.Data.{Data, null, boolean, number, string, array, object}
use Rattle.scenario_data.specs.declared.refusal.ReadFail.{ReadFail}
use Rattle.scenario_read.specs.Paths.{Step}
use Rattle.scenario_read.specs.Kinds.{whole}
use Rattle.scenario_read.specs.Content.{whole_of}
use Rattle.scenario_read.specs.Readers.{Answers, Refuses}
use Rattle.scenario_cut.specs.Beginning.{IsNoNumber}
use Rattle.band_report.specs.Parts.{number_alone}

-- of what is not a number null is kept
pub alone-null : (d : Data) → IsNoNumber d → number_alone d ≡ null
alone-null null none = refl
alone-null (boolean b) none = refl
alone-null (number n) none = absurd none
alone-null (string s) none = refl
alone-null (array ds) none = refl
alone-null (object ms) none = refl

-- a number is judged by what is kept of its value
whole-alone : (least most : ℕ) (path : List Step) (d : Data) → whole least most path (number_alone d) ≡ whole least most path d
whole-alone least most path null = refl
whole-alone least most path (boolean b) = refl
whole-alone least most path (number n) = refl
whole-alone least most path (string s) = refl
whole-alone least most path (array ds) = refl
whole-alone least most path (object ms) = refl

said-alone : (d : Data) → whole_of (number_alone d) ≡ whole_of d
said-alone null = refl
said-alone (boolean b) = refl
said-alone (number n) = refl
said-alone (string s) = refl
said-alone (array ds) = refl
said-alone (object ms) = refl

pub answers-alone : (answer : Result ℕ ReadFail) (least most : ℕ) (path : List Step) (v d : Data) → v ≡ number_alone d
    → Answers answer (whole least most path v) (λ n. n ≡ whole_of v) → Answers answer (whole least most path d) (λ n. n ≡ whole_of d)
answers-alone (Ok n) least most path v d is h =
    (sym (ap (whole least most path) is ∙ whole-alone least most path d) ∙ h.0, h.1 ∙ ap whole_of is ∙ said-alone d)
answers-alone (Err fail) least most path v d is h = subst (Refuses fail) (ap (whole least most path) is ∙ whole-alone least most path d) h

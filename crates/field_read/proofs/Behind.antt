-- The first fault of a field of an object, after fields without any.
use Rattle.std.proofs.Common.{◌≡◌, List, [], ◌∷◌, ◌++◌, Result, Ok, Err, IsErrAnd, refl, sym, subst}
use Rattle.serde_json.specs.Data.{Data}
use Rattle.scenario_data.specs.declared.refusal.ReadFail.{ReadFail}
use Rattle.scenario_data.specs.Causes.{Cause}
use Rattle.scenario_read.specs.Paths.{Step}
use Rattle.scenario_read.specs.Fields.{Field, Shape, names, known_fields, field_faults, fields_faults, alternative_faults, object_of}
use Rattle.scenario_read.specs.Readers.{Refuses, Answers, names_faults}
use Rattle.scenario_read.proofs.Objects.{known-object, both-fields}
use Rattle.scenario_read.proofs.Refusing.{refuses_more}

-- one field more has no fault
pub clean-next : (path : List Step) (d : Data) (f : Field) (fields : List Field) → field_faults path d f ≡ [] → fields_faults path d fields ≡ [] → fields_faults path d (f ∷ fields) ≡ []
clean-next path d f fields p q = rw (p, q) refl

behind : (fail : ReadFail) (path : List Step) (d : Data) (before after : List Field) (f : Field) → fields_faults path d before ≡ [] → Refuses fail (field_faults path d f)
    → Refuses fail (fields_faults path d (before ++ f ∷ after))
behind fail path d before after f clean h =
    let first : Refuses fail (fields_faults path d before ++ (field_faults path d f ++ fields_faults path d after)) =
    rw clean (refuses_more fail (field_faults path d f) (fields_faults path d after) h) in
    subst (λ (causes : List Cause). Refuses fail causes) (sym (both-fields path d before (f ∷ after))) first

-- the first fault of a field after others without any is that of the object, where its names are known
pub refused-at : (fail : ReadFail) (shape : Shape) (path : List Step) (d : Data) (before after : List Field) (f : Field) → shape.fields ≡ before ++ f ∷ after
    → names_faults (names (known_fields shape d)) path d ≡ [] → fields_faults path d before ≡ [] → Refuses fail (field_faults path d f) → Refuses fail (object_of shape path d)
refused-at fail shape path d before after f is known clean h =
    let whole : Refuses fail (fields_faults path d shape.fields) =
    subst (λ (fields : List Field). Refuses fail (fields_faults path d fields)) (sym is) (behind fail path d before after f clean h) in
    subst (λ (causes : List Cause). Refuses fail causes) (sym (known-object shape path d known))
    (refuses_more fail (fields_faults path d shape.fields) (alternative_faults path d shape.alternatives) whole)

-- what is returned at a refusal is that refusal
pub answered : {A : Type 0} (r : Result A ReadFail) (fail : ReadFail) (causes : List Cause) (Is : A → Type 0) → IsErrAnd r (λ e. e ≡ fail) → Refuses fail causes → Answers r causes Is
answered (Ok a) fail causes Is e h = absurd e
answered (Err x) fail causes Is e h = subst (λ (f : ReadFail). Refuses f causes) (sym e) h

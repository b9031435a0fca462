-- An object with a value put at a name: what is at the names, and its faults.
use Rattle.std.proofs.Common.{◌≡◌, ◌⊎◌, inl, inr, ℕ, true, false, List, [], ◌∷◌, ◌++◌, Option, unwrap_or, bytes_eq, refl, ap, ◌∙◌}
use Rattle.serde_json.specs.Data.{Data, null, object, Members, put}
use Rattle.serde_json.specs.Find.{get_member}
use Rattle.serde_json.proofs.Views.{get_member-put, get_member-put_other}
use Rattle.scenario_read.specs.Paths.{Step, then_named}
use Rattle.scenario_read.specs.Kinds.{is_among}
use Rattle.scenario_read.specs.Fields.{Field, value_of, held, either, faults_of, field_faults, fields_faults, names, unknown_faults, object_of}
use Rattle.scenario_read.proofs.KnownNames.{known-put}
use Rattle.scenario_read.proofs.NameOrder.{apart}
use Rattle.scenario_read.proofs.NoFaults.{none-left, none-both}

-- another name has what was there
pub value-other : (f : Field) (k : List ℕ) (v : Data) (ms : Members) → bytes_eq f.name k ≡ false → value_of f (object (put k v ms)) ≡ value_of f (object ms)
value-other f k v ms other = ap (λ (o : Option Data). either o f.default) (get_member-put_other f.name k v ms (apart f.name k other))

pub held-other : (f : Field) (k : List ℕ) (v : Data) (ms : Members) → bytes_eq f.name k ≡ false → held f (object (put k v ms)) ≡ held f (object ms)
held-other f k v ms other = ap (λ (o : Option Data). unwrap_or o null) (value-other f k v ms other)

-- and at this one the value
pub held-here : (f : Field) (v : Data) (ms : Members) → held f (object (put f.name v ms)) ≡ v
held-here f v ms = ap (λ (o : Option Data). unwrap_or (either o f.default) null) (get_member-put f.name v ms)

-- the field has another name, or the value has no fault as what is at it
abbrev pub FitsAt : List Step → List ℕ → Data → Field → Type 0
FitsAt path k v f = (bytes_eq f.name k ≡ false) ⊎ ((k ≡ f.name) × (f.kind (then_named path f.name) v ≡ []))

abbrev pub AllFit : List Step → List ℕ → Data → List Field → Type 0
AllFit path k v [] = Unit {0}
AllFit path k v (f ∷ fields) = FitsAt path k v f × AllFit path k v fields

field-put : (path : List Step) (k : List ℕ) (v : Data) (ms : Members) (f : Field) → field_faults path (object ms) f ≡ [] → FitsAt path k v f → field_faults path (object (put k v ms)) f ≡ []
field-put path k v ms f e (inl other) = ap (λ (o : Option Data). faults_of f.kind (then_named path f.name) o) (value-other f k v ms other) ∙ e
field-put path k v ms f e (inr (same, clean)) =
    ap (λ (l : List ℕ). faults_of f.kind (then_named path f.name) (either (get_member f.name (put l v ms)) f.default)) same
    ∙ ap (λ (o : Option Data). faults_of f.kind (then_named path f.name) (either o f.default)) (get_member-put f.name v ms) ∙ clean

fields-put : (path : List Step) (k : List ℕ) (v : Data) (ms : Members) (fields : List Field) → fields_faults path (object ms) fields ≡ [] → AllFit path k v fields → fields_faults path (object (put k v ms)) fields ≡ []
fields-put path k v ms [] e fit = refl
fields-put path k v ms (f ∷ fields) e fit =
    let parts = none-left (field_faults path (object ms) f) (fields_faults path (object ms) fields) e in
    none-both (field_faults path (object (put k v ms)) f) (fields_faults path (object (put k v ms)) fields) (field-put path k v ms f parts.0 fit.0) (fields-put path k v ms fields parts.1 fit.1)

-- an object without faults has none with such a value at a name of its own
pub object-put : (fields : List Field) (path : List Step) (k : List ℕ) (v : Data) (ms : Members) → is_among (names (fields ++ [])) k ≡ true
    → object_of (record { fields = fields; alternatives = [] }) path (object ms) ≡ [] → AllFit path k v fields
    → object_of (record { fields = fields; alternatives = [] }) path (object (put k v ms)) ≡ []
object-put fields path k v ms known e fit =
    let parts = none-left (unknown_faults (names (fields ++ [])) path ms) (fields_faults path (object ms) fields ++ []) e in
    let own = none-left (fields_faults path (object ms) fields) [] parts.1 in
    none-both (unknown_faults (names (fields ++ [])) path (put k v ms)) (fields_faults path (object (put k v ms)) fields ++ []) (known-put (names (fields ++ [])) path k v ms known parts.0)
    (none-both (fields_faults path (object (put k v ms)) fields) [] (fields-put path k v ms fields own.0 fit) refl)

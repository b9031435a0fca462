-- What is at the names of a value without faults.
use Rattle.std.proofs.Common.{◌≡◌, ◌≤◌, ◌⊎◌, ◌==◌, ◌&&◌, inl, inr, ℕ, Bool, true, false, nat_le, if◌then◌else◌, List, [], ◌∷◌, ◌++◌, Option, Some, None, unwrap_or}
use Rattle.std.proofs.Common.{refl}
use Rattle.std.proofs.lemmas.Bool.{leb-true, eqb-true}
use Rattle.serde_json.specs.Data.{unsigned, negative, float, Data, null, boolean, number, string, array, object}
use Rattle.serde_json.specs.Events.{items_len}
use Rattle.scenario_read.specs.Paths.{Step, then_named}
use Rattle.scenario_read.specs.Kinds.{Fits, Beyond, Kind, fault_at, within, whole, rare, rare_number_fits, each, items_in, list_of}
use Rattle.scenario_read.specs.Fields.{Field, Shape, held, value_of, faults_of, field_faults, fields_faults, names, known_fields, unknown_faults}
use Rattle.scenario_read.specs.Fields.{alternative_faults, object_of}
use Rattle.scenario_read.specs.Content.{whole_of}
use Rattle.scenario_read.proofs.NoFaults.{none-left, fits-alone}

pub in-range : (least most n : ℕ) → within least most n ≡ Fits → (least ≤ n) × (n ≤ most)
in-range least most n e = from (nat_le least n) (nat_le n most) refl refl e
  where
    from : (a b : Bool) → nat_le least n ≡ a → nat_le n most ≡ b → (if a && b then Fits else Beyond) ≡ Fits → (least ≤ n) × (n ≤ most)
    from true true p q k = (leb-true least n p, leb-true n most q)
    from true false p q k = absurd (cc)
    from false b p q k = absurd (cc)

-- a whole number without faults is in its range
pub whole-in : (least most : ℕ) (path : List Step) (d : Data) → whole least most path d ≡ [] → (least ≤ whole_of d) × (whole_of d ≤ most)
whole-in least most path null e = absurd (cc)
whole-in least most path (boolean b) e = absurd (cc)
whole-in least most path (number (unsigned n)) e = in-range least most n (fits-alone path (within least most n) e)
whole-in least most path (number (negative z)) e = absurd (cc)
whole-in least most path (number (float x)) e = absurd (cc)
whole-in least most path (string s) e = absurd (cc)
whole-in least most path (array ds) e = absurd (cc)
whole-in least most path (object ms) e = absurd (cc)

-- a list without faults: its length is in range, and no item has any
pub list-in : (least most : ℕ) (kind : Kind) (path : List Step) (d : Data) → list_of least most kind path d ≡ []
    → (least ≤ items_len (items_in d)) × (items_len (items_in d) ≤ most) × (each kind path 0 (items_in d) ≡ [])
list-in least most kind path null e = absurd (cc)
list-in least most kind path (boolean b) e = absurd (cc)
list-in least most kind path (number n) e = absurd (cc)
list-in least most kind path (string s) e = absurd (cc)
list-in least most kind path (array ds) e =
    let parts = none-left (fault_at path (within least most (items_len ds))) (each kind path 0 ds) e in
    let range = in-range least most (items_len ds) (fits-alone path (within least most (items_len ds)) parts.0) in
    (range.0, range.1, parts.1)
list-in least most kind path (object ms) e = absurd (cc)

-- what is held at a field without faults has none
pub held-in : (path : List Step) (d : Data) (f : Field) → field_faults path d f ≡ [] → f.kind (then_named path f.name) (held f d) ≡ []
held-in path d f e = from (value_of f d) e
  where
    from : (o : Option Data) → faults_of f.kind (then_named path f.name) o ≡ [] → f.kind (then_named path f.name) (unwrap_or o null) ≡ []
    from None k = absurd (cc)
    from (Some v) k = k

-- an object without faults has none at its fields, nor among its alternatives
pub object-in : (shape : Shape) (path : List Step) (d : Data) → object_of shape path d ≡ []
    → (fields_faults path d shape.fields ≡ []) × (alternative_faults path d shape.alternatives ≡ [])
object-in shape path null e = absurd (cc)
object-in shape path (boolean b) e = absurd (cc)
object-in shape path (number n) e = absurd (cc)
object-in shape path (string s) e = absurd (cc)
object-in shape path (array ds) e = absurd (cc)
object-in shape path (object ms) e =
    none-left (fields_faults path (object ms) shape.fields) (alternative_faults path (object ms) shape.alternatives)
    (none-left (unknown_faults (names (known_fields shape (object ms))) path ms)
    (fields_faults path (object ms) shape.fields ++ alternative_faults path (object ms) shape.alternatives) e).1

-- 0 or a whole number from a least one on, without faults, is so
pub rare-in : (least most : ℕ) (path : List Step) (d : Data) → rare least most path d ≡ [] → (whole_of d ≡ 0) ⊎ (least ≤ whole_of d)
rare-in least most path null e = absurd (cc)
rare-in least most path (boolean b) e = absurd (cc)
rare-in least most path (number (unsigned n)) e = from (n == 0) refl (fits-alone path (rare_number_fits least most (unsigned n)) e)
  where
    from : (b : Bool) → (n == 0) ≡ b → (if b then Fits else within least most n) ≡ Fits → (n ≡ 0) ⊎ (least ≤ n)
    from true p k = inl (eqb-true n 0 p)
    from false p k = inr (in-range least most n k).0
rare-in least most path (number (negative z)) e = absurd (cc)
rare-in least most path (number (float x)) e = absurd (cc)
rare-in least most path (string s) e = absurd (cc)
rare-in least most path (array ds) e = absurd (cc)
rare-in least most path (object ms) e = absurd (cc)

-- none of these fields has faults
abbrev pub AllClean : List Step → Data → List Field → Type 0
AllClean path d [] = Unit {0}
AllClean path d (f ∷ fields) = (field_faults path d f ≡ []) × AllClean path d fields

pub all-clean : (path : List Step) (d : Data) (fields : List Field) → fields_faults path d fields ≡ [] → AllClean path d fields
all-clean path d [] e = tt
all-clean path d (f ∷ fields) e =
    let parts = none-left (field_faults path d f) (fields_faults path d fields) e in
    (parts.0, all-clean path d fields parts.1)

-- Lists of faults of which none is there.
use Rattle.std.proofs.Common.{◌≡◌, List, [], ◌∷◌, ◌++◌, refl}
use Rattle.serde_json.specs.Data.{Data}
use Rattle.scenario_data.specs.Causes.{Cause}
use Rattle.scenario_read.specs.Paths.{Step}
use Rattle.scenario_read.specs.Kinds.{Fit, Fits, Wrong, Beyond, fault_at}
use Rattle.scenario_read.specs.Fields.{Field, field_faults, fields_faults}

-- where two lists together are empty, each is; and the other way round
pub none-left : (xs ys : List Cause) → xs ++ ys ≡ [] → (xs ≡ []) × (ys ≡ [])
none-left [] ys e = (refl, e)
none-left (x ∷ xs) ys e = absurd (cc)

pub none-both : (xs ys : List Cause) → xs ≡ [] → ys ≡ [] → xs ++ ys ≡ []
none-both xs ys p q = rw (p, q) refl

pub none-of-three : (a b c : List Cause) → a ≡ [] → b ≡ [] → c ≡ [] → a ++ (b ++ c) ≡ []
none-of-three a b c p q r = rw (p, q, r) refl

-- what has no fault fits
pub fits-alone : (path : List Step) (fit : Fit) → fault_at path fit ≡ [] → fit ≡ Fits
fits-alone path Fits e = refl
fits-alone path Wrong e = absurd (cc)
fits-alone path Beyond e = absurd (cc)

-- fields without faults, and more of them
pub both-faultless : (path : List Step) (d : Data) (xs ys : List Field) → fields_faults path d xs ≡ [] → fields_faults path d ys ≡ [] → fields_faults path d (xs ++ ys) ≡ []
both-faultless path d [] ys a b = b
both-faultless path d (f ∷ xs) ys a b =
    let parts = none-left (field_faults path d f) (fields_faults path d xs) a in
    rw parts.0 (both-faultless path d xs ys parts.1 b)

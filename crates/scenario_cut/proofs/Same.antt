-- Lists of faults that begin with the same fault.
use Rattle.std.proofs.Common.{◌≡◌, List, [], ◌∷◌, ◌++◌, map, None, refl, sym, ap, ◌∙◌, subst}
use Rattle.serde_json.specs.Data.{Data}
use Rattle.scenario_data.specs.Causes.{Cause}
use Rattle.scenario_read.specs.Faults.{first_cause}

-- the first is the same, or there is none in either
abbrev pub Same : List Cause → List Cause → Type 0
Same xs ys = first_cause xs ≡ first_cause ys

-- there is a fault
abbrev pub Faulty : List Cause → Type 0
Faulty [] = ⊥
Faulty (x ∷ xs) = Unit {0}

pub same-both : (xs ys more rest : List Cause) → Same xs ys → Same more rest → Same (xs ++ more) (ys ++ rest)
same-both [] [] more rest p q = q
same-both [] (y ∷ ys) more rest p q = absurd (cc)
same-both (x ∷ xs) [] more rest p q = absurd (cc)
same-both (x ∷ xs) (y ∷ ys) more rest p q = p

-- what follows a fault is not the first
pub same-ended : (xs ys more rest : List Cause) → Same xs ys → Faulty ys → Same (xs ++ more) (ys ++ rest)
same-ended xs [] more rest p f = absurd f
same-ended [] (y ∷ ys) more rest p f = absurd (cc)
same-ended (x ∷ xs) (y ∷ ys) more rest p f = p

pub faulty-first : (xs more : List Cause) → Faulty xs → Faulty (xs ++ more)
faulty-first [] more f = absurd f
faulty-first (x ∷ xs) more f = tt

pub faulty-later : (xs more : List Cause) → Faulty more → Faulty (xs ++ more)
faulty-later [] more f = f
faulty-later (x ∷ xs) more f = tt

pub same-map : (f : Cause → Cause) (xs ys : List Cause) → Same xs ys → Same (map f xs) (map f ys)
same-map f [] [] p = refl
same-map f [] (y ∷ ys) p = absurd (cc)
same-map f (x ∷ xs) [] p = absurd (cc)
same-map f (x ∷ xs) (y ∷ ys) p = cc

pub map-none : (f : Cause → Cause) (xs : List Cause) → map f xs ≡ [] → xs ≡ []
map-none f [] e = refl
map-none f (x ∷ xs) e = absurd (cc)

no-first : (xs : List Cause) → None ≡ first_cause xs → xs ≡ []
no-first [] e = refl
no-first (x ∷ xs) e = absurd (cc)

-- further faults hang on the whole value, and count where there are none before them: then the value is kept whole
pub same-more : (names more : Data → List Cause) (less d : Data) → Same (names less) (names d) → (names d ≡ [] → less ≡ d) → Same (names less ++ more less) (names d ++ more d)
same-more names more less d same whole = at (names d) refl
  where
    at : (xs : List Cause) → names d ≡ xs → Same (names less ++ more less) (names d ++ more d)
    at [] none = ap (λ v. first_cause (names v ++ more v)) (whole none)
    at (x ∷ xs) some = same-ended (names less) (names d) (more less) (more d) same (subst Faulty (sym some) tt)

-- where what is kept of a value has no faults, it is the value
pub kept-right : (all : Data → List Cause) (less d : Data) → Same (all less) (all d) → (all d ≡ [] → less ≡ d) → all less ≡ [] → less ≡ d
kept-right all less d same whole none = whole (no-first (all d) (sym (ap first_cause none) ∙ same))

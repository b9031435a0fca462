-- When octets begin with a field, and when they are several fields, one after the other.
use Rattle.std.specs.Prelude.{◌≡◌, ℕ, List, [], ◌∷◌, ◌++◌}

-- the octets are a text of the value, and then the rest
abbrev pub Begins : {A : Type 0} → (List ℕ → A → Type 0) → List ℕ → A → List ℕ → Type 0
Begins IsText bytes value rest = (text : List ℕ) × IsText text value × (bytes ≡ text ++ rest)

-- the octets don't begin with a text of any value
abbrev pub NothingBegins : {A : Type 0} → (List ℕ → A → Type 0) → List ℕ → Type 0
NothingBegins {A} IsText bytes = (text rest : List ℕ) (value : A) → IsText text value → bytes ≡ text ++ rest → ⊥

-- the octets are texts of the values, one after the other, and nothing else
abbrev pub AreTexts : {A : Type 0} → (List ℕ → A → Type 0) → List ℕ → List A → Type 0
AreTexts IsText octets [] = octets ≡ []
AreTexts IsText octets (value ∷ values) =
    (first : List ℕ) × (others : List ℕ) × IsText first value × AreTexts IsText others values × (octets ≡ first ++ others)

-- no text is the beginning of another text: if octets begin with two texts, the texts are equal, and so are their
-- values
abbrev pub StandsAlone : {A : Type 0} → (List ℕ → A → Type 0) → Type 0
StandsAlone {A} IsText = (text other x y : List ℕ) (a b : A) → IsText text a → IsText other b → text ++ x ≡ other ++ y
    → (text ≡ other) × (a ≡ b)

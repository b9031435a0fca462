-- The order of names (RFC 1157): names compare arc by arc, and a name comes before each longer name that begins with
-- it.
use Rattle.std.specs.Prelude.{◌≡◌, ◌⊎◌, ℕ, Bool, true, false, ◌||◌, ◌&&◌, ◌==◌, nat_lt, List, [], ◌∷◌}
use Rattle.std.specs.List.{AllByRecursion}

-- the first name comes before the second
abbrev pub is_before : List ℕ → List ℕ → Bool
is_before [] [] = false
is_before [] (b ∷ later) = true
is_before (a ∷ more) [] = false
is_before (a ∷ more) (b ∷ later) = nat_lt a b || (a == b && is_before more later)

-- each name comes before all names that follow it in the list
abbrev pub IsRising : List (List ℕ) → Type 0
IsRising [] = Unit {0}
IsRising (name ∷ names) = AllByRecursion (λ later. is_before name later ≡ true) names × IsRising names

-- the list contains the name
abbrev pub IsAmong : {A : Type 0} → A → List A → Type 0
IsAmong name [] = ⊥
IsAmong name (first ∷ names) = (name ≡ first) ⊎ IsAmong name names

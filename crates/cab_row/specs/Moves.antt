-- The items of eight passes.
use Rattle.std.specs.Prelude.{ℕ, List, [], ◌∷◌}

-- the number of items that the book has left for each of the passes 0 to 7
abbrev pub items_row : {B : Type 0} → (B → ℕ → ℕ) → B → List ℕ
items_row left b = left b 0 ∷ left b 1 ∷ left b 2 ∷ left b 3 ∷ left b 4 ∷ left b 5 ∷ left b 6 ∷ left b 7 ∷ []

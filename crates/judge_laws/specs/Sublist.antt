-- A list of breaches with some left out.
use Rattle.std.specs.Prelude.{List, [], ◌∷◌}
use Rattle.judge_laws.specs.declared.Breach.{Breach}

-- the first list is the second with some left out, in the same order
pub data IsSublist : List Breach → List Breach → Type 0 where
  empty : IsSublist [] []
  keeps : (x : Breach) (xs ys : List Breach) → IsSublist xs ys → IsSublist (x ∷ xs) (x ∷ ys)
  leaves_out : (y : Breach) (xs ys : List Breach) → IsSublist xs ys → IsSublist xs (y ∷ ys)

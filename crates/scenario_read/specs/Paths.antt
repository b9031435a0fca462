-- The path of a value in a scenario, and its text. A path goes from the top through names of members and places in
-- lists.
use Rattle.std.specs.Prelude.{ℕ, List, [], ◌∷◌, ◌++◌, codes, decimal}

-- a step of a path: the name of a member, or a place in a list, counted from 0
pub data Step : Type 0 where
  Named : (name : List ℕ) → Step
  Item : (place : ℕ) → Step

-- the text of steps that follow another step
abbrev pub further_text : List Step → List ℕ
further_text [] = []
further_text (Named name ∷ steps) = codes "." ++ (name ++ further_text steps)
further_text (Item place ∷ steps) = codes "[" ++ (decimal place ++ (codes "]" ++ further_text steps))

-- the text of a path. The path of the whole value is a dot; a name at the top has no dot before it
abbrev pub path_text : List Step → List ℕ
path_text [] = codes "."
path_text (Named name ∷ steps) = name ++ further_text steps
path_text (Item place ∷ steps) = further_text (Item place ∷ steps)

-- the path with one more name
abbrev pub then_named : List Step → List ℕ → List Step
then_named path name = path ++ Named name ∷ []

-- the path with one more place
abbrev pub then_item : List Step → ℕ → List Step
then_item path place = path ++ Item place ∷ []

-- The text that is written for a value.
use Rattle.std.specs.Prelude.{ℕ, ◌≡◌, ◌≤◌, List, [], ◌∷◌, ◌++◌, false, IsUtf8}
use Rattle.serde_json.specs.Data.{Data, depth}
use Rattle.serde_json.specs.Read.{max_depth}
use Rattle.serde_json.specs.Written.{has_float, compact_text}
use Rattle.scenario_read.specs.Answers.{Reads}

-- the text of a value without floats is its compact text and a newline; the text of a value that isn't nested too
-- deeply reads as this value
pub record IsTextOf (text : List ℕ) (d : Data) : Type 0 where
  pub whole : has_float d ≡ false → text ≡ compact_text d ++ 10 ∷ []
  pub reads : depth d ≤ max_depth → Reads text d

-- the compact text of a value and a newline, in UTF-8
pub record IsLineOf (text : List ℕ) (d : Data) : Type 0 where
  pub utf8 : IsUtf8 (compact_text d)
  pub whole : text ≡ compact_text d ++ 10 ∷ []

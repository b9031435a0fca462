-- What the first token of a value shows about the value.
use Rattle.std.specs.Prelude.{ℕ, ◌≡◌, List}
use Rattle.std.specs.Borrow.{Bor}
use Rattle.json.specs.declared.token.Token.{Token}
use Rattle.json.specs.declared.token.Token.TheVariants.{BeginArray, BeginObject, Number}
use Rattle.serde_json.specs.Data.{Data, null, boolean, number, string, array, object}
use Rattle.scenario_cut.specs.Judging.{IsNoList}

-- the value is not a number
abbrev pub IsNoNumber : Data → Type 0
IsNoNumber (number n) = ⊥
IsNoNumber _ = Unit {0}

-- the value is not an object
abbrev pub IsNoObject : Data → Type 0
IsNoObject (object ms) = ⊥
IsNoObject _ = Unit {0}

-- the first token of the value shows whether it is a number, a list or an object
pub record BeginsWith (token : Token) (d : Data) : Type 0 where
  pub no_number : ((text : Bor (List ℕ)) → token ≡ Number text → ⊥) → IsNoNumber d
  pub no_list : (token ≡ BeginArray → ⊥) → IsNoList d
  pub no_object : (token ≡ BeginObject → ⊥) → IsNoObject d

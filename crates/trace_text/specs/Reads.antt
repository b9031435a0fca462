-- What it means to read a value from its text.
use Rattle.std.specs.Prelude.{◌≡◌, Option, Some, IfSome}

-- what was read is the value with this spelling; nothing is read if no value has it
pub record Reads {A T : Type 0} (IsOne : A → Type 0) (spelling : A → T) (text : T) (found : Option A) : Type 0 where
  pub value : IfSome found (λ value. IsOne value × (text ≡ spelling value))
  pub only : (value : A) → IsOne value → text ≡ spelling value → found ≡ Some value

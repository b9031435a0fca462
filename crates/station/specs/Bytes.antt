-- Which bytes a source has left to read.
use Rattle.std.specs.Prelude.{◌≡◌, List, [], ℕ, ◌++◌, Option, Some, None, IfSome}

-- the bytes `taken` were the first of the bytes left, and `new` are the bytes left now, if the source reports its
-- bytes
abbrev pub LeavesAfter : Option (List ℕ) → Option (List ℕ) → List ℕ → Type 0
LeavesAfter None new taken = new ≡ None
LeavesAfter (Some bytes) new taken = (rest : List ℕ) × (new ≡ Some rest) × (bytes ≡ taken ++ rest)

-- what a source has left after it was read to its end: no bytes; None if the source doesn't report its bytes
abbrev pub nothing_left : Option (List ℕ) → Option (List ℕ)
nothing_left None = None
nothing_left (Some bytes) = Some []

-- if the source reports its bytes, `bytes` are the whole input
abbrev pub AreInput : Option (List ℕ) → List ℕ → Type 0
AreInput left bytes = IfSome left (λ input. bytes ≡ input)

-- Calls by their numbers, counted from 1.
use Rattle.std.specs.Prelude.{ℕ, List, ◌+◌, ◌<◌, min, Contains}

-- the call after this many calls is one that fails; its number is at most 4,294,967,295
abbrev pub FailsAt : List ℕ → ℕ → Type 0
FailsAt fails calls = (calls < 4294967295) × Contains fails (calls + 1)

-- the count plus 1, or the highest value of its type
abbrev pub one_more : ℕ → ℕ
one_more count = min (count + 1) 18446744073709551615

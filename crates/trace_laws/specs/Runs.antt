-- How often a J line contains a pass.
use Rattle.std.specs.Prelude.{ℕ, ◌+◌, ◌==◌, if◌then◌else◌, List, [], ◌∷◌}

-- the number of items of a pass, added up over these runs
abbrev pub events_in : ℕ → List (ℕ × ℕ) → ℕ
events_in p [] = 0
events_in p (run ∷ runs) = if p == run.0 then run.1 + events_in p runs else events_in p runs

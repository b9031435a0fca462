-- What a log shows of the time before a line. A log that begins in the middle doesn't show what was before its first
-- line. Lists have the newest line first.
use Rattle.std.specs.Prelude.{ℕ, not, Bool, true, false, List, [], ◌∷◌}
use Rattle.std.specs.List.{list_all}
use Rattle.safety_laws.specs.Safe.{Indications}

-- the log shows what a cabinet showed before a line; a log that begins in the middle doesn't show it for the cabinet's
-- first line
abbrev pub knows_last : Bool → List (ℕ × Indications) → Bool
knows_last false older = true
knows_last true [] = false
knows_last true (line ∷ older) = true

-- the log shows the beginning of the present interval. If the log begins in the middle, some line of the cabinet must
-- show that the fact did not hold
abbrev pub saw_beginning : Bool → (Indications → Bool) → List (ℕ × Indications) → Bool
saw_beginning false holds older = true
saw_beginning true holds older = not (list_all (λ line. holds line.1) older)

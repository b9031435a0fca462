-- The streets that a log shows. Lists of lines have the newest line first.
use Rattle.std.specs.Prelude.{ℕ, ◌≡◌, true, if◌then◌else◌, List, [], ◌∷◌, reverse}
use Rattle.trace_text.specs.declared.lines.Line.{Line}
use Rattle.safety_laws.specs.Safe.{Safe, intersection_of}
use Rattle.scenario_data.specs.Content.{ScenarioContent}
use Rattle.judge_session.specs.Told.{is_known, tables_before}

-- the tables of each cabinet are known to the end of the log: the scenario has each accepted download
abbrev pub AllKnown : ScenarioContent → List Line → Type 0
AllKnown s before = (cab : ℕ) → is_known s cab before ≡ true

-- the street of each cabinet is safe by these lines and the tables that they put in force
abbrev pub AllSafe : ScenarioContent → List Line → Type 0
AllSafe s before = (cab : ℕ) → Safe (intersection_of cab (tables_before s before cab) (reverse before))

-- the longest prefix of a log up to which the tables of a cabinet are known
abbrev pub known_part : ScenarioContent → ℕ → List Line → List Line
known_part s cab [] = []
known_part s cab (line ∷ before) = if is_known s cab (line ∷ before) then line ∷ before else known_part s cab before

-- the street of each cabinet is safe by the prefix of the log up to which its tables are known
abbrev pub SafeSoFar : ScenarioContent → List Line → Type 0
SafeSoFar s before =
    (cab : ℕ) → Safe (intersection_of cab (tables_before s (known_part s cab before) cab) (reverse (known_part s cab before)))

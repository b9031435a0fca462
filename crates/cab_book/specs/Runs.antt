-- Runs of a journal, and one more after them.
use Rattle.std.specs.Prelude.{ℕ, ◌+◌, ◌==◌, if◌then◌else◌, List, [], ◌∷◌}

-- a pass that many times after some runs
abbrev pub with_run_last : List (ℕ × ℕ) → ℕ → ℕ → List (ℕ × ℕ)
with_run_last [] pass many = (pass, many) ∷ []
with_run_last (run ∷ []) pass many = if pass == run.0 then (run.0, run.1 + many) ∷ [] else run ∷ (pass, many) ∷ []
with_run_last (run ∷ next ∷ runs) pass many = run ∷ with_run_last (next ∷ runs) pass many

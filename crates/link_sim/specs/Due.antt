-- The copies that a line stores until they arrive.
use Rattle.std.specs.Prelude.{ℕ, ◌≡◌, ◌≤◌, ◌+◌, ◌==◌, ◌&&◌, nat_lt, if◌then◌else◌, List, [], ◌∷◌, ◌++◌}
use Rattle.link_sim.specs.declared.stream_line.Late.{Late}

-- the octets of those copies that arrive in round `due` and whose messages were sent before round `before`
abbrev pub due_texts : ℕ → ℕ → List Late → List (List ℕ)
due_texts before due [] = []
due_texts before due (copy ∷ late) =
    if nat_lt copy.sent before && (copy.due == due) then copy.octets.items ∷ due_texts before due late else due_texts before due late

-- in each later round the same copies arrive as before, and after them these copies; `copies` gives them by the
-- number of rounds
abbrev pub AreDueLater : ℕ → (ℕ → List (List ℕ)) → List Late → List Late → Type 0
AreDueLater round copies old new =
    (rounds : ℕ) → 1 ≤ rounds
    → due_texts (round + 1) (round + rounds) new ≡ due_texts (round + 1) (round + rounds) old ++ copies rounds

-- The late copies that a line stores. Lists of rounds have the newest first.
use Rattle.std.specs.Prelude.{ℕ, ◌≡◌, ◌≤◌, ◌+◌, List, length}
use Rattle.scenario_data.specs.declared.scenario.Fault.{Fault}
use Rattle.link_sim.specs.declared.Line.{Line}
use Rattle.link_sim.specs.declared.stream_line.StreamLine.{StreamLine}
use Rattle.link_sim.specs.Carried.{late_copies}
use Rattle.link_sim.specs.LateLists.{listed_late}

abbrev pub line_of : StreamLine → Line
line_of w = w.line

-- the copies that the line stores for each later round are the late copies of the messages sent in these rounds.
-- Copies of a later round, which was given up because memory ran out and is repeated, don't count
abbrev pub Holds : StreamLine → List Fault → List (List (List ℕ)) → Type 0
Holds w faults past =
    (rounds : ℕ) → 1 ≤ rounds
    → listed_late (length past + 1) (length past + rounds) w.late ≡ late_copies faults w.line rounds past

use Rattle.std.proofs.Common.{◌≡◌, ◌+◌, ◌<◌, ℕ, List, get_or, length}
use Rattle.scenario_data.specs.declared.scenario.Fault.{Fault}
use Rattle.link_sim.specs.declared.lines.Lines.{Lines}
use Rattle.link_sim.specs.StreamFrames.{AreLines, nothing_passed}
use Rattle.link_sim.proofs.link.open_lines.Given as goal

-- the lines so far are those of the first cabinets
abbrev pub invariant-loop-place : goal.invariant-loop-place
invariant-loop-place l =
    (length l.all.items ≡ l.place)
    × ((k : ℕ) → (d : Lines) → (faults : List Fault) → k < l.place → AreLines (get_or l.all.items k d) faults (k + 1) l.direction nothing_passed)

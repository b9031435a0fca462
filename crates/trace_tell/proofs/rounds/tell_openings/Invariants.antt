use Rattle.std.proofs.Common.{List, ℕ, ◌+◌, drop}
use Rattle.scenario_data.specs.Content.{ScenarioContent}
use Rattle.run_definition.specs.CabinetState.{CabinetState}
use Rattle.run_definition.specs.Lines.{opening_lines, each_lines}
use Rattle.round_run.specs.CabinetStates.{AreAt, HaveRun}
use Rattle.trace_tell.proofs.Told.{Onward}
use Rattle.trace_tell.proofs.rounds.tell_openings.Given as goal

-- the first frames of the books before this place were reported
abbrev pub invariant-loop-i : goal.invariant-loop-i
invariant-loop-i g l = (ts : List CabinetState) → AreAt l.books.items ts → Onward g.T.Teller.told g.T.Teller.stopped l.fn.teller l.teller (opening_lines 1 ts) (opening_lines (l.i + 1) (drop l.i ts))

use Rattle.std.proofs.Common.{◌≡◌, ◌+◌}
use Rattle.look_back.specs.Look.{is_told}
use Rattle.look_back.specs.Spread.{told_run}
use Rattle.look_back.proofs.frame_runs.FrameRuns.continued.Given as goal

abbrev pub invariant-loop-frame_run : goal.invariant-loop-frame_run
invariant-loop-frame_run l =
    l.frames + told_run (is_told l.look) l.frame_run-iterator ≡ l.start + told_run (is_told l.look) l.self.older.items

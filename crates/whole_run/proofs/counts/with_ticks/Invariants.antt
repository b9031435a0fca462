use Rattle.std.proofs.Common.{◌≡◌, ◌+◌, drop}
use Rattle.cabinet_history.specs.Journals.{times, passes_of}
use Rattle.whole_run.proofs.counts.with_ticks.Given as goal

-- the ticks of the runs before this place were added
abbrev pub invariant-loop-run : goal.invariant-loop-run
invariant-loop-run l = l.ticks + times 4 (passes_of (drop l.run-index l.runs)) ≡ l.before + times 4 (passes_of l.runs)

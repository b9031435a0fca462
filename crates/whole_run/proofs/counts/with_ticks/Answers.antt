use Rattle.std.proofs.Common.{◌+◌, drop, arith}
use Rattle.cabinet_history.specs.Journals.{passes_of}
use Rattle.whole_run.proofs.Counted.{next_ticks}
use Rattle.whole_run.proofs.counts.with_ticks.Goals as goal

pub loop-run-preserved : goal.loop-run-preserved
loop-run-preserved c =
    omega (
      arith,
      c.loop-run.invariant,
      next_ticks c.args.runs.now c.loop-run.run-index (0, 0) (omega arith),
      c.ticks_of.ensures (passes_of (drop (c.loop-run.run-index + 1) c.args.runs.now)),
      c.in_ok-ticks.ensures {u = tt},
    )

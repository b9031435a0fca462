use Rattle.std.proofs.Common.{sym, arith}
use Rattle.whole_run.proofs.Counted.{own_ticks, no_ticks}
use Rattle.whole_run.proofs.counts.ticks_of.Goals as goal

pub returns-then-run-eq4 : goal.returns-then-run-eq4
returns-then-run-eq4 c = λ rest. own_ticks c.args.run.now.0 c.args.run.now.1 c.from.result rest c.if-run-eq4.true c.from.ensures

pub returns-else-run-eq4 : goal.returns-else-run-eq4
returns-else-run-eq4 c = λ rest. omega (arith, no_ticks c.args.run.now.0 c.args.run.now.1 rest (λ e. c.if-run-eq4.false (sym e)))

use Rattle.sig_tables.proofs.Below.{phase-is}
use Rattle.std.proofs.Common.{arith}
use Rattle.band_report.proofs.Reading.{force-at}
use Rattle.band_report.proofs.signals.force_of.Goals as goal

pub returns-then-phase-le16 : goal.returns-then-phase-le16
returns-then-phase-le16 c = λ t n e. force-at c.args.plan.now t n c.args.phase e (phase-is c.args.phase (omega arith) (omega arith))

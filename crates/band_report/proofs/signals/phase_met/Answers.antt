use Rattle.band_report.proofs.Reading.{met-outbound, met-inbound}
use Rattle.band_report.proofs.signals.phase_met.Goals as goal

pub returns-then-inbound : goal.returns-then-inbound
returns-then-inbound c = λ t n e. met-inbound c.args.plan.now t n c.args.inbound c.if-inbound.true e

pub returns-else-inbound : goal.returns-else-inbound
returns-else-inbound c = λ t n e. met-outbound c.args.plan.now t n c.args.inbound c.if-inbound.false e

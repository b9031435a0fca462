use Rattle.tick_context.proofs.active_pattern.ActivePattern.gate.Goals as goal

pub returns : goal.returns
returns c = record { gate = λ t n b. record { plan = b.plan; coordinated = b.options.coordinated; services = b.services } }

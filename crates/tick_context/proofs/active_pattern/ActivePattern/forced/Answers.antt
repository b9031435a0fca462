use Rattle.tick_context.proofs.active_pattern.ActivePattern.forced.Goals as goal

pub returns : goal.returns
returns c = record { forced = λ t n b. c.forced.ensures t n (c.gate.ensures.gate t n b) }

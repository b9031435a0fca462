use Rattle.tick_context.proofs.active_pattern.ActivePattern.with_room.Goals as goal

pub returns : goal.returns
returns c = record { room = λ t n b. c.with_room.ensures t n (c.gate.ensures.gate t n b) }

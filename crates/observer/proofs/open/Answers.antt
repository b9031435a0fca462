use Rattle.observer.proofs.open.Goals as goal

pub over-requires-clause-memory : goal.over-requires-clause-memory
over-requires-clause-memory c = c.in-Ok.ensures.stands c.args.command c.args.clock

use Rattle.pattern_plan.proofs.ring_layout.sides_of.Goals as goal

pub returns : goal.returns
returns c =
    c.side_sets.ensures c.args.tables.now c.requires.enabled
    (c.concurrent_sets.ensures c.args.tables.now c.requires.enabled c.named_sets.ensures)

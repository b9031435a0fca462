use Rattle.pattern_plan.proofs.planning.plan.Goals as goal

pub returns : goal.returns
returns c = c.plan_on.ensures

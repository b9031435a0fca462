use Rattle.std.proofs.Common.{refl}
use Rattle.pattern_plan.proofs.planning.held_phases.Goals as goal

pub returns : goal.returns
returns c = rw (c.coordinated_in.ensures.phase c.args.pattern c.requires.coordinated, c.coordinated_in-2.ensures.phase c.args.pattern c.requires.coordinated) refl

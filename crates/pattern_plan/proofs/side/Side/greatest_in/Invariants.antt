use Rattle.std.proofs.Common.{◌≡◌, max, length}
use Rattle.sig_types.specs.PhaseSet.{phases_of}
use Rattle.sig_tables.specs.Sums.{greatest}
use Rattle.pattern_plan.specs.LayoutStands.{at_phase}
use Rattle.pattern_plan.proofs.side.Side.greatest_in.Given as goal

abbrev pub invariant-members : goal.invariant-members
invariant-members l = max l.most (greatest (at_phase l.numbers) (phases_of l.left)) ≡ greatest (at_phase l.numbers) (phases_of l.fn.set)

abbrev pub decreases-members : goal.decreases-members
decreases-members l = length (phases_of l.left)

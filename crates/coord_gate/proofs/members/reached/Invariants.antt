use Rattle.std.proofs.Common.{◌-◌, nat_le, get_or, length}
use Rattle.sig_types.specs.PhaseSet.{phases_of}
use Rattle.coord_gate.proofs.Kept.{KeptOrLeft}
use Rattle.coord_gate.proofs.members.reached.Given as goal

abbrev pub invariant-members : goal.invariant-members
invariant-members l = KeptOrLeft l.fn.among l.passed l.left (λ p. nat_le (get_or l.moments (p - 1) 0) l.counter)

abbrev pub decreases-members : goal.decreases-members
decreases-members l = length (phases_of l.left)

use Rattle.std.proofs.Common.{◌+◌, ◌-◌, nat_le, get_or, length}
use Rattle.sig_types.specs.PhaseSet.{phases_of}
use Rattle.coord_gate.proofs.Kept.{KeptOrLeft}
use Rattle.coord_gate.proofs.members.in_time.Given as goal

abbrev pub invariant-members : goal.invariant-members
invariant-members l = KeptOrLeft l.fn.among l.passed l.left (λ p. nat_le (l.moment + get_or l.services (p - 1) 0) (get_or l.force (p - 1) 0))

abbrev pub decreases-members : goal.decreases-members
decreases-members l = length (phases_of l.left)

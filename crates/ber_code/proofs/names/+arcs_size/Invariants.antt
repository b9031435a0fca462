use Rattle.std.proofs.Common.{length}
use Rattle.ber_code.proofs.names.+arcs_size.Given as goal

abbrev pub decreases-arcs_size : goal.decreases-arcs_size
decreases-arcs_size l = length l.arcs.now

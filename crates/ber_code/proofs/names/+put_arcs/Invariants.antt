use Rattle.std.proofs.Common.{length}
use Rattle.ber_code.proofs.names.+put_arcs.Given as goal

abbrev pub decreases-put_arcs : goal.decreases-put_arcs
decreases-put_arcs l = length l.arcs.now

use Rattle.std.proofs.Common.{◌≡◌, length}
use Rattle.ber_code.specs.Reading.{arc_from}
use Rattle.ber_code.proofs.names.long_arc_of.Given as goal

abbrev pub invariant-loop-rest : goal.invariant-loop-rest
invariant-loop-rest l = arc_from l.arc l.rest ≡ arc_from 0 l.bytes

abbrev pub decreases-loop-rest : goal.decreases-loop-rest
decreases-loop-rest l = length l.rest

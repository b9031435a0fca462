use Rattle.trace_laws.proofs.OctetRounds.{streams-octets, arrivals-octets}
use Rattle.trace_laws.proofs.frame_octets.only_octets_go_over_the_line.Goals as goal

pub returns-clause-down : goal.returns-clause-down
returns-clause-down c = streams-octets

pub returns-clause-up : goal.returns-clause-up
returns-clause-up c = arrivals-octets

use Rattle.std.proofs.Common.{◌≡◌, drop}
use Rattle.requests.proofs.Statuses.{first}
use Rattle.requests.proofs.first_status.Given as goal

-- the first Response is among those to come
abbrev pub invariant-loop-octets : goal.invariant-loop-octets
invariant-loop-octets l = first l.id (drop l.octets-index l.arrived) ≡ first l.id l.arrived

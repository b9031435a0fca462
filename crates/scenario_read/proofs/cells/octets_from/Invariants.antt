use Rattle.std.proofs.Common.{◌≡◌, take}
use Rattle.arrayvec.specs.ArrayVec.{array_vec_len}
use Rattle.scenario_read.proofs.cells.octets_from.Given as goal

abbrev pub invariant-loop-octet : goal.invariant-loop-octet
invariant-loop-octet g l = (l.list.items ≡ take l.octet-index l.octets) × (array_vec_len l.list ≡ l.octet-index)

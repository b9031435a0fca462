use Rattle.std.proofs.Common.{◌≡◌, map, take}
use Rattle.serde_json.specs.View.{view}
use Rattle.gen_arterial.specs.Written.{lost_value}
use Rattle.gen_arterial.proofs.values.faults_in.Given as goal

-- the values so far
abbrev pub invariant-loop-fault : goal.invariant-loop-fault
invariant-loop-fault l = map view l.values.items ≡ map lost_value (take l.fault-index l.faults)

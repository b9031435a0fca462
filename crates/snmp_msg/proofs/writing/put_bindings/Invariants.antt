use Rattle.std.proofs.Common.{◌≡◌, ◌++◌, take}
use Rattle.std.specs.List.{flat_map}
use Rattle.snmp_msg.specs.Shortest.{binding_text}
use Rattle.snmp_msg.proofs.writing.put_bindings.Given as goal

abbrev pub invariant-loop-bind : goal.invariant-loop-bind
invariant-loop-bind l = l.out.items ≡ l.fn.out.items ++ flat_map binding_text (take l.bind-index l.binds)

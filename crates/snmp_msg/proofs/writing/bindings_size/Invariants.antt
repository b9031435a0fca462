use Rattle.std.proofs.Common.{◌≡◌, ◌*◌, ◌≤◌, length, take}
use Rattle.std.specs.List.{flat_map}
use Rattle.ber_code.specs.Fields.{AreTexts}
use Rattle.snmp_msg.specs.Values.{IsBinding}
use Rattle.snmp_msg.specs.Shortest.{binding_text}
use Rattle.snmp_msg.proofs.writing.bindings_size.Given as goal

abbrev pub invariant-loop-bind : goal.invariant-loop-bind
invariant-loop-bind l = record {
  size : l.size ≡ length (flat_map binding_text (take l.bind-index l.binds));
  texts : AreTexts IsBinding (flat_map binding_text (take l.bind-index l.binds)) (take l.bind-index l.binds);
  small : l.size ≤ 320 * l.bind-index;
}

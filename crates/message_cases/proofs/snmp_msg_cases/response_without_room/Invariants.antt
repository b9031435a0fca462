use Rattle.std.proofs.Common.{◌≡◌, length, All}
use Rattle.snmp_msg.specs.Shortest.{IsWritableBind}
use Rattle.message_cases.proofs.snmp_msg_cases.response_without_room.Given as goal

abbrev pub invariant-loop : goal.invariant-loop
invariant-loop l = record {
  count : length l.binds.items ≡ l.counter;
  writable : All IsWritableBind l.binds.items;
}

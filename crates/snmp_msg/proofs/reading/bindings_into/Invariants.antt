use Rattle.std.proofs.Common.{◌≡◌, ◌-◌, length}
use Rattle.ber_code.specs.Reading.{all_at, with_front}
use Rattle.snmp_msg.specs.Reading.{binding_at}
use Rattle.snmp_msg.proofs.reading.bindings_into.Given as goal

abbrev pub invariant-loop : goal.invariant-loop
invariant-loop l = record {
  count : length l.binds.items ≡ l.counter;
  goes : with_front l.binds.items (all_at binding_at (32 - l.counter) l.rest) ≡ all_at binding_at 32 l.bytes;
}

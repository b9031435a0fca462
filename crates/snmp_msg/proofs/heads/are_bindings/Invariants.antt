use Rattle.std.proofs.Common.{◌≡◌, ◌-◌, is_some}
use Rattle.ber_code.specs.Reading.{all_at}
use Rattle.snmp_msg.specs.Reading.{binding_at}
use Rattle.snmp_msg.proofs.heads.are_bindings.Given as goal

abbrev pub invariant-loop : goal.invariant-loop
invariant-loop l = is_some (all_at binding_at (32 - l.counter) l.rest) ≡ is_some (all_at binding_at 32 l.bytes)

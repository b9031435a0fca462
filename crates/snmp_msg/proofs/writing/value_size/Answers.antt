use Rattle.std.proofs.Common.{arith, subst, sym}
use Rattle.snmp_msg.specs.declared.message.Value.{Value}
use Rattle.snmp_msg.specs.Values.{IsValue}
use Rattle.snmp_msg.specs.Shortest.{value_text}
use Rattle.snmp_msg.proofs.WrittenLaws.{octets_are, null_is}
use Rattle.snmp_msg.proofs.writing.value_size.Goals as goal

pub returns-in-Octets-clause-text : goal.returns-in-Octets-clause-text
returns-in-Octets-clause-text c = subst (λ (v : Value). IsValue (value_text v) v) (sym c.in-Octets.is) (octets_are _ (omega (arith, c.len.ensures.value, c.len.ensures.fits)))

pub returns-in-Null-clause-text : goal.returns-in-Null-clause-text
returns-in-Null-clause-text c = subst (λ (v : Value). IsValue (value_text v) v) (sym c.in-Null.is) null_is

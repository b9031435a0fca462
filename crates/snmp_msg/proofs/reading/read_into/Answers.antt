use Rattle.std.proofs.Common.{arith}
use Rattle.snmp_msg.proofs.Into.{into_found, into_none, into_writable, into_fits}
use Rattle.snmp_msg.proofs.Least.{are_octets}
use Rattle.snmp_msg.proofs.reading.read_into.Goals as goal

pub returns-clause-found : goal.returns-clause-found
returns-clause-found c = into_found c.args.bytes.now c.message_into.result c.message_into.new.m c.message_into.ensures

pub returns-clause-none : goal.returns-clause-none
returns-clause-none c = into_none c.args.bytes.now c.message_into.result c.message_into.new.m c.message_into.ensures

pub returns-clause-writable : goal.returns-clause-writable
returns-clause-writable c = into_writable c.args.bytes.now c.message_into.result c.message_into.new.m c.message_into.ensures

pub returns-clause-fits : goal.returns-clause-fits
returns-clause-fits c =
    into_fits c.args.bytes.now (are_octets c.args.bytes.now (λ i. omega (arith, c.type_inv.bytes i))) c.message_into.result c.message_into.new.m c.message_into.ensures

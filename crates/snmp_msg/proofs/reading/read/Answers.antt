use Rattle.std.proofs.Common.{◌≡◌, Some, None, sym, ◌∙◌, arith}
use Rattle.std.proofs.lemmas.Grind.{common_steps}
use Rattle.snmp_msg.proofs.MessageLaws.{is_found, is_none, message_again, message_writable}
use Rattle.snmp_msg.proofs.Least.{are_octets, message_least}
use Rattle.snmp_msg.proofs.reading.read.Goals as goal

pub returns-clause-found : goal.returns-clause-found
returns-clause-found c = is_found c.args.bytes.now (Some c.message_into.new.m) (sym c.in_ok-message_into.ensures)

pub returns-clause-each : goal.returns-clause-each
returns-clause-each c = λ m is. sym c.in_ok-message_into.ensures ∙ message_again c.args.bytes.now m is

pub returns-clause-writable : goal.returns-clause-writable
returns-clause-writable c = message_writable c.args.bytes.now c.message_into.new.m (returns-clause-found c)

pub returns-clause-fits : goal.returns-clause-fits
returns-clause-fits c =
    let is = returns-clause-found c in
    let all = are_octets c.args.bytes.now (λ i. omega (arith, c.type_inv.bytes i)) in
    omega (arith, message_least c.args.bytes.now c.message_into.new.m all is.framed, is.fits)

pub returns-in_err-message_into-clause-none : goal.returns-in_err-message_into-clause-none
returns-in_err-message_into-clause-none c =
    let nothing : c.from_residual.result ≡ None = grind (arith, common_steps) in
    is_none c.args.bytes.now c.from_residual.result (nothing ∙ sym c.in_err-message_into.ensures)

pub returns-in_err-message_into-clause-each : goal.returns-in_err-message_into-clause-each
returns-in_err-message_into-clause-each c =
    let nothing : c.from_residual.result ≡ None = grind (arith, common_steps) in
    λ m is. nothing ∙ (sym c.in_err-message_into.ensures ∙ message_again c.args.bytes.now m is)

use Rattle.std.proofs.Common.{◌≡◌, ◌∙◌, None, sym, ap, arith}
use Rattle.std.proofs.lemmas.Bool.{false≢true}
use Rattle.std.proofs.lemmas.Grind.{common_steps}
use Rattle.snmp_msg.specs.declared.message.Message.{Message}
use Rattle.snmp_msg.proofs.Least.{are_octets}
use Rattle.snmp_msg.proofs.MessageLaws.{message_again}
use Rattle.agent.proofs.Asked.{same_message, asks_nothing}
use Rattle.agent.proofs.Readings.{asked_read, none_read}
use Rattle.agent.proofs.ask.decode_into.Goals as goal

pub returns-in_err-read_into-clause-none : goal.returns-in_err-read_into-clause-none
returns-in_err-read_into-clause-none c =
    let nothing : c.from_residual.result ≡ None = grind (arith, common_steps) in
    rw nothing (λ ask is. c.in_err-read_into.ensures.none ask.message is.message)

pub returns-in_err-read_into-clause-reads : goal.returns-in_err-read_into-clause-reads
returns-in_err-read_into-clause-reads c =
    let nothing : c.from_residual.result ≡ None = grind (arith, common_steps) in
    rw nothing (none_read c.args.frame.now c.args.community.now c.args.tables.now (λ ask is. c.in_err-read_into.ensures.none ask.message is.message))

pub returns-then-not-is_of-clause-none : goal.returns-then-not-is_of-clause-none
returns-then-not-is_of-clause-none c ask is =
    let m = c.read_into.new.m in
    let same = same_message c.args.frame.now c.args.community.now c.args.tables.now m ask (λ other a. sym c.in_ok-read_into.ensures.reads ∙ message_again c.args.frame.now other a) is in
    let ours : m.community.items ≡ c.args.community.now = ap (λ (x : Message). x.community.items) same ∙ is.of_community in
    false≢true (sym c.if-not-is_of.true ∙ c.is_of.ensures.1 ours)

pub returns-then-not-is_of-clause-reads : goal.returns-then-not-is_of-clause-reads
returns-then-not-is_of-clause-reads c = none_read c.args.frame.now c.args.community.now c.args.tables.now (returns-then-not-is_of-clause-none c)

pub returns-in_err-ask-clause-none : goal.returns-in_err-ask-clause-none
returns-in_err-ask-clause-none c =
    let m = c.read_into.new.m in
    let nothing : c.from_residual-in_err-ask.result ≡ None = grind (arith, common_steps) in
    rw nothing (λ ask is. asks_nothing c.args.frame.now c.args.community.now c.args.tables.now m ask
    (same_message c.args.frame.now c.args.community.now c.args.tables.now m ask (λ other a. sym c.in_ok-read_into.ensures.reads ∙ message_again c.args.frame.now other a) is)
    c.in_err-ask.ensures.wish is)

pub returns-in_err-ask-clause-reads : goal.returns-in_err-ask-clause-reads
returns-in_err-ask-clause-reads c =
    let m = c.read_into.new.m in
    let nothing : c.from_residual-in_err-ask.result ≡ None = grind (arith, common_steps) in
    rw nothing (none_read c.args.frame.now c.args.community.now c.args.tables.now
    (λ ask is. asks_nothing c.args.frame.now c.args.community.now c.args.tables.now m ask
    (same_message c.args.frame.now c.args.community.now c.args.tables.now m ask (λ other a. sym c.in_ok-read_into.ensures.reads ∙ message_again c.args.frame.now other a) is)
    c.in_err-ask.ensures.wish is))

pub returns-clause-reads : goal.returns-clause-reads
returns-clause-reads c =
    asked_read c.args.frame.now c.args.community.now c.args.tables.now _
    (record { message = c.in_ok-read_into.ensures.found; of_community = c.is_of.ensures.0 c.if-not-is_of.false; wish = sym c.in_ok-ask.ensures.wish })

pub returns-clause-asked : goal.returns-clause-asked
returns-clause-asked c = (
  c.args.frame.now,
  c.args.community.now,
  c.args.tables.now,
  are_octets c.args.frame.now (λ i. omega (arith, c.type_inv.frame i)),
  record { message = c.in_ok-read_into.ensures.found; of_community = c.is_of.ensures.0 c.if-not-is_of.false; wish = sym c.in_ok-ask.ensures.wish },
)

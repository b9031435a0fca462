-- What is asked comes from a message, and so fits into a frame and can be written.
use Rattle.std.proofs.Common.{◌≡◌, ℕ, ◌≤◌, List, length, Some, None, refl, ap, subst, ◌∙◌, arith}
use Rattle.std.proofs.lemmas.Option.{same_Some}
use Rattle.sig_tables.specs.declared.tables.Tables.{Tables}
use Rattle.snmp_msg.specs.declared.message.Message.{Message}
use Rattle.snmp_msg.specs.Messages.{IsMessage}
use Rattle.snmp_msg.specs.Shortest.{shortest, IsWritableMessage}
use Rattle.snmp_msg.proofs.Least.{message_least}
use Rattle.snmp_msg.proofs.MessageLaws.{message_writable}
use Rattle.agent.specs.declared.ask.Wish.{Wish}
use Rattle.agent.specs.declared.ask.Wish.TheVariants.{Bad}
use Rattle.agent.specs.declared.ask.Ask.{Ask}
use Rattle.agent.specs.Asks.{wish_of, Asks, IsAsked}
use Rattle.agent.specs.Bindings.{IsSmall}
use Rattle.agent.proofs.Faults.{IsLow, wish_low}

pub asked_fits : (ask : Ask) → IsAsked ask → length (shortest ask.message) ≤ 1472
asked_fits ask is =
    let message = is.4.message in
    omega (arith, message_least is.0 ask.message is.3 message.framed, message.fits)

pub asked_writable : (ask : Ask) → IsAsked ask → IsWritableMessage ask.message
asked_writable ask is = message_writable is.0 ask.message is.4.message

-- a frame is one message
pub same_message : (frame community : List ℕ) (t : Tables) (m : Message) (ask : Ask) → ((other : Message) → IsMessage frame other → Some m ≡ Some other) → Asks frame community t ask → m ≡ ask.message
same_message frame community t m ask each is = same_Some m ask.message (each ask.message is.message)

-- and asks one thing
pub ask_is : (frame community : List ℕ) (t : Tables) (m : Message) (wish : Wish) (ask : Ask) → m ≡ ask.message → Some wish ≡ wish_of t m.pdu m.binds.items → Asks frame community t ask
    → Some (record { message = m; wish = wish }) ≡ Some ask
ask_is frame community t m wish ask same given is =
    let wishes : wish ≡ ask.wish = same_Some wish ask.wish (given ∙ ap (λ (x : Message). wish_of t x.pdu x.binds.items) same ∙ is.wish) in
    rw (same, wishes) refl

-- a message without a wish asks nothing
pub asks_nothing : (frame community : List ℕ) (t : Tables) (m : Message) (ask : Ask) → m ≡ ask.message → None ≡ wish_of t m.pdu m.binds.items → Asks frame community t ask → ⊥
asks_nothing frame community t m ask same given is =
    let nothing : None ≡ Some ask.wish = given ∙ ap (λ (x : Message). wish_of t x.pdu x.binds.items) same ∙ is.wish in
    cc

pub bad_small : (ask : Ask) (status index : ℕ) → IsAsked ask → ask.wish ≡ Bad status index → IsSmall (record { status = status; index = index })
bad_small ask status index is bad =
    let m = ask.message in
    subst IsLow bad (wish_low is.2 m.pdu m.binds.items ask.wish is.4.message.framed.pdus.few is.4.wish)

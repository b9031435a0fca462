-- What reading into a message gives.
use Rattle.std.proofs.Common.{ℕ, ◌≤◌, List, length, Option, Some, None, sym, arith}
use Rattle.std.specs.Prelude.{IfNone, OnSome}
use Rattle.ber_code.specs.Reading.{Gives}
use Rattle.snmp_msg.specs.declared.message.Message.{Message}
use Rattle.snmp_msg.specs.Messages.{IsMessage}
use Rattle.snmp_msg.specs.Reading.{message_of}
use Rattle.snmp_msg.specs.Shortest.{AreOctets, IsWritableMessage, shortest}
use Rattle.snmp_msg.proofs.Least.{message_least}
use Rattle.snmp_msg.proofs.MessageLaws.{is_found, is_none, message_writable}

pub into_found : (bytes : List ℕ) (r : Option (Unit {0})) (m : Message) → Gives (λ _. m) r (message_of bytes) → OnSome r (IsMessage bytes m)
into_found bytes (Some done) m e = is_found bytes (Some m) (sym e)
into_found bytes None m e = tt

pub into_none : (bytes : List ℕ) (r : Option (Unit {0})) (m : Message) → Gives (λ _. m) r (message_of bytes)
    → IfNone r ((other : Message) → IsMessage bytes other → ⊥)
into_none bytes (Some done) m e = tt
into_none bytes None m e = is_none bytes None (sym e)

pub into_writable : (bytes : List ℕ) (r : Option (Unit {0})) (m : Message) → Gives (λ _. m) r (message_of bytes) → OnSome r (IsWritableMessage m)
into_writable bytes (Some done) m e = message_writable bytes m (is_found bytes (Some m) (sym e))
into_writable bytes None m e = tt

pub into_fits : (bytes : List ℕ) → AreOctets bytes → (r : Option (Unit {0})) (m : Message) → Gives (λ _. m) r (message_of bytes)
    → OnSome r (length (shortest m) ≤ 1472)
into_fits bytes octets (Some done) m e =
    let is = is_found bytes (Some m) (sym e) in
    omega (arith, message_least bytes m octets is.framed, is.fits)
into_fits bytes octets None m e = tt

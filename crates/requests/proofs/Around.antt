-- A request around the texts of its bindings is the request.
use Rattle.std.proofs.Common.{◌≡◌, ℕ, List, [], refl}
use Rattle.std.specs.Prelude.{ℤ}
use Rattle.std.specs.List.{flat_map}
use Rattle.snmp_msg.specs.declared.message.Pdu.{Pdu}
use Rattle.snmp_msg.specs.declared.message.Bind.{Bind}
use Rattle.snmp_msg.specs.Shortest.{binding_text, pdu_content, message_content, shortest}
use Rattle.snmp_msg.specs.Around.{pdu_around, content_around, message_around}
use Rattle.requests.specs.Requests.{request}

pub around_is : (pdu : Pdu) (community : List ℕ) (id : ℤ) (binds : List Bind)
    → message_around (request pdu community id []) (flat_map binding_text binds) ≡ shortest (request pdu community id binds)
unfolding pdu_around content_around message_around pdu_content message_content shortest
around_is pdu community id binds = refl

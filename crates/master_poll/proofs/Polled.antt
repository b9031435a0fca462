-- The texts of what a poll asks for.
use Rattle.std.proofs.Common.{◌≡◌, map, refl}
use Rattle.std.specs.List.{flat_map}
use Rattle.ber_code.specs.Lengths.{length_text}
use Rattle.ber_code.specs.Names.{arc_text, name_text}
use Rattle.snmp_msg.specs.Shortest.{binding_text, value_text}
use Rattle.requests.specs.Requests.{asked_for}
use Rattle.master_poll.specs.declared.command.TheConstants.{POLLED_TEXT}
use Rattle.master_poll.specs.Sends.{polled}

pub polled_is : POLLED_TEXT ≡ flat_map binding_text (map asked_for polled)
unfolding length_text arc_text name_text value_text binding_text
polled_is = refl

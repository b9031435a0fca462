-- The Response to a request, as the head of a message gives it.
use Rattle.std.specs.Prelude.{ℤ, ◌&&◌, if◌then◌else◌, Bool, ℕ, List, Option, Some, None}
use Rattle.std.specs.Ordering.{int_eq}
use Rattle.std.specs.Option.{option_map}
use Rattle.ber_code.specs.Reading.{◌>>=◌}
use Rattle.snmp_msg.specs.declared.message.Head.{Head}
use Rattle.snmp_msg.specs.Heads.{head_of}
use Rattle.snmp_msg.specs.Reading.{message_of}
use Rattle.requests.specs.Requests.{is_response}

-- the head is that of a Response with this id
abbrev pub answers_by_head : ℤ → Head → Bool
answers_by_head id head = is_response head.pdu && int_eq head.id id

-- the status of a head, if it is that of a Response with this id
abbrev pub status_by_head : ℤ → Head → Option ℤ
status_by_head id head = if answers_by_head id head then Some head.status else None

-- the status of a message, if it is a Response with this id
abbrev pub status_at : ℤ → List ℕ → Option ℤ
status_at id text = option_map head_of (message_of text) >>= status_by_head id

-- The response to a request, as a message (RFC 1157, 4.1.2 to 4.1.5).
use Rattle.std.specs.Prelude.{◌≡◌, ℕ, pos, nat_le, is_some, Bool, true, false, if◌then◌else◌, List, length, Option, Some, None, Result, Ok, Err}
use Rattle.sig_types.specs.declared.notes.StageAnswer.{StageAnswer}
use Rattle.sig_types.specs.declared.notes.StageAnswer.TheVariants.{WrongToken, WrongPart, NotVerified, Refused}
use Rattle.snmp_msg.specs.declared.message.Pdu.TheVariants.{Response}
use Rattle.snmp_msg.specs.declared.message.Value.{Value}
use Rattle.snmp_msg.specs.declared.message.Bind.{Bind}
use Rattle.snmp_msg.specs.declared.message.Message.{Message}
use Rattle.snmp_msg.specs.Shortest.{shortest}
use Rattle.oid_map.specs.Objects.{next_of}
use Rattle.agent.specs.declared.ask.Wish.{Wish}
use Rattle.agent.specs.declared.ask.Wish.TheVariants.{Get, Next, Begin, Part, Verify, Finish, Bad}
use Rattle.agent.specs.declared.bindings.Fault.{Fault}
use Rattle.agent.specs.declared.reply.Reach.{Reach}
use Rattle.agent.specs.declared.reply.Reach.TheVariants.{Named, Following}
use Rattle.agent.specs.Seen.{Seen}
use Rattle.agent.specs.Values.{value_named}
use Rattle.agent.specs.Bindings.{each_gives}

-- the instance with its value; noSuchName if it has no value
abbrev pub with_value : List ℕ → Option Value → Result Bind ℕ
with_value arcs (Some value) = Ok (record { name = record { items = arcs }; value = value })
with_value arcs None = Err 2

-- the instance that a binding names
abbrev pub instance_of : Seen → Bind → Result Bind ℕ
instance_of s bind = with_value bind.name.items (value_named s bind.name.items)

-- the instance with this name; noSuchName if there is no name
abbrev pub instance_at : Seen → Option (List ℕ) → Result Bind ℕ
instance_at s (Some arcs) = with_value arcs (value_named s arcs)
instance_at s None = Err 2

-- the first instance after the name of a binding
abbrev pub next_instance : Seen → Bind → Result Bind ℕ
next_instance s bind = instance_at s (next_of bind.name.items)

-- the instance that a binding asks for: the named instance, or the one after the name
abbrev pub given : Reach → Seen → Bind → Result Bind ℕ
given Named s bind = instance_of s bind
given Following s bind = next_instance s bind

-- a Response with the community and the id of the request
abbrev pub response : Message → ℕ → ℕ → List Bind → Message
response m status index binds = record {
  community = m.community;
  pdu = Response;
  id = m.id;
  status = pos status;
  index = pos index;
  binds = record { items = binds };
}

-- a Response that repeats the bindings of the request
abbrev pub repeated : Message → ℕ → ℕ → Message
repeated m status index = response m status index m.binds.items

-- this Response if it has at most 1,472 octets, otherwise tooBig
abbrev pub within_frame : Message → Message → Message
within_frame m good = if nat_le (length (shortest good)) 1472 then good else repeated m 1 0

-- the Response with these values; if there is a fault, the Response with the first fault and the bindings of the
-- request
abbrev pub with_values : Message → Result (List Bind) Fault → Message
with_values m (Ok binds) = within_frame m (response m 0 0 binds)
with_values m (Err fault) = repeated m fault.status fault.index

-- the status for an answer of the download stage: 3 if the id or the part isn't the expected one, 5 if the step isn't
-- possible now, otherwise 0
abbrev pub stage_status : StageAnswer → ℕ
stage_status WrongToken = 3
stage_status (WrongPart due) = 3
stage_status NotVerified = 5
stage_status (Refused broken) = 5
stage_status _ = 0

-- the index of the binding at fault: 1 for the id, 2 for the binding after it, 0 without a fault
abbrev pub stage_index : StageAnswer → ℕ
stage_index WrongToken = 1
stage_index (WrongPart due) = 2
stage_index NotVerified = 2
stage_index (Refused broken) = 2
stage_index _ = 0

-- the Response to a Set, with the status of the stage's answer if the stage was called
abbrev pub told : Message → Option StageAnswer → Message
told m (Some answer) = repeated m (stage_status answer) (stage_index answer)
told m None = repeated m 0 0

-- the request calls the download stage
abbrev pub is_for_stage : Wish → Bool
is_for_stage (Begin id) = true
is_for_stage (Part id number puts) = true
is_for_stage (Verify id total) = true
is_for_stage (Finish id) = true
is_for_stage _ = false

-- the stage has answered exactly if the request calls it
abbrev pub HasOutcome : Wish → Option StageAnswer → Type 0
HasOutcome wish outcome = is_some outcome ≡ is_for_stage wish

-- the Response to a request, by the answer of the stage if the stage was called
abbrev pub reply : Seen → Message → Wish → Option StageAnswer → Message
reply s m Get outcome = with_values m (each_gives (given Named s) 1 m.binds.items)
reply s m Next outcome = with_values m (each_gives (given Following s) 1 m.binds.items)
reply s m (Bad status index) outcome = repeated m status index
reply s m wish outcome = told m outcome

-- The texts of instances with their values, one after another, as they are written while the bindings are gone through.
use Rattle.std.specs.Prelude.{◌≡◌, ℕ, ◌+◌, ◌<◌, Bool, true, false, List, ◌++◌, length, Result, Ok, Err}
use Rattle.std.specs.List.{flat_map}
use Rattle.snmp_msg.specs.declared.message.Bind.{Bind}
use Rattle.snmp_msg.specs.Shortest.{binding_text}
use Rattle.agent.specs.declared.bindings.Fault.{Fault}

-- the text of one instance was appended, or it didn't fit into the message, or there is no instance
abbrev pub Puts : Result Bool ℕ → List ℕ → List ℕ → Result Bind ℕ → Type 0
Puts (Ok true) old new (Ok bind) = new ≡ old ++ binding_text bind
Puts (Ok false) old new (Ok bind) = 1472 < length old + length (binding_text bind)
Puts (Err status) old new (Err other) = status ≡ other
Puts (Ok fits) old new (Err other) = ⊥
Puts (Err status) old new (Ok bind) = ⊥

-- the texts of all instances were written, or they don't fit into a message, or this is the first fault
abbrev pub Written : Result Bool Fault → List ℕ → Result (List Bind) Fault → Type 0
Written (Ok true) text (Ok binds) = text ≡ flat_map binding_text binds
Written (Ok false) text (Ok binds) = 1472 < length (flat_map binding_text binds)
Written (Err fault) text (Err other) = fault ≡ other
Written (Ok fits) text (Err other) = ⊥
Written (Err fault) text (Ok binds) = ⊥

-- what was written so far, followed by the results of the other bindings; `false` means that the text didn't fit
abbrev pub Leads : Bool → List ℕ → Result (List Bind) Fault → Result (List Bind) Fault → Type 0
Leads true text (Ok others) (Ok all) = text ++ flat_map binding_text others ≡ flat_map binding_text all
Leads false text (Ok others) (Ok all) = 1472 < length (flat_map binding_text all)
Leads fits text (Err fault) (Err other) = fault ≡ other
Leads fits text (Ok others) (Err other) = ⊥
Leads fits text (Err fault) (Ok all) = ⊥

-- The result of each binding of a request in order, or the first fault (RFC 1157, 4.1.2 to 4.1.5).
use Rattle.std.specs.Prelude.{ℕ, ◌+◌, ◌<◌, List, [], ◌∷◌, ◌++◌, Result, Ok, Err}
use Rattle.arrayvec.specs.ArrayVec.{ArrayVec}
use Rattle.snmp_msg.specs.declared.message.Bind.{Bind}
use Rattle.agent.specs.declared.bindings.Fault.{Fault}

-- the result of the first binding, followed by the results of the others. If several bindings have a fault, the first
-- fault counts. `place` is the index of the first binding
abbrev pub before : {A : Type 0} → Result A ℕ → ℕ → Result (List A) Fault → Result (List A) Fault
before (Err status) place others = Err (record { status = status; index = place })
before (Ok given) place (Ok others) = Ok (given ∷ others)
before (Ok given) place (Err fault) = Err fault

-- the result of each binding, or the status and the index of the first fault. `place` is the index of the first
-- binding
abbrev pub each_gives : {A : Type 0} → (Bind → Result A ℕ) → ℕ → List Bind → Result (List A) Fault
each_gives give place [] = Ok []
each_gives give place (bind ∷ binds) = before (give bind) place (each_gives give (place + 1) binds)

-- the results that a call gathered, as a list
abbrev pub listed : {A : Type 0} → Result (ArrayVec A) Fault → Result (List A) Fault
listed (Ok gathered) = Ok gathered.items
listed (Err fault) = Err fault

-- the results gathered so far, followed by the results of the others
abbrev pub after : {A : Type 0} → List A → Result (List A) Fault → Result (List A) Fault
after gathered (Ok others) = Ok (gathered ++ others)
after gathered (Err fault) = Err fault

-- both numbers of the fault fit into an INTEGER of one octet
abbrev pub IsSmall : Fault → Type 0
IsSmall fault = (fault.status < 128) × (fault.index < 128)

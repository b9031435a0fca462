-- What the bindings give, gathered from the first on.
use Rattle.std.proofs.Common.{◌≡◌, ℕ, ◌+◌, ◌<◌, ◌≤◌, List, [], ◌∷◌, ◌++◌, length, Result, Ok, Err, refl, sym, ap, append_assoc, arith}
use Rattle.std.specs.Prelude.{IfErr}
use Rattle.snmp_msg.specs.declared.message.Bind.{Bind}
use Rattle.agent.specs.declared.bindings.Fault.{Fault}
use Rattle.std.proofs.Common.{Option, Some, None}
use Rattle.snmp_msg.specs.declared.message.Value.{Value}
use Rattle.oid_map.specs.Objects.{next_of}
use Rattle.agent.specs.declared.reply.Reach.{Reach}
use Rattle.agent.specs.declared.reply.Reach.TheVariants.{Named, Following}
use Rattle.agent.specs.Seen.{Seen}
use Rattle.agent.specs.Values.{value_named}
use Rattle.agent.specs.Replies.{with_value, instance_at, given}
use Rattle.agent.specs.Bindings.{before, each_gives, after, IsSmall}

-- one more is gathered
pub gathers : {A : Type 0} (xs : List A) (x : A) (place : ℕ) (others : Result (List A) Fault) → after xs (before (Ok x) place others) ≡ after (xs ++ x ∷ []) others
gathers xs x place (Ok others) = ap Ok (sym (append_assoc xs (x ∷ []) others))
gathers xs x place (Err fault) = refl

-- a fault lies within the bindings
pub fault_is_small : {A : Type 0} (give : Bind → Result A ℕ) → ((bind : Bind) → IfErr (give bind) (λ status. status < 128))
    → (binds : List Bind) (place : ℕ) → place + length binds ≤ 128 → IfErr (each_gives give place binds) IsSmall
fault_is_small give low [] place few = tt
fault_is_small give low (bind ∷ binds) place few =
    small (give bind) (low bind) place (each_gives give (place + 1) binds) (omega (arith, few)) (fault_is_small give low binds (place + 1) (omega (arith, few)))
  where
    small : {A : Type 0} (first : Result A ℕ) → IfErr first (λ status. status < 128) → (place : ℕ) (others : Result (List A) Fault)
        → place < 128 → IfErr others IsSmall → IfErr (before first place others) IsSmall
    small (Ok x) low place (Ok others) few is = tt
    small (Ok x) low place (Err fault) few is = is
    small (Err status) low place others few is = (low, few)

with_value_low : (arcs : List ℕ) (value : Option Value) → IfErr (with_value arcs value) (λ status. status < 128)
with_value_low arcs (Some value) = tt
with_value_low arcs None = omega arith

instance_low : (s : Seen) (next : Option (List ℕ)) → IfErr (instance_at s next) (λ status. status < 128)
instance_low s (Some arcs) = with_value_low arcs (value_named s arcs)
instance_low s None = omega arith

given_low : (reach : Reach) (s : Seen) (bind : Bind) → IfErr (given reach s bind) (λ status. status < 128)
given_low Named s bind = with_value_low bind.name.items (value_named s bind.name.items)
given_low Following s bind = instance_low s (next_of bind.name.items)

-- the fault of a Get or a GetNext
pub given_small : (reach : Reach) (s : Seen) (binds : List Bind) → length binds ≤ 32 → IfErr (each_gives (given reach s) 1 binds) IsSmall
given_small reach s binds few = fault_is_small (given reach s) (given_low reach s) binds 1 (omega (arith, few))

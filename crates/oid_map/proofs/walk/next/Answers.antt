use Rattle.std.proofs.Common.{subst, List, ℕ}
use Rattle.ber_code.specs.Reading.{Gives}
use Rattle.arrayvec.specs.ArrayVec.{ArrayVec}
use Rattle.oid_map.specs.Objects.{next_of}
use Rattle.oid_map.proofs.Table.{next_known, next_passes, next_writable}
use Rattle.oid_map.proofs.walk.next.Goals as goal

gives : (c : goal.After-next_after) → Gives (λ o. o.items) c.next_after.result (next_of c.args.name.now.items)
gives c = subst (λ (name : List ℕ). Gives (λ (o : ArrayVec ℕ). o.items) c.next_after.result (next_of name)) c.as_slice.ensures.value c.next_after.ensures

pub returns-clause-next : goal.returns-clause-next
returns-clause-next c = gives c

pub returns-clause-after : goal.returns-clause-after
returns-clause-after c = next_passes _ _ (gives c)

pub returns-clause-known : goal.returns-clause-known
returns-clause-known c = next_known _ _ (gives c)

pub returns-clause-writable : goal.returns-clause-writable
returns-clause-writable c = next_writable _ (next_known _ _ (gives c))

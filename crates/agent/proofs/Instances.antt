-- Which instances have a value.
use Rattle.std.proofs.Common.{◌≡◌, ◌≢◌, ℕ, ◌<◌, ◌≤◌, ◌⊎◌, List, [], ◌∷◌, Some, None, refl, sym, ap, subst, ◌∙◌, arith, inl, inr}
use Rattle.std.specs.List.{AllByRecursion}
use Rattle.std.proofs.lemmas.Bool.{cases_lt}
use Rattle.std.proofs.lemmas.Bool.Decides.{nat_tests}
use Rattle.oid_map.specs.declared.names.Name.{Name}
use Rattle.oid_map.specs.declared.names.Name.TheVariants.{Cell as CellName, Index, Group, PatternStatus, PatternControl, Txn, Clock, Counter, Target, ModeCode, Request, Cancel, RequestState}
use Rattle.oid_map.specs.Names.{IsName, IsReadable, IsReadableInstance}
use Rattle.oid_map.specs.Objects.{readable, next_of}
use Rattle.oid_map.specs.Order.{IsAmong, is_before}
use Rattle.oid_map.specs.Reading.{name_at}
use Rattle.oid_map.proofs.Back.{back}
use Rattle.std.specs.Prelude.{IfSome, Option}
use Rattle.oid_map.proofs.Least.{found_among}
use Rattle.oid_map.proofs.Table.{readable_named}
use Rattle.agent.specs.Seen.{Seen}
use Rattle.agent.specs.Values.{download_number, value_of, value_named}

-- what holds of each holds of one of them
of_one : {A : Type 0} (P : A → Type 0) (xs : List A) → AllByRecursion P xs → (x : A) → IsAmong x xs → P x
of_one P [] all x among = absurd among
of_one P (y ∷ ys) all x (inl same) = subst P (sym same) all.0
of_one P (y ∷ ys) all x (inr later) = of_one P ys all.1 x later

download_read : (s : Seen) (number : ℕ) → 1 ≤ number → number ≤ 10 → (number < 2) ⊎ (6 < number) → download_number s number ≢ None
download_read s number some few (inl low) = grind (arith, nat_tests)
download_read s number some few (inr high) = grind (arith, nat_tests)

download_written : (s : Seen) (number : ℕ) → 2 ≤ number → number ≤ 6 → download_number s number ≡ None
download_written s number some few = grind (arith, nat_tests)

readable_has_value : (s : Seen) (name : Name) → IsName name → IsReadable name → value_of s name ≢ None
readable_has_value s (CellName cell) is reads = λ e. cc
readable_has_value s (Index table column row sub) is reads = λ e. cc
readable_has_value s (Group column group) is reads = λ e. cc
readable_has_value s PatternStatus is reads = λ e. cc
readable_has_value s PatternControl is reads = λ e. cc
readable_has_value s (Txn number) is reads = grind (arith, download_read s number is.0 is.1 reads)
readable_has_value s Clock is reads = λ e. cc
readable_has_value s Counter is reads = λ e. cc
readable_has_value s Target is reads = λ e. cc
readable_has_value s ModeCode is reads = λ e. cc
readable_has_value s Request is reads = absurd reads
readable_has_value s Cancel is reads = absurd reads
readable_has_value s (RequestState number) is reads = λ e. cc

pub each_has_value : (s : Seen) (arcs : List ℕ) → IsAmong arcs readable → value_named s arcs ≢ None
each_has_value s arcs among =
    let instance = of_one IsReadableInstance readable readable_named arcs among in
    let name = instance.0 in
    let found : name_at arcs ≡ Some name = ap name_at instance.3 ∙ back name instance.1 in
    rw found (readable_has_value s name instance.1 instance.2)

-- what comes next is one of those that can be read
pub next_has_value : (s : Seen) (arcs : List ℕ) → IfSome (next_of arcs) (λ following. value_named s following ≢ None)
next_has_value s arcs = valued (next_of arcs) (found_among (is_before arcs) readable)
  where
    valued : (next : Option (List ℕ)) → IfSome next (λ following. IsAmong following readable) → IfSome next (λ following. value_named s following ≢ None)
    valued (Some following) among = each_has_value s following among
    valued None among = tt

pub others_have_none : (s : Seen) (name : Name) → IsName name → (IsReadable name → ⊥) → value_of s name ≡ None
others_have_none s (CellName cell) is writes = absurd (writes tt)
others_have_none s (Index table column row sub) is writes = absurd (writes tt)
others_have_none s (Group column group) is writes = absurd (writes tt)
others_have_none s PatternStatus is writes = absurd (writes tt)
others_have_none s PatternControl is writes = absurd (writes tt)
others_have_none s (Txn number) is writes = elim (cases_lt number 2) [
  | inl low ↦ absurd (writes (inl low))
  | inr some ↦ elim (cases_lt 6 number) [
    | inl high ↦ absurd (writes (inr high))
    | inr few ↦ rw (download_written s number (omega arith) (omega arith)) refl
  ]
]
others_have_none s Clock is writes = absurd (writes tt)
others_have_none s Counter is writes = absurd (writes tt)
others_have_none s Target is writes = absurd (writes tt)
others_have_none s ModeCode is writes = absurd (writes tt)
others_have_none s Request is writes = refl
others_have_none s Cancel is writes = refl
others_have_none s (RequestState number) is writes = absurd (writes tt)

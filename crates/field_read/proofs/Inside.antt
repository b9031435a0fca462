-- What is in a sorted object is sorted, and nests no deeper.
use Rattle.std.proofs.Common.{◌≡◌, ◌≤◌, ℕ, max, List, Some, Ordering, Less, Equal, Greater, nat_cmp, subst, arith}
use Rattle.std.specs.Cmp.Lexicographic.{slice_cmp}
use Rattle.std.specs.Ordering.{match_ordering}
use Rattle.serde_json.specs.Data.{Data, null, boolean, number, string, array, object, Members, no_members, member, depth, members_depth}
use Rattle.serde_json.specs.Find.{get, get_member}
use Rattle.scenario_read.specs.Sorted.{Sorted, MembersSorted}

of-members-sorted : (k : List ℕ) (ms : Members) (v : Data) → Some v ≡ get_member k ms → MembersSorted ms → Sorted v
of-members-sorted k no_members v e sorted = absurd (cc)
of-members-sorted k (member l d ms) v e sorted = split (λ h. of-members-sorted k ms v h sorted.2) (slice_cmp nat_cmp k l) e
  where
    split : (Some v ≡ get_member k ms → Sorted v) → (o : Ordering) → Some v ≡ match_ordering o (get_member k ms) (Some d) (get_member k ms) → Sorted v
    split rest Less h = rest h
    split rest Equal h = let same : d ≡ v = cc in subst Sorted same sorted.0
    split rest Greater h = rest h

pub member-sorted : (k : List ℕ) (d v : Data) → Some v ≡ get k d → Sorted d → Sorted v
member-sorted k null v e sorted = absurd (cc)
member-sorted k (boolean b) v e sorted = absurd (cc)
member-sorted k (number n) v e sorted = absurd (cc)
member-sorted k (string s) v e sorted = absurd (cc)
member-sorted k (array ds) v e sorted = absurd (cc)
member-sorted k (object ms) v e sorted = of-members-sorted k ms v e sorted

pub of-members-nests : (k : List ℕ) (ms : Members) (v : Data) → Some v ≡ get_member k ms → depth v ≤ members_depth ms
of-members-nests k no_members v e = absurd (cc)
of-members-nests k (member l d ms) v e = split (λ h. of-members-nests k ms v h) (slice_cmp nat_cmp k l) e
  where
    split : (Some v ≡ get_member k ms → depth v ≤ members_depth ms) → (o : Ordering) → Some v ≡ match_ordering o (get_member k ms) (Some d) (get_member k ms)
        → depth v ≤ max (depth d) (members_depth ms)
    split rest Less h = let low : depth v ≤ members_depth ms = rest h in omega (arith, low)
    split rest Equal h =
        let same : d ≡ v = cc in subst (λ (x : Data). depth x ≤ max (depth d) (members_depth ms)) same (omega arith)
    split rest Greater h = let low : depth v ≤ members_depth ms = rest h in omega (arith, low)

pub member-nests : (k : List ℕ) (d v : Data) (most : ℕ) → Some v ≡ get k d → depth d ≤ most → depth v ≤ most
member-nests k null v most e low = absurd (cc)
member-nests k (boolean b) v most e low = absurd (cc)
member-nests k (number n) v most e low = absurd (cc)
member-nests k (string s) v most e low = absurd (cc)
member-nests k (array ds) v most e low = absurd (cc)
member-nests k (object ms) v most e low = let deep : depth v ≤ members_depth ms = of-members-nests k ms v e in omega (arith, deep, low)

-- Names in the order of their bytes, and members that rise by their names.
use Rattle.std.proofs.Common.{◌≡◌, ℕ, Bool, true, false, List, Option, Some, Ordering, Less, Equal, Greater, nat_cmp, bytes_eq, refl, sym, ap, ◌∙◌}
use Rattle.std.proofs.lemmas.Cmp.{nat_list_cmp_total, tied_itself}
use Rattle.std.proofs.lemmas.Slice.Eq.{bytes_eq-Decides}
use Rattle.std.specs.Cmp.Lexicographic.{slice_cmp}
use Rattle.std.specs.Ordering.{match_ordering, ordering_reverse}
use Rattle.serde_json.specs.Data.{Data, Members, no_members, member, put}
use Rattle.serde_json.specs.Find.{get_member}
use Rattle.scenario_read.specs.Sorted.{Below, MembersSorted}

-- ---- two names

-- names that differ are not one
pub apart : (a b : List ℕ) → bytes_eq a b ≡ false → a ≡ b → ⊥
apart a b other same =
    let both : bytes_eq a b ≡ true = (bytes_eq-Decides a b).1 same in
    let clash : true ≡ false = sym both ∙ other in
    absurd (cc)

-- names of which one comes first differ
pub apart-names : (a b : List ℕ) → (slice_cmp nat_cmp a b ≡ Equal → ⊥) → bytes_eq b a ≡ false
apart-names a b other = differ (bytes_eq b a) refl
  where
    differ : (same : Bool) → bytes_eq b a ≡ same → same ≡ false
    differ true e = absurd (other (ap (slice_cmp nat_cmp a) ((bytes_eq-Decides b a).0 e) ∙ tied_itself nat_list_cmp_total a))
    differ false e = refl

pub not-less : (o : Ordering) → o ≡ Less → o ≡ Equal → ⊥
not-less o a b = cc

pub not-greater : (o : Ordering) → o ≡ Greater → o ≡ Equal → ⊥
not-greater o a b = cc

-- ---- a name before those of members

pub below-chain : (low name : List ℕ) (ms : Members) → slice_cmp nat_cmp low name ≡ Less → Below name ms → Below low ms
below-chain low name no_members less below = tt
below-chain low name (member other d ms) less below = (nat_list_cmp_total.trans low name other less below.0, below-chain low name ms less below.1)

-- a member whose name is before all others is put first
pub put-below : (name : List ℕ) (d : Data) (ms : Members) → Below name ms → put name d ms ≡ member name d ms
put-below name d no_members below = refl
put-below name d (member other e ms) below = ap (λ o. match_ordering o (member name d (member other e ms)) (member other d ms) (member other e (put name d ms))) below.0

-- ---- what is found at a name

-- each of these is what is found at its name
abbrev pub AllFound : Members → Members → Type 0
AllFound all no_members = Unit {0}
AllFound all (member name d ms) = (get_member name all ≡ Some d) × AllFound all ms

past : (o : Ordering) (a b : Option Data) → o ≡ Greater → match_ordering o a b a ≡ a
past Less a b e = absurd (cc)
past Equal a b e = absurd (cc)
past Greater a b e = refl

found-behind : (name : List ℕ) (d : Data) (all ms : Members) → Below name ms → AllFound all ms → AllFound (member name d all) ms
found-behind name d all no_members below found = tt
found-behind name d all (member other e ms) below found =
    let above : slice_cmp nat_cmp other name ≡ Greater = nat_list_cmp_total.antisymm other name ∙ ap ordering_reverse below.0 in
    (past (slice_cmp nat_cmp other name) (get_member other all) (Some d) above ∙ found.0, found-behind name d all ms below.1 found.1)

pub all-found : (ms : Members) → MembersSorted ms → AllFound ms ms
all-found no_members sorted = tt
all-found (member name d ms) sorted = (rw (tied_itself nat_list_cmp_total name) refl, found-behind name d ms ms sorted.1 (all-found ms sorted.2))

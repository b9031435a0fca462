-- Values that are put at names of an object, and what holds of each member.
use Rattle.std.proofs.Common.{◌≡◌, ℕ, List, false, Option, Some, unwrap_or, codes, Ordering, Less, Equal, Greater, nat_cmp, refl, sym, ap, ◌∙◌, subst, rules}
use Rattle.std.proofs.lemmas.Bool.{or_parts}
use Rattle.std.specs.Cmp.Lexicographic.{slice_cmp}
use Rattle.std.specs.Ordering.{match_ordering}
use Rattle.serde_json.specs.Data.{Data, null, boolean, number, string, array, object, Members, no_members, member, put}
use Rattle.serde_json.specs.Find.{get_member}
use Rattle.serde_json.specs.View.{view}
use Rattle.serde_json.specs.Written.{has_float, members_have_float}
use Rattle.serde_json.specs.declared.value.Value.{Null, the_lemmas}
use Rattle.scenario_read.specs.Fields.{either}
use Rattle.scenario_read.specs.Sorted.{Below, Sorted, MembersSorted}
use Rattle.scenario_read.proofs.NameOrder.{below-chain}
use Rattle.scenario_read.proofs.Rising.{sorted-put}
use Rattle.scenario_file.specs.Source.{with_member, master_and}

pub view-Null : view Null ≡ null
view-Null = search (rules, the_lemmas)

-- a value in place of another at one name
pub put-again : (k : List ℕ) (d e : Data) (ms : Members) → slice_cmp nat_cmp k k ≡ Equal → put k d (put k e ms) ≡ put k d ms
put-again k d e no_members h = rw h refl
put-again k d e (member l x ms) h = split (put-again k d e ms h) (slice_cmp nat_cmp k l) refl
  where
    split : put k d (put k e ms) ≡ put k d ms → (o : Ordering) → slice_cmp nat_cmp k l ≡ o
        → put k d (match_ordering o (member k e (member l x ms)) (member l e ms) (member l x (put k e ms))) ≡ match_ordering o (member k d (member l x ms)) (member l d ms) (member l x (put k d ms))
    split rest Less is = rw h refl
    split rest Equal is = rw is refl
    split rest Greater is = rw is (ap (member l x) rest)

-- a schedule that is put into the master that was at the name
pub master-put : (ms mid new : Members) (old : Option Data) (m listed v : Data) → old ≡ get_member (codes "master") ms → mid ≡ put (codes "master") null ms
    → m ≡ unwrap_or (either old (Some (object no_members))) null → v ≡ with_member (codes "schedule") listed m → new ≡ put (codes "master") v mid
    → new ≡ put (codes "master") (master_and listed (object ms)) ms
master-put ms mid new old m listed v p q r s t =
    let held : m ≡ unwrap_or (either (get_member (codes "master") ms) (Some (object no_members))) null =
    r ∙ ap (λ (o : Option Data). unwrap_or (either o (Some (object no_members))) null) p in
    t ∙ ap (put (codes "master") v) q ∙ put-again (codes "master") v null ms refl
    ∙ ap (λ (x : Data). put (codes "master") x ms) (s ∙ ap (with_member (codes "schedule") listed) held)

-- ---- what holds of each member

abbrev pub Each : (Data → Type 0) → Members → Type 0
Each P no_members = Unit {0}
Each P (member k d ms) = P d × Each P ms

pub each-there : (P : Data → Type 0) (k : List ℕ) (ms : Members) (v : Data) → get_member k ms ≡ Some v → Each P ms → P v
each-there P k no_members v e each = absurd (cc)
each-there P k (member l d ms) v e each = split (λ h. each-there P k ms v h each.1) (slice_cmp nat_cmp k l) e
  where
    split : (get_member k ms ≡ Some v → P v) → (o : Ordering) → match_ordering o (get_member k ms) (Some d) (get_member k ms) ≡ Some v → P v
    split rest Less h = rest h
    split rest Equal h = let same : d ≡ v = cc in subst P same each.0
    split rest Greater h = rest h

pub each-sorted : (ms : Members) → MembersSorted ms → Each Sorted ms
each-sorted no_members sorted = tt
each-sorted (member k d ms) sorted = (sorted.0, each-sorted ms sorted.2)

abbrev pub Plain : Data → Type 0
Plain d = has_float d ≡ false

pub each-plain : (ms : Members) → members_have_float ms ≡ false → Each Plain ms
each-plain no_members plain = tt
each-plain (member k d ms) plain = let parts = or_parts (has_float d) (members_have_float ms) plain in (parts.0, each-plain ms parts.1)

pub plain-each : (ms : Members) → Each Plain ms → members_have_float ms ≡ false
plain-each no_members each = refl
plain-each (member k d ms) each = rw (each.0, plain-each ms each.1) refl

pub each-put : (P : Data → Type 0) (k : List ℕ) (d : Data) (ms : Members) → P d → Each P ms → Each P (put k d ms)
each-put P k d no_members here each = (here, tt)
each-put P k d (member l e ms) here each = at (each-put P k d ms here each.1) (slice_cmp nat_cmp k l)
  where
    at : Each P (put k d ms) → (o : Ordering) → Each P (match_ordering o (member k d (member l e ms)) (member l d ms) (member l e (put k d ms)))
    at rest Less = (here, each)
    at rest Equal = (here, each.1)
    at rest Greater = (each.0, rest)

pub plain-put : (k : List ℕ) (d : Data) (ms : Members) → has_float d ≡ false → members_have_float ms ≡ false → members_have_float (put k d ms) ≡ false
plain-put k d ms here plain = plain-each (put k d ms) (each-put Plain k d ms here (each-plain ms plain))

-- an object with a value at a name
pub with-sorted : (name : List ℕ) (v d : Data) → Sorted v → Sorted d → Sorted (with_member name v d)
with-sorted name v null h k = k
with-sorted name v (boolean b) h k = k
with-sorted name v (number n) h k = k
with-sorted name v (string s) h k = k
with-sorted name v (array ds) h k = k
with-sorted name v (object ms) h k = sorted-put name v ms h k

pub with-plain : (name : List ℕ) (v d : Data) → has_float v ≡ false → has_float d ≡ false → has_float (with_member name v d) ≡ false
with-plain name v null h k = k
with-plain name v (boolean b) h k = k
with-plain name v (number n) h k = k
with-plain name v (string s) h k = k
with-plain name v (array ds) h k = k
with-plain name v (object ms) h k = plain-put name v ms h k

-- ---- what is at a name is put there

none-below : (k : List ℕ) (ms : Members) (v : Data) → Below k ms → get_member k ms ≡ Some v → ⊥
none-below k no_members v below e = absurd (cc)
none-below k (member l d ms) v below e =
    none-below k ms v below.1 (sym (ap (λ o. match_ordering o (get_member k ms) (Some d) (get_member k ms)) below.0) ∙ e)

pub put-same : (k : List ℕ) (v : Data) (ms : Members) → MembersSorted ms → get_member k ms ≡ Some v → put k v ms ≡ ms
put-same k v no_members sorted e = absurd (cc)
put-same k v (member l d ms) sorted e = split (λ h. put-same k v ms sorted.2 h) (slice_cmp nat_cmp k l) refl e
  where
    split : (get_member k ms ≡ Some v → put k v ms ≡ ms) → (o : Ordering) → slice_cmp nat_cmp k l ≡ o → match_ordering o (get_member k ms) (Some d) (get_member k ms) ≡ Some v
        → match_ordering o (member k v (member l d ms)) (member l v ms) (member l d (put k v ms)) ≡ member l d ms
    split rest Less is h = absurd (none-below k ms v (below-chain k l ms is sorted.1) h)
    split rest Equal is h = let same : d ≡ v = cc in ap (λ (x : Data). member l x ms) (sym same)
    split rest Greater is h = ap (member l d) (rest h)

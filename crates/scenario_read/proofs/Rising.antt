-- A value that was read has sorted objects.
use Rattle.std.proofs.Common.{◌≡◌, ℕ, List, Option, Some, None, option_map, option_and_then, Ordering, Less, Equal, Greater, nat_cmp, refl, ap, ◌∙◌, subst}
use Rattle.std.specs.Prelude.{⊤}
use Rattle.std.proofs.lemmas.Cmp.{nat_list_cmp_total}
use Rattle.std.specs.Cmp.Lexicographic.{slice_cmp}
use Rattle.std.specs.Ordering.{match_ordering, ordering_reverse}
use Rattle.json.specs.Lex.{tokens}
use Rattle.json.specs.Json as json
use Rattle.serde_json.specs.Data.{Data, number, array, object, item, Members, no_members, member, put}
use Rattle.serde_json.specs.Read.{number_of, of_json, of_items, of_members, max_depth, read}
use Rattle.scenario_read.specs.Sorted.{Below, Sorted, ItemsSorted, MembersSorted}
use Rattle.scenario_read.proofs.NameOrder.{below-chain}

-- what was found, if anything was
abbrev pub IfFound : {A : Type 0} → (A → Type 0) → Option A → Type 0
IfFound P None = ⊤
IfFound P (Some a) = P a

pub found-map : {A B : Type 0} (P : A → Type 0) (Q : B → Type 0) (f : A → B) → ((a : A) → P a → Q (f a)) → (o : Option A) → IfFound P o → IfFound Q (option_map f o)
found-map P Q f step None h = tt
found-map P Q f step (Some a) h = step a h

pub found-then : {A B : Type 0} (P : A → Type 0) (Q : B → Type 0) (f : A → Option B) → ((a : A) → P a → IfFound Q (f a)) → (o : Option A) → IfFound P o → IfFound Q (option_and_then f o)
found-then P Q f step None h = tt
found-then P Q f step (Some a) h = step a h

pub any : {A : Type 0} (o : Option A) → IfFound (λ a. ⊤) o
any None = tt
any (Some a) = tt

Below-put : (low name : List ℕ) (d : Data) (ms : Members) → slice_cmp nat_cmp low name ≡ Less → Below low ms → Below low (put name d ms)
Below-put low name d no_members less below = (less, tt)
Below-put low name d (member other e ms) less below = at (Below-put low name d ms less below.1) (slice_cmp nat_cmp name other)
  where
    at : Below low (put name d ms) → (o : Ordering) → Below low (match_ordering o (member name d (member other e ms)) (member other d ms) (member other e (put name d ms)))
    at rest Less = (less, below)
    at rest Equal = (below.0, below.1)
    at rest Greater = (below.0, rest)

pub sorted-put : (name : List ℕ) (d : Data) (ms : Members) → Sorted d → MembersSorted ms → MembersSorted (put name d ms)
sorted-put name d no_members here sorted = (here, tt, tt)
sorted-put name d (member other e ms) here sorted = at (sorted-put name d ms here sorted.2) (slice_cmp nat_cmp name other) refl
  where
    at : MembersSorted (put name d ms) → (o : Ordering) → slice_cmp nat_cmp name other ≡ o
        → MembersSorted (match_ordering o (member name d (member other e ms)) (member other d ms) (member other e (put name d ms)))
    at rest Less is = (here, (is, below-chain name other ms is sorted.1), sorted)
    at rest Equal is = (here, sorted.1, sorted.2)
    at rest Greater is = (sorted.0, Below-put other name d ms (nat_list_cmp_total.antisymm other name ∙ ap ordering_reverse is) sorted.1, rest)

mutual
  of_json-sorted : (j : json.Json) → IfFound Sorted (of_json j)
  of_json-sorted json.null = tt
  of_json-sorted (json.boolean b) = tt
  of_json-sorted (json.number s) = found-map (λ n. ⊤) Sorted number (λ n h. tt) (number_of s) (any _)
  of_json-sorted (json.string s) = tt
  of_json-sorted (json.array js) = found-map ItemsSorted Sorted array (λ ds h. h) (of_items js) (of_items-sorted js)
  of_json-sorted (json.object ms) = found-map MembersSorted Sorted object (λ found h. h) (of_members ms no_members) (of_members-sorted ms no_members tt)

  of_items-sorted : (js : json.Items) → IfFound ItemsSorted (of_items js)
  of_items-sorted json.no_items = tt
  of_items-sorted (json.item j js) =
      found-then Sorted ItemsSorted (λ d. option_map (item d) (of_items js))
      (λ d here. found-map ItemsSorted ItemsSorted (item d) (λ ds rest. (here, rest)) (of_items js) (of_items-sorted js)) (of_json j) (of_json-sorted j)

  of_members-sorted : (ms : json.Members) (found : Members) → MembersSorted found → IfFound MembersSorted (of_members ms found)
  of_members-sorted json.no_members found sorted = sorted
  of_members-sorted (json.member name j ms) found sorted =
      found-then Sorted MembersSorted (λ d. of_members ms (put name d found)) (λ d here. of_members-sorted ms (put name d found) (sorted-put name d found here sorted)) (of_json j) (of_json-sorted j)

-- what a text's tree gives is sorted
pub tree-sorted : (j : json.Json) (d : Data) → of_json j ≡ Some d → Sorted d
tree-sorted j d e = subst (IfFound Sorted) e (of_json-sorted j)

-- a value that was read is sorted
pub read-sorted : (bytes : List ℕ) (d : Data) → read bytes ≡ Some d → Sorted d
read-sorted bytes d e =
    subst (IfFound Sorted) e (found-then (λ j. ⊤) Sorted of_json (λ j h. of_json-sorted j) (option_and_then (λ p. json.if_last p.0 p.1) (json.value max_depth (tokens bytes))) (any _))

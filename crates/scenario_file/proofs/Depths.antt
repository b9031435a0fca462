-- What a tree gives nests no deeper than the tree.
use Rattle.std.proofs.Common.{◌≡◌, ◌≤◌, ℕ, List, Some, option_map, Ordering, Less, Equal, Greater, nat_cmp, subst, arith}
use Rattle.std.specs.Prelude.{⊤}
use Rattle.std.specs.Cmp.Lexicographic.{slice_cmp}
use Rattle.std.specs.Ordering.{match_ordering}
use Rattle.json.specs.Json as json
use Rattle.json.specs.Tree as tree
use Rattle.serde_json.specs.Data.{Data, number, array, object, Items, item, Members, no_members, member, put, depth, items_depth, members_depth}
use Rattle.serde_json.specs.Read.{number_of, of_json, of_items, of_members}
use Rattle.scenario_read.proofs.Rising.{IfFound, found-map, found-then, any}

-- what was found nests at most so deep
abbrev Low : ℕ → Data → Type 0
Low n d = depth d ≤ n

abbrev ItemsLow : ℕ → Items → Type 0
ItemsLow n ds = items_depth ds ≤ n

abbrev MembersLow : ℕ → Members → Type 0
MembersLow n ms = members_depth ms ≤ n

pub low-put : (k : List ℕ) (d : Data) (ms : Members) (n : ℕ) → depth d ≤ n → members_depth ms ≤ n → members_depth (put k d ms) ≤ n
low-put k d no_members n p q = omega (arith, p)
low-put k d (member l e ms) n p q = at (slice_cmp nat_cmp k l) (low-put k d ms n p (omega (arith, q)))
  where
    at : (o : Ordering) → members_depth (put k d ms) ≤ n → members_depth (match_ordering o (member k d (member l e ms)) (member l d ms) (member l e (put k d ms))) ≤ n
    at Less rest = omega (arith, p, q)
    at Equal rest = omega (arith, p, q)
    at Greater rest = omega (arith, q, rest)

mutual
  low : (j : json.Json) (n : ℕ) → tree.depth j ≤ n → IfFound (Low n) (of_json j)
  low json.null n h = omega arith
  low (json.boolean b) n h = omega arith
  low (json.number s) n h = found-map (λ a. ⊤) (Low n) number (λ a x. omega arith) (number_of s) (any (number_of s))
  low (json.string s) n h = omega arith
  low (json.array js) n h = found-map (ItemsLow (tree.items_depth js)) (Low n) array (λ ds x. omega (arith, h, x)) (of_items js) (low-items js (tree.items_depth js) (omega arith))
  low (json.object ms) n h =
      found-map (MembersLow (tree.members_depth ms)) (Low n) object (λ found x. omega (arith, h, x)) (of_members ms no_members) (low-members ms no_members (tree.members_depth ms) (omega arith) (omega arith))

  low-items : (js : json.Items) (n : ℕ) → tree.items_depth js ≤ n → IfFound (ItemsLow n) (of_items js)
  low-items json.no_items n h = omega arith
  low-items (json.item j js) n h =
      found-then (Low n) (ItemsLow n) (λ d. option_map (item d) (of_items js))
      (λ d x. found-map (ItemsLow n) (ItemsLow n) (item d) (λ ds y. omega (arith, x, y)) (of_items js) (low-items js n (omega (arith, h)))) (of_json j) (low j n (omega (arith, h)))

  low-members : (ms : json.Members) (found : Members) (n : ℕ) → tree.members_depth ms ≤ n → members_depth found ≤ n → IfFound (MembersLow n) (of_members ms found)
  low-members json.no_members found n h k = k
  low-members (json.member name j ms) found n h k =
      found-then (Low n) (MembersLow n) (λ d. of_members ms (put name d found))
      (λ d x. low-members ms (put name d found) n (omega (arith, h)) (low-put name d found n x k)) (of_json j) (low j n (omega (arith, h)))

pub tree-low : (j : json.Json) (d : Data) (n : ℕ) → of_json j ≡ Some d → tree.depth j ≤ n → depth d ≤ n
tree-low j d n e h = subst (IfFound (Low n)) e (low j n h)

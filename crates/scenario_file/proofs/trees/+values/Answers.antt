use Rattle.std.proofs.Common.{◌≡◌, ◌-◌, ◌<◌, ◌≤◌, ◌∷◌, length, Some, None, string_bytes, refl, sym, ap, ◌∙◌, subst, arith, rules}
use Rattle.json.specs.Token.{Token}
use Rattle.json.specs.Json.{parse_map, after_end_array, read_key, items, members, value}
use Rattle.json.specs.Reads.{token_of}
use Rattle.json.proofs.Grammar.{value_is, value-begin_array, value-begin_object, read_key-shorter, skip_value-shorter}
use Rattle.serde_json.specs.Data.{null, boolean, number, string, array, object, item, no_items, put}
use Rattle.serde_json.specs.Read.{of_json, of_items, of_members, converted}
use Rattle.serde_json.specs.View.{view, items_view, members_view}
use Rattle.serde_json.specs.declared.value.Value.{String, Bool, the_lemmas}
use Rattle.serde_json.proofs.Views.{view-Array}
use Rattle.scenario_read.specs.Sorted.{MembersSorted}
use Rattle.scenario_read.proofs.Rising.{tree-sorted, sorted-put}
use Rattle.scenario_cut.specs.Growing.{both}
use Rattle.scenario_cut.specs.Last.{filled}
use Rattle.scenario_cut.proofs.Lasting.{put-through}
use Rattle.scenario_cut.proofs.Turns.{converted_some, converted-array, converted-object, item_read, items_over, member_read, members_over, both-end, one_more, both-push}
use Rattle.scenario_file.specs.Trees.{KeptOf, standing, seen}
use Rattle.scenario_file.proofs.Restarts.{rest-items, rest-members}
use Rattle.scenario_file.proofs.Keeping.{some-passed, entered, standing-sorted}
use Rattle.scenario_file.proofs.trees.+values.Goals as goal

pub tree_value-returns-in-Ok-clause-ok : goal.tree_value-returns-in-Ok-clause-ok
tree_value-returns-in-Ok-clause-ok t c =
    let first : c.args.reader.now ≡ token_of c.in_ok-token.token ∷ c.next.new.self = grind arith in
    let is : c.args.reader.now ≡ Token.string c.in-String.text.now ∷ c.next.new.self = grind (arith, first) in
    let viewed : view (String c.in-Ok.copy) ≡ string c.in-String.text.now = search (rules, the_lemmas) in
    (string c.in-String.text.now, ap (converted of_json) (ap (value c.args.depth) is ∙ value_is c.args.depth _), (viewed, refl))

pub tree_value-returns-in-Some-clause-ok : goal.tree_value-returns-in-Some-clause-ok
tree_value-returns-in-Some-clause-ok t c =
    let first : c.args.reader.now ≡ token_of c.in_ok-token.token ∷ c.next.new.self = grind arith in
    let is : c.args.reader.now ≡ Token.number c.in-Number.text.now ∷ c.next.new.self = grind (arith, first) in
    let found = c.in-Some.ensures in
    (number found.0, ap (converted of_json) (ap (value c.args.depth) is ∙ value_is c.args.depth _) ∙ rw found.1 refl, found.2)

pub tree_value-returns-in-Bool-clause-ok : goal.tree_value-returns-in-Bool-clause-ok
tree_value-returns-in-Bool-clause-ok t c =
    let first : c.args.reader.now ≡ token_of c.in_ok-token.token ∷ c.next.new.self = grind arith in
    let is : c.args.reader.now ≡ Token.boolean c.in-Bool.b ∷ c.next.new.self = grind (arith, first) in
    let viewed : view (Bool c.in-Bool.b) ≡ boolean c.in-Bool.b = search (rules, the_lemmas) in
    (boolean c.in-Bool.b, ap (converted of_json) (ap (value c.args.depth) is ∙ value_is c.args.depth _), (viewed, refl))

pub tree_value-returns-in-Null-clause-ok : goal.tree_value-returns-in-Null-clause-ok
tree_value-returns-in-Null-clause-ok t c =
    let first : c.args.reader.now ≡ token_of c.in_ok-token.token ∷ c.next.new.self = grind arith in
    let is : c.args.reader.now ≡ Token.null ∷ c.next.new.self = grind (arith, first) in
    (null, ap (converted of_json) (ap (value c.args.depth) is ∙ value_is c.args.depth _), tt)

pub tree_value-returns-in-Some-tree_array-clause-ok : goal.tree_value-returns-in-Some-tree_array-clause-ok
tree_value-returns-in-Some-tree_array-clause-ok t c =
    let first : c.args.reader.now ≡ token_of c.in_ok-token.token ∷ c.next.new.self = grind arith in
    let opened = ap (converted of_json)
    (ap (value c.args.depth) (first ∙ ap (λ k. token_of k ∷ c.next.new.self) c.in-BeginArray.is)
    ∙ value-begin_array c.args.depth c.next.new.self (omega arith)) ∙ converted-array (items (value (c.args.depth - 1)) (length c.next.new.self) c.next.new.self) in
    let found = c.in-Some-tree_array.ensures.ok in
    (array found.0, opened ∙ ap (parse_map array) found.1, found.2)

pub tree_value-returns-in-Some-tree_object-clause-ok : goal.tree_value-returns-in-Some-tree_object-clause-ok
tree_value-returns-in-Some-tree_object-clause-ok t c =
    let first : c.args.reader.now ≡ token_of c.in_ok-token.token ∷ c.next.new.self = grind arith in
    let opened = ap (converted of_json)
    (ap (value c.args.depth) (first ∙ ap (λ k. token_of k ∷ c.next.new.self) c.in-BeginObject.is)
    ∙ value-begin_object c.args.depth c.next.new.self (omega arith)) ∙ converted-object (members (value (c.args.depth - 1)) (length c.next.new.self) c.next.new.self) in
    let found = c.in-Some-tree_object.ensures.ok in
    (object found.0, opened ∙ ap (parse_map object) found.1, found.2)

pub tree_array-returns-in-None-clause-ok : goal.tree_array-returns-in-None-clause-ok
tree_array-returns-in-None-clause-ok t c = some-passed _ _ _ c.passed_over.ensures (λ yes. let found = c.pass_items.ensures.passed yes in (found.0, found.1, tt))

pub tree_array-returns-in-None-clause-shorter : goal.tree_array-returns-in-None-clause-shorter
tree_array-returns-in-None-clause-shorter t c = some-passed _ _ _ c.passed_over.ensures c.pass_items.ensures.shorter

pub tree_object-returns-in-None-clause-ok : goal.tree_object-returns-in-None-clause-ok
tree_object-returns-in-None-clause-ok t c = some-passed _ _ _ c.passed_over.ensures (λ yes. let found = c.pass_members.ensures.passed yes in (found.0, found.1, tt))

pub tree_object-returns-in-None-clause-shorter : goal.tree_object-returns-in-None-clause-shorter
tree_object-returns-in-None-clause-shorter t c = some-passed _ _ _ c.passed_over.ensures c.pass_members.ensures.shorter

-- ---- items

pub tree_items-returns-then-len-most-clause-ok : goal.tree_items-returns-then-len-most-clause-ok
tree_items-returns-then-len-most-clause-ok t c =
    let p = value c.args.depth in
    let l = c.items in
    let n = l.invariant.0 in
    let before = items_view l.found.items in
    let r = c.take_end_array.new.self in
    let going : (after_end_array l.reader ≡ None) × (r ≡ l.reader) = grind arith in
    some-passed _ _ _ c.passed_over.ensures (λ yes.
    let found = c.pass_items.ensures.passed yes in (
      both before found.0,
      l.invariant.2 ∙ ap (λ ts. parse_map (both before) (converted of_items (items p n ts))) (sym going.1)
          ∙ ap (parse_map (both before)) (rest-items p (skip_value-shorter c.args.depth) n r _ found.0 (subst (λ ts. length ts ≤ n) (sym going.1) l.invariant.1) found.1),
      tt,
    ))

pub tree_items-returns-in-Passed-clause-ok : goal.tree_items-returns-in-Passed-clause-ok
tree_items-returns-in-Passed-clause-ok t c =
    let p = value c.args.depth in
    let l = c.items in
    let n = l.invariant.0 in
    let before = items_view l.found.items in
    let going : (after_end_array l.reader ≡ None) × (c.take_end_array.new.self ≡ l.reader) = grind arith in
    let done = c.in_ok-item.ensures in
    let d = done.ok.0 in
    let r = c.tree_value.new.reader in
    let less : length r < length l.reader = rw (← going.1) done.shorter in
    let turn = item_read p n l.reader r d (omega (arith, l.invariant.1)) going.0 (rw (← going.1) done.ok.1) in
    some-passed _ _ _ c.passed_over-in-Passed.ensures (λ yes.
    let found = c.pass_items-in-Passed.ensures.passed yes in (
      both (both before (item d no_items)) found.0,
      l.invariant.2 ∙ ap (parse_map (both before)) turn ∙ one_more before d _
          ∙ ap (parse_map (both (both before (item d no_items)))) (rest-items p (skip_value-shorter c.args.depth) (n - 1) r _ found.0 (omega (arith, less, l.invariant.1)) found.1),
      tt,
    ))

pub tree_items-items-preserved : goal.tree_items-items-preserved
tree_items-items-preserved t c =
    let p = value c.args.depth in
    let l = c.items in
    let n = l.invariant.0 in
    let going : (after_end_array l.reader ≡ None) × (c.take_end_array.new.self ≡ l.reader) = grind arith in
    let done = c.in_ok-item.ensures in
    let d = done.ok.0 in
    let v = c.in-Whole.item in
    let is : view v ≡ d = (subst (KeptOf d) c.in-Whole.is done.ok.2).0 in
    let r = c.tree_value.new.reader in
    let less : length r < length l.reader = rw (← going.1) done.shorter in
    let turn = item_read p n l.reader r d (omega (arith, l.invariant.1)) going.0 (rw (← going.1) done.ok.1) in (
      n - 1,
      omega (arith, l.invariant.1),
      l.invariant.2 ∙ ap (parse_map (both (items_view l.found.items))) turn ∙ one_more (items_view l.found.items) d _
          ∙ ap (λ e. parse_map (both (both (items_view l.found.items) (item e no_items))) (converted of_items (items p (n - 1) r))) (sym is)
          ∙ ap (λ ds. parse_map (both ds) (converted of_items (items p (n - 1) r))) (sym (both-push l.found.items v) ∙ ap items_view (sym c.in-Ok.ensures.items)),
      omega (arith, l.invariant.3),
    )

pub tree_items-returns-clause-ok : goal.tree_items-returns-clause-ok
tree_items-returns-clause-ok t c =
    let p = value c.args.depth in
    let l = c.items in
    let n = l.invariant.0 in
    let ds = items_view l.found.items in
    let r = c.take_end_array.new.self in (
      ds,
      l.invariant.2 ∙ ap (parse_map (both ds)) (items_over p n l.reader r l.invariant.1 (grind arith)) ∙ ap (λ es. Some (es, r)) (both-end ds),
      (view-Array l.found, refl),
    )

-- ---- members

pub tree_members-members-init : goal.tree_members-members-init
tree_members-members-init t c =
    let all = members (value c.args.depth) (length c.args.reader.now) c.args.reader.now in
    let empty = sym c.new-found.ensures.empty in (
      length c.args.reader.now,
      λ name. null,
      omega arith,
      ap (λ es. converted (λ ms. of_members ms (filled (seen (λ name. null)) (members_view es))) all) empty,
      omega arith,
      subst (λ es. MembersSorted (members_view es)) empty tt,
    )

pub tree_members-members-preserved : goal.tree_members-members-preserved
tree_members-members-preserved t c =
    let p = value c.args.depth in
    let l = c.members in
    let n = l.invariant.0 in
    let passed = l.invariant.1 in
    let ms = members_view l.found.entries in
    let old = filled (seen passed) ms in
    let k = c.in-Ok-Some.name.now in
    let s = c.next_key.new.self in
    let named : read_key l.reader ≡ Some (Some k, s) = grind arith in
    let done = c.in_ok-member.ensures in
    let d = done.ok.0 in
    let kept = c.in_ok-member.member in
    let r = c.tree_value.new.reader in
    let less = read_key-shorter l.reader (Some k) s named in
    let lesser = done.shorter in
    let enters = entered passed k d kept done.ok.2 in
    let now = enters.0 in
    let copied : string_bytes c.in-Ok.key ≡ k = search rules in
    let inserted : members_view c.put_kept.new.members.entries ≡ put k (standing kept) ms = c.in_ok-put_kept.ensures ∙ ap (λ name. put name (standing kept) ms) copied in
    let there : put k d old ≡ filled (seen now) (members_view c.put_kept.new.members.entries) =
    put-through k (seen passed) (seen now) d (standing kept) enters.1 ms l.invariant.5 ∙ ap (filled (seen now)) (sym inserted) in
    let tree = converted_some of_json (p s) d r done.ok.1 in
    let sorted = standing-sorted d kept done.ok.2 (tree-sorted tree.0 d tree.2) in (
      n - 1,
      now,
      omega (arith, l.invariant.2),
      l.invariant.3 ∙ member_read p old n k l.reader s r d (omega (arith, l.invariant.2)) named done.ok.1
          ∙ ap (λ found. converted (λ es. of_members es found) (members p (n - 1) r)) there,
      omega (arith, l.invariant.4),
      subst MembersSorted (sym inserted) (sorted-put k (standing kept) ms sorted l.invariant.5),
    )

pub tree_members-returns-in-Ok-None-clause-ok : goal.tree_members-returns-in-Ok-None-clause-ok
tree_members-returns-in-Ok-None-clause-ok t c =
    let p = value c.args.depth in
    let l = c.members in
    let n = l.invariant.0 in
    let passed = l.invariant.1 in
    let ms = filled (seen passed) (members_view l.found.entries) in
    (ms, l.invariant.3 ∙ members_over p ms n l.reader c.next_key.new.self l.invariant.2 (grind arith), c.kept_object.ensures passed)

pub tree_members-returns-clause-ok : goal.tree_members-returns-clause-ok
tree_members-returns-clause-ok t c =
    let p = value c.args.depth in
    let l = c.members in
    let n = l.invariant.0 in
    let ms = filled (seen l.invariant.1) (members_view l.found.entries) in
    some-passed _ _ _ c.passed_over.ensures (λ yes.
    let found = c.pass_members.ensures.passed yes in
    let all = rest-members p (skip_value-shorter c.args.depth) n l.reader _ ms found.0 l.invariant.2 found.1 in
    (all.0, l.invariant.3 ∙ all.1, tt))

pub tree_members-returns-clause-shorter : goal.tree_members-returns-clause-shorter
tree_members-returns-clause-shorter t c = some-passed _ _ _ c.passed_over.ensures (λ yes. let less = c.pass_members.ensures.shorter yes in omega (arith, less, c.members.invariant.4))

use Rattle.std.proofs.Common.{◌≡◌, ◌-◌, ◌<◌, suc, ◌∷◌, length, true, false, Some, None, string_bytes, refl, sym, ap, ap₂, ◌∙◌, subst, arith, rules}
use Rattle.json.specs.Token.{Token}
use Rattle.json.specs.Json.{parse_map, after_end_array, read_key, items, members, value}
use Rattle.json.specs.Reads.{token_of}
use Rattle.json.proofs.Grammar.{value_is, value-begin_array, value-begin_object, read_key-shorter}
use Rattle.serde_json.specs.Data.{null, boolean, number, string, array, object, no_items, item, no_members, put}
use Rattle.serde_json.specs.Read.{of_json, of_items, converted}
use Rattle.serde_json.specs.View.{view, number_view, items_view, members_view}
use Rattle.serde_json.specs.declared.value.Value.{String, Number, Bool, Null, the_lemmas}
use Rattle.serde_json.proofs.Views.{view-Array, view-Object}
use Rattle.scenario_read.specs.Kinds.{is_among}
use Rattle.scenario_read.proofs.Rising.{tree-sorted, sorted-put}
use Rattle.scenario_cut.specs.Cutting.{opens_array, opens_object, item_form, member_form, names_at, room, cut, cut_items}
use Rattle.scenario_cut.specs.Growing.{both}
use Rattle.scenario_cut.specs.Others.{lesser, with_other}
use Rattle.scenario_cut.proofs.Turns.{converted_some, converted-array, converted-object, item_read, items_over, member_read, members_over, both-end, one_more, none_before}
use Rattle.scenario_cut.proofs.Growth.{item-first, kept-more, kept-array, no-array, kept-object, no-object}
use Rattle.scenario_cut.proofs.Naming.{first-known, first-lesser, member-put, member-passed, kept-few}
use Rattle.scenario_cut.proofs.keeping.+keep.Goals as goal

pub keep-returns-in-Ok-clause-ok : goal.keep-returns-in-Ok-clause-ok
keep-returns-in-Ok-clause-ok t c =
    let first : c.args.reader.now ≡ token_of c.in_ok-token.token ∷ c.next.new.self = grind arith in
    let is : c.args.reader.now ≡ Token.string c.in-String.text.now ∷ c.next.new.self = grind (arith, first) in
    let seen : view (String c.in-Ok.copy) ≡ string c.in-String.text.now = search (rules, the_lemmas) in
    (string c.in-String.text.now, ap (converted of_json) (ap (value c.args.depth) is ∙ value_is c.args.depth _), seen)

pub keep-returns-in-Bool-clause-ok : goal.keep-returns-in-Bool-clause-ok
keep-returns-in-Bool-clause-ok t c =
    let first : c.args.reader.now ≡ token_of c.in_ok-token.token ∷ c.next.new.self = grind arith in
    let is : c.args.reader.now ≡ Token.boolean c.in-Bool.b ∷ c.next.new.self = grind (arith, first) in
    let seen : view (Bool c.in-Bool.b) ≡ boolean c.in-Bool.b = search (rules, the_lemmas) in
    (boolean c.in-Bool.b, ap (converted of_json) (ap (value c.args.depth) is ∙ value_is c.args.depth _), seen)

pub keep-returns-in-Null-clause-ok : goal.keep-returns-in-Null-clause-ok
keep-returns-in-Null-clause-ok t c =
    let first : c.args.reader.now ≡ token_of c.in_ok-token.token ∷ c.next.new.self = grind arith in
    let is : c.args.reader.now ≡ Token.null ∷ c.next.new.self = grind (arith, first) in
    let seen : view (Null) ≡ null = search (rules, the_lemmas) in
    (null, ap (converted of_json) (ap (value c.args.depth) is ∙ value_is c.args.depth _), seen)

pub keep-returns-in-Some-clause-ok : goal.keep-returns-in-Some-clause-ok
keep-returns-in-Some-clause-ok t c =
    let first : c.args.reader.now ≡ token_of c.in_ok-token.token ∷ c.next.new.self = grind arith in
    let is : c.args.reader.now ≡ Token.number c.in-Number.text.now ∷ c.next.new.self = grind (arith, first) in
    let seen : view (Number c.in-Some.number) ≡ number (number_view c.in-Some.number) = search (rules, the_lemmas) in
    (number (number_view c.in-Some.number), ap (converted of_json) (ap (value c.args.depth) is ∙ value_is c.args.depth _) ∙ rw (← c.in-Some.ensures), seen)

pub keep-returns-then-pass_items-clause-ok : goal.keep-returns-then-pass_items-clause-ok
keep-returns-then-pass_items-clause-ok t c =
    let first : c.args.reader.now ≡ token_of c.in_ok-token.token ∷ c.next.new.self = grind arith in
    let opened = ap (converted of_json) (ap (value c.args.depth) (first ∙ ap (λ k. token_of k ∷ c.next.new.self) c.in-BeginArray.is) ∙ value-begin_array c.args.depth c.next.new.self (omega arith)) ∙ converted-array (items (value (c.args.depth - 1)) (length c.next.new.self) c.next.new.self) in
    let found = c.pass_items.ensures.passed c.if-pass_items.true in
    let shut : opens_array c.args.form ≡ false = grind arith in
    let seen : view Null ≡ null = search (rules, the_lemmas) in
    (array found.0, opened ∙ ap (parse_map array) found.1, seen ∙ no-array c.args.form found.0 shut)

pub keep-returns-then-pass_members-clause-ok : goal.keep-returns-then-pass_members-clause-ok
keep-returns-then-pass_members-clause-ok t c =
    let first : c.args.reader.now ≡ token_of c.in_ok-token.token ∷ c.next.new.self = grind arith in
    let opened = ap (converted of_json) (ap (value c.args.depth) (first ∙ ap (λ k. token_of k ∷ c.next.new.self) c.in-BeginObject.is) ∙ value-begin_object c.args.depth c.next.new.self (omega arith)) ∙ converted-object (members (value (c.args.depth - 1)) (length c.next.new.self) c.next.new.self) in
    let found = c.pass_members.ensures.passed c.if-pass_members.true in
    let shut : opens_object c.args.form ≡ false = grind arith in
    let seen : view Null ≡ null = search (rules, the_lemmas) in
    (object found.0, opened ∙ ap (parse_map object) found.1, seen ∙ no-object c.args.form found.0 shut)

pub keep-returns-in-Some-keep_items-clause-ok : goal.keep-returns-in-Some-keep_items-clause-ok
keep-returns-in-Some-keep_items-clause-ok t c =
    let first : c.args.reader.now ≡ token_of c.in_ok-token.token ∷ c.next.new.self = grind arith in
    let opened = ap (converted of_json) (ap (value c.args.depth) (first ∙ ap (λ k. token_of k ∷ c.next.new.self) c.in-BeginArray.is) ∙ value-begin_array c.args.depth c.next.new.self (omega arith)) ∙ converted-array (items (value (c.args.depth - 1)) (length c.next.new.self) c.next.new.self) in
    let found = c.in-Some-keep_items.ensures.ok in
    let ds = found.0 in
    let opens : opens_array c.args.form ≡ true = grind arith in
    let kept : items_view c.in-Some-keep_items.items.items ≡ cut_items (item_form c.args.form) (room (item_form c.args.form)) ds =
    subst (λ f. items_view c.in-Some-keep_items.items.items ≡ cut_items f (room f) ds) c.item_form.ensures found.2 in
    (array ds, opened ∙ ap (parse_map array) found.1, view-Array c.in-Some-keep_items.items ∙ ap array kept ∙ kept-array c.args.form ds opens)

pub keep-returns-in-Some-keep_members-clause-ok : goal.keep-returns-in-Some-keep_members-clause-ok
keep-returns-in-Some-keep_members-clause-ok t c =
    let first : c.args.reader.now ≡ token_of c.in_ok-token.token ∷ c.next.new.self = grind arith in
    let opened = ap (converted of_json) (ap (value c.args.depth) (first ∙ ap (λ k. token_of k ∷ c.next.new.self) c.in-BeginObject.is) ∙ value-begin_object c.args.depth c.next.new.self (omega arith)) ∙ converted-object (members (value (c.args.depth - 1)) (length c.next.new.self) c.next.new.self) in
    let found = c.in-Some-keep_members.ensures.ok in
    let ms = found.0 in
    let opens : opens_object c.args.form ≡ true = grind arith in
    (object ms, opened ∙ ap (parse_map object) found.1, view-Object c.in-Some-keep_members.members ∙ ap object found.2 ∙ kept-object c.args.form ms opens)

pub keep_item-returns-in-Some-clause-ok : goal.keep_item-returns-in-Some-clause-ok
keep_item-returns-in-Some-clause-ok t c =
    let found = c.in-Some.ensures.ok in
    let none : c.args.left ≡ 0 = omega arith in
    (found.0, found.1, λ rest. ap (λ m. both (items_view c.args.found.now.items) (cut_items c.args.form m (item found.0 rest))) none ∙ found.2 rest)

pub keep_item-returns-in-Some-put_item-clause-ok : goal.keep_item-returns-in-Some-put_item-clause-ok
keep_item-returns-in-Some-put_item-clause-ok t c =
    let found = c.in_ok-kept.ensures.ok in
    let n = c.args.left - 1 in
    let some : c.args.left ≡ suc n = omega arith in
    let behind = c.room_behind-behind.result in (
      found.0,
      found.1,
      λ rest. ap (both (items_view c.args.found.now.items)) (item-first c.args.form c.args.left n found.0 (view c.in_ok-kept.kept) behind rest some found.2 c.room_behind-behind.ensures.behind)
          ∙ c.in-Some-put_item.ensures (cut_items c.args.form behind rest),
    )

pub keep_items-items-init : goal.keep_items-items-init
keep_items-items-init t c =
    let all = converted of_items (items (value c.args.depth) (length c.args.reader.now) c.args.reader.now) in
    (length c.args.reader.now, no_items, omega arith, none_before all, omega arith, λ rest. ap (λ m. cut_items c.args.form m rest) (sym c.room-left.ensures.room) ∙ ap (λ vs. both (items_view vs) (cut_items c.args.form c.room-left.result rest)) (sym c.new-found.ensures.items), c.room-left.ensures.few)

pub keep_items-items-preserved : goal.keep_items-items-preserved
keep_items-items-preserved t c =
    let p = value c.args.depth in
    let l = c.items in
    let n = l.invariant.0 in
    let ds = l.invariant.1 in
    let going : (after_end_array l.reader ≡ None) × (c.take_end_array.new.self ≡ l.reader) = grind arith in
    let done = c.in_ok-left.ensures in
    let d = done.ok.0 in
    let r = c.keep_item.new.reader in
    let less : length r < length l.reader = rw (← going.1) done.shorter in
    let turn = item_read p n l.reader r d (omega (arith, l.invariant.2)) going.0 (rw (← going.1) done.ok.1) in (
      n - 1,
      both ds (item d no_items),
      omega (arith, l.invariant.2),
      l.invariant.3 ∙ ap (parse_map (both ds)) turn ∙ one_more ds d _,
      omega (arith, l.invariant.4),
      kept-more c.args.form (room c.args.form) l.left c.in_ok-left.left ds (items_view l.found.items) (items_view c.keep_item.new.found.items) d l.invariant.5 done.ok.2,
      done.few,
    )

pub keep_items-returns-clause-ok : goal.keep_items-returns-clause-ok
keep_items-returns-clause-ok t c =
    let p = value c.args.depth in
    let l = c.items in
    let n = l.invariant.0 in
    let ds = l.invariant.1 in
    let r = c.take_end_array.new.self in (
      ds,
      l.invariant.3 ∙ ap (parse_map (both ds)) (items_over p n l.reader r l.invariant.2 (grind arith)) ∙ ap (λ es. Some (es, r)) (both-end ds),
      sym (both-end (items_view l.found.items)) ∙ sym (l.invariant.5 no_items) ∙ ap (cut_items c.args.form (room c.args.form)) (both-end ds),
    )

pub keep_members-members-init : goal.keep_members-members-init
keep_members-members-init t c = (length c.args.reader.now, no_members, omega arith, refl, omega arith, ap members_view c.new-found.ensures.empty, refl, tt)

pub keep_members-members-preserved-in-Continue-branch-2 : goal.keep_members-members-preserved-in-Continue-branch-2
keep_members-members-preserved-in-Continue-branch-2 t c =
    let p = value c.args.depth in
    let l = c.members in
    let n = l.invariant.0 in
    let ms = l.invariant.1 in
    let sorted = l.invariant.7 in
    let f = c.args.form in
    let k = c.in-Ok-Some.name.now in
    let s = c.next_key.new.self in
    let named : read_key l.reader ≡ Some (Some k, s) = grind arith in
    let done = c.in_ok-member.ensures in
    let d = done.ok.0 in
    let v = c.in_ok-member.member in
    let r = c.keep.new.reader in
    let less = read_key-shorter l.reader (Some k) s named in
    let shorter = done.shorter in
    let tree = converted_some of_json (p s) d r done.ok.1 in
    let copied : string_bytes c.in-Ok.key ≡ k = search rules in
    let kept : view v ≡ cut (member_form f k) d = subst (λ g. view v ≡ cut g d) c.member_form.ensures done.ok.2 in
    let has : is_among (names_at f) k ≡ true = sym c.allows.ensures ∙ c.if-allows.true in (
      n - 1,
      put k d ms,
      omega (arith, l.invariant.2),
      l.invariant.3 ∙ member_read p ms n k l.reader s r d (omega (arith, l.invariant.2)) named done.ok.1,
      omega (arith, l.invariant.4),
      c.in_ok-put_member.ensures ∙ ap (λ name. put name (view v) (members_view l.found.entries)) copied ∙ ap (λ w. put k w (members_view l.found.entries)) kept
          ∙ ap (put k (cut (member_form f k) d)) l.invariant.5 ∙ member-put f k d ms sorted has,
      first-known (names_at f) k d has ms ∙ l.invariant.6,
      sorted-put k d ms (tree-sorted tree.0 d tree.2) sorted,
    )

pub keep_members-members-preserved : goal.keep_members-members-preserved
keep_members-members-preserved t c =
    let p = value c.args.depth in
    let l = c.members in
    let n = l.invariant.0 in
    let ms = l.invariant.1 in
    let sorted = l.invariant.7 in
    let f = c.args.form in
    let k = c.in-Ok-Some.name.now in
    let s = c.next_key.new.self in
    let named : read_key l.reader ≡ Some (Some k, s) = grind arith in
    let yes : c.pass.result ≡ true = grind arith in
    let done = c.pass.ensures.passed yes in
    let d = done.0 in
    let r = c.pass.new.reader in
    let less = read_key-shorter l.reader (Some k) s named in
    let shorter = c.pass.ensures.shorter yes in
    let tree = converted_some of_json (p s) d r done.1 in
    let none : is_among (names_at f) k ≡ false = sym c.allows.ensures ∙ c.if-allows.false in (
      n - 1,
      put k d ms,
      omega (arith, l.invariant.2),
      l.invariant.3 ∙ member_read p ms n k l.reader s r d (omega (arith, l.invariant.2)) named done.1,
      omega (arith, l.invariant.4),
      l.invariant.5 ∙ member-passed f k d ms sorted none,
      first-lesser (names_at f) k d none ms sorted ∙ ap (lesser k) l.invariant.6 ∙ sym c.in_ok-hold.ensures,
      sorted-put k d ms (tree-sorted tree.0 d tree.2) sorted,
    )

pub keep_members-returns-in-Some-clause-ok : goal.keep_members-returns-in-Some-clause-ok
keep_members-returns-in-Some-clause-ok t c =
    let p = value c.args.depth in
    let l = c.members in
    let n = l.invariant.0 in
    let ms = l.invariant.1 in
    let f = c.args.form in (
      ms,
      l.invariant.3 ∙ members_over p ms n l.reader c.next_key.new.self l.invariant.2 (grind arith),
      c.in-Some.ensures ∙ ap₂ with_other (sym l.invariant.6) l.invariant.5 ∙ kept-few (names_at f) f ms l.invariant.7,
    )

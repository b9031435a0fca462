use Rattle.std.proofs.Common.{◌≡◌, ◌-◌, ◌<◌, [], ◌∷◌, length, true, Some, None, refl, ap, ap₂, ◌∙◌, arith}
use Rattle.json.specs.Token.{Token}
use Rattle.json.specs.Json.{parse_map, after_end_array, read_key, items, members, value}
use Rattle.json.specs.Reads.{token_of}
use Rattle.json.proofs.Grammar.{value_is, value-begin_array, value-begin_object, read_key-shorter}
use Rattle.serde_json.specs.Data.{null, boolean, number, string, array, object, no_members, no_items, item, put}
use Rattle.serde_json.specs.Read.{of_json, of_items, converted}
use Rattle.serde_json.specs.View.{number_view}
use Rattle.scenario_cut.specs.Growing.{both}
use Rattle.scenario_cut.proofs.Begun.{begun-value}
use Rattle.scenario_cut.proofs.Turns.{converted-array, converted-object, item_read, item_refused, items_over, member_read, member_refused, key_refused, members_over, both-end, one_more, none_before}
use Rattle.scenario_cut.proofs.passing.+pass.Goals as goal

pub pass-returns-in_default-clause-refused : goal.pass-returns-in_default-clause-refused
pass-returns-in_default-clause-refused t c = λ no-reading.
    let empty : c.args.reader.now ≡ [] = grind arith in
    ap (converted of_json) (ap (value c.args.depth) empty ∙ value_is c.args.depth [])

pub pass-returns-clause-passed : goal.pass-returns-clause-passed
pass-returns-clause-passed t c = λ yes.
    let first : c.args.reader.now ≡ token_of c.in-Some.token ∷ c.next.new.self = grind arith in
    let done = c.pass_rest.ensures.passed yes in
    (done.0, ap (λ ts. converted of_json (value c.args.depth ts)) first ∙ done.1)

pub pass-returns-clause-refused : goal.pass-returns-clause-refused
pass-returns-clause-refused t c = λ no-reading.
    let first : c.args.reader.now ≡ token_of c.in-Some.token ∷ c.next.new.self = grind arith in
    ap (λ ts. converted of_json (value c.args.depth ts)) first ∙ c.pass_rest.ensures.refused no-reading

pub pass_rest-returns-in-String-clause-passed : goal.pass_rest-returns-in-String-clause-passed
pass_rest-returns-in-String-clause-passed t c = λ yes.
    let rest = c.args.reader.now in
    let is : token_of c.args.token ≡ Token.string c.in-String.field-0.now = grind arith in
    begun-value c.args.token c.args.depth rest rest (string c.in-String.field-0.now)
    (ap (converted of_json) (ap (λ k. value c.args.depth (k ∷ rest)) is ∙ value_is c.args.depth _))

pub pass_rest-returns-in-Some-clause-passed : goal.pass_rest-returns-in-Some-clause-passed
pass_rest-returns-in-Some-clause-passed t c = λ yes.
    let rest = c.args.reader.now in
    let is : token_of c.args.token ≡ Token.number c.in-Number.text.now = grind arith in
    begun-value c.args.token c.args.depth rest rest (number (number_view c.in-Some.field-0))
    (ap (converted of_json) (ap (λ k. value c.args.depth (k ∷ rest)) is ∙ value_is c.args.depth _) ∙ rw (← c.in-Some.ensures))

pub pass_rest-returns-in-None-clause-refused : goal.pass_rest-returns-in-None-clause-refused
pass_rest-returns-in-None-clause-refused t c = λ no-reading.
    let is : token_of c.args.token ≡ Token.number c.in-Number.text.now = grind arith in
    ap (converted of_json) (ap (λ k. value c.args.depth (k ∷ c.args.reader.now)) is ∙ value_is c.args.depth _) ∙ rw (← c.in-None.ensures)

pub pass_rest-returns-in-Bool-clause-passed : goal.pass_rest-returns-in-Bool-clause-passed
pass_rest-returns-in-Bool-clause-passed t c = λ yes.
    let rest = c.args.reader.now in
    let is : token_of c.args.token ≡ Token.boolean c.in-Bool.field-0 = grind arith in
    begun-value c.args.token c.args.depth rest rest (boolean c.in-Bool.field-0)
    (ap (converted of_json) (ap (λ k. value c.args.depth (k ∷ rest)) is ∙ value_is c.args.depth _))

pub pass_rest-returns-in-Null-clause-passed : goal.pass_rest-returns-in-Null-clause-passed
pass_rest-returns-in-Null-clause-passed t c = λ yes.
    let rest = c.args.reader.now in
    let is : token_of c.args.token ≡ Token.null = grind arith in
    begun-value c.args.token c.args.depth rest rest null
    (ap (converted of_json) (ap (λ k. value c.args.depth (k ∷ rest)) is ∙ value_is c.args.depth _))

pub pass_rest-returns-in-EndObject-clause-refused : goal.pass_rest-returns-in-EndObject-clause-refused
pass_rest-returns-in-EndObject-clause-refused t c = λ no-reading.
    let all = token_of c.args.token ∷ c.args.reader.now in
    let none : value c.args.depth all ≡ None = rw (value_is c.args.depth all) (grind arith) in
    ap (converted of_json) none

pub pass_rest-returns-then-depth-eq0-clause-refused : goal.pass_rest-returns-then-depth-eq0-clause-refused
unfolding value
pass_rest-returns-then-depth-eq0-clause-refused t c = λ no-reading.
    let none : c.args.depth ≡ 0 = omega arith in
    let is : token_of c.args.token ≡ Token.begin_array = grind arith in
    ap (converted of_json) (ap₂ value none (ap (λ k. k ∷ c.args.reader.now) is))

pub pass_rest-returns-then-depth-eq0-2-clause-refused : goal.pass_rest-returns-then-depth-eq0-2-clause-refused
unfolding value
pass_rest-returns-then-depth-eq0-2-clause-refused t c = λ no-reading.
    let none : c.args.depth ≡ 0 = omega arith in
    let is : token_of c.args.token ≡ Token.begin_object = grind arith in
    ap (converted of_json) (ap₂ value none (ap (λ k. k ∷ c.args.reader.now) is))

pub pass_rest-returns-else-depth-eq0-clause-passed : goal.pass_rest-returns-else-depth-eq0-clause-passed
pass_rest-returns-else-depth-eq0-clause-passed t c = λ yes.
    let rest = c.args.reader.now in
    let is : token_of c.args.token ≡ Token.begin_array = grind arith in
    let opened = ap (converted of_json) (ap (λ k. value c.args.depth (k ∷ rest)) is ∙ value-begin_array c.args.depth rest (omega arith)) ∙ converted-array (items (value (c.args.depth - 1)) (length rest) rest) in
    let found = c.pass_items.ensures.passed yes in
    begun-value c.args.token c.args.depth rest _ (array found.0) (opened ∙ ap (parse_map array) found.1)

pub pass_rest-returns-else-depth-eq0-clause-refused : goal.pass_rest-returns-else-depth-eq0-clause-refused
pass_rest-returns-else-depth-eq0-clause-refused t c = λ no-reading.
    let rest = c.args.reader.now in
    let is : token_of c.args.token ≡ Token.begin_array = grind arith in
    let opened = ap (converted of_json) (ap (λ k. value c.args.depth (k ∷ rest)) is ∙ value-begin_array c.args.depth rest (omega arith)) ∙ converted-array (items (value (c.args.depth - 1)) (length rest) rest) in
    opened ∙ ap (parse_map array) (c.pass_items.ensures.refused no-reading)

pub pass_rest-returns-else-depth-eq0-2-clause-passed : goal.pass_rest-returns-else-depth-eq0-2-clause-passed
pass_rest-returns-else-depth-eq0-2-clause-passed t c = λ yes.
    let rest = c.args.reader.now in
    let is : token_of c.args.token ≡ Token.begin_object = grind arith in
    let opened = ap (converted of_json) (ap (λ k. value c.args.depth (k ∷ rest)) is ∙ value-begin_object c.args.depth rest (omega arith)) ∙ converted-object (members (value (c.args.depth - 1)) (length rest) rest) in
    let found = c.pass_members.ensures.passed yes in
    begun-value c.args.token c.args.depth rest _ (object found.0) (opened ∙ ap (parse_map object) found.1)

pub pass_rest-returns-else-depth-eq0-2-clause-refused : goal.pass_rest-returns-else-depth-eq0-2-clause-refused
pass_rest-returns-else-depth-eq0-2-clause-refused t c = λ no-reading.
    let rest = c.args.reader.now in
    let is : token_of c.args.token ≡ Token.begin_object = grind arith in
    let opened = ap (converted of_json) (ap (λ k. value c.args.depth (k ∷ rest)) is ∙ value-begin_object c.args.depth rest (omega arith)) ∙ converted-object (members (value (c.args.depth - 1)) (length rest) rest) in
    opened ∙ ap (parse_map object) (c.pass_members.ensures.refused no-reading)

pub pass_items-items-init : goal.pass_items-items-init
pass_items-items-init t c =
    let all = converted of_items (items (value c.args.depth) (length c.args.reader.now) c.args.reader.now) in
    (length c.args.reader.now, no_items, omega arith, none_before all, omega arith)

pub pass_items-returns-then-not-pass-clause-refused : goal.pass_items-returns-then-not-pass-clause-refused
pass_items-returns-then-not-pass-clause-refused t c = λ no-reading.
    let p = value c.args.depth in
    let l = c.items in
    let n = l.invariant.0 in
    let ds = l.invariant.1 in
    let going : (after_end_array l.reader ≡ None) × (c.take_end_array.new.self ≡ l.reader) = grind arith in
    l.invariant.3 ∙ ap (parse_map (both ds)) (item_refused p n l.reader going.0 (rw (← going.1) (c.pass.ensures.refused (grind arith))))

pub pass_items-items-preserved : goal.pass_items-items-preserved
pass_items-items-preserved t c =
    let p = value c.args.depth in
    let l = c.items in
    let n = l.invariant.0 in
    let ds = l.invariant.1 in
    let going : (after_end_array l.reader ≡ None) × (c.take_end_array.new.self ≡ l.reader) = grind arith in
    let yes : c.pass.result ≡ true = grind arith in
    let done = c.pass.ensures.passed yes in
    let d = done.0 in
    let r = c.pass.new.reader in
    let less : length r < length l.reader = rw (← going.1) (c.pass.ensures.shorter yes) in
    let turn = item_read p n l.reader r d (omega (arith, l.invariant.2)) going.0 (rw (← going.1) done.1) in (
      n - 1,
      both ds (item d no_items),
      omega (arith, l.invariant.2),
      l.invariant.3 ∙ ap (parse_map (both ds)) turn ∙ one_more ds d _,
      omega (arith, l.invariant.4),
    )

pub pass_items-returns-clause-passed : goal.pass_items-returns-clause-passed
pass_items-returns-clause-passed t c = λ yes.
    let p = value c.args.depth in
    let l = c.items in
    let n = l.invariant.0 in
    let ds = l.invariant.1 in
    let r = c.take_end_array.new.self in
    (ds, l.invariant.3 ∙ ap (parse_map (both ds)) (items_over p n l.reader r l.invariant.2 (grind arith)) ∙ ap (λ es. Some (es, r)) (both-end ds))

pub pass_members-members-init : goal.pass_members-members-init
pass_members-members-init t c = (length c.args.reader.now, no_members, omega arith, refl, omega arith)

pub pass_members-returns-in-Ok-None-clause-passed : goal.pass_members-returns-in-Ok-None-clause-passed
pass_members-returns-in-Ok-None-clause-passed t c = λ yes.
    let p = value c.args.depth in
    let l = c.members in
    let n = l.invariant.0 in
    let ms = l.invariant.1 in
    (ms, l.invariant.3 ∙ members_over p ms n l.reader c.next_key.new.self l.invariant.2 (grind arith))

pub pass_members-returns-in-Err-clause-refused : goal.pass_members-returns-in-Err-clause-refused
pass_members-returns-in-Err-clause-refused t c = λ no-reading.
    let p = value c.args.depth in
    let l = c.members in
    let n = l.invariant.0 in
    let ms = l.invariant.1 in
    l.invariant.3 ∙ key_refused p ms n l.reader c.in-Err.ensures.value

pub pass_members-returns-then-not-pass-clause-refused : goal.pass_members-returns-then-not-pass-clause-refused
pass_members-returns-then-not-pass-clause-refused t c = λ no-reading.
    let p = value c.args.depth in
    let l = c.members in
    let n = l.invariant.0 in
    let ms = l.invariant.1 in
    let k = c.in-Ok-Some.name.now in
    let s = c.next_key.new.self in
    let named : read_key l.reader ≡ Some (Some k, s) = grind arith in
    l.invariant.3 ∙ member_refused p ms n k l.reader s named (c.pass.ensures.refused (grind arith))

pub pass_members-members-preserved : goal.pass_members-members-preserved
pass_members-members-preserved t c =
    let p = value c.args.depth in
    let l = c.members in
    let n = l.invariant.0 in
    let ms = l.invariant.1 in
    let k = c.in-Ok-Some.name.now in
    let s = c.next_key.new.self in
    let named : read_key l.reader ≡ Some (Some k, s) = grind arith in
    let yes : c.pass.result ≡ true = grind arith in
    let done = c.pass.ensures.passed yes in
    let r = c.pass.new.reader in
    let less = read_key-shorter l.reader (Some k) s named in
    let lesser = c.pass.ensures.shorter yes in (
      n - 1,
      put k done.0 ms,
      omega (arith, l.invariant.2),
      l.invariant.3 ∙ member_read p ms n k l.reader s r done.0 (omega (arith, l.invariant.2)) named done.1,
      omega (arith, l.invariant.4),
    )

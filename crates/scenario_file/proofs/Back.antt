-- The compact text of a value whose numbers were read, and which has no float, is read as that value.
use Rattle.std.proofs.Common.{◌≡◌, ℕ, suc, max, ◌≤◌, List, [], false, Option, Some, None, option_map, option_and_then, Ordering, Less, Equal, Greater, nat_cmp, refl, sym, ap, ap₂, ◌∙◌, subst, arith, append-nil}
use Rattle.std.specs.Prelude.{⊤}
use Rattle.std.proofs.lemmas.Bool.{or_parts}
use Rattle.std.proofs.lemmas.Cmp.{nat_list_cmp_total}
use Rattle.std.specs.Cmp.Lexicographic.{slice_cmp}
use Rattle.std.specs.Ordering.{match_ordering, ordering_reverse}
use Rattle.json.specs.Lex.{tokens}
use Rattle.json.specs.Print.{print}
use Rattle.json.specs.Json as json
use Rattle.json.specs.Tree as tree
use Rattle.json.specs.Tree.{json_tokens, HasNumbers, ItemsHaveNumbers, MembersHaveNumbers}
use Rattle.json.proofs.Printed.Tokens.{tokens-print}
use Rattle.json.proofs.Printed.Trees.{value-json_tokens, ArePrintable-json_tokens}
use Rattle.serde_json.specs.Data.{Data, null, boolean, number, string, array, object, Items, no_items, item, Members, no_members, member, put, depth, items_depth, members_depth}
use Rattle.serde_json.specs.Read.{number_of, of_json, of_items, of_members, max_depth, read}
use Rattle.serde_json.specs.Written.{outline, items_outline, members_outline, has_float, items_have_float, members_have_float, compact_text}
use Rattle.serde_json.proofs.Texts.{print-outline}
use Rattle.scenario_read.specs.Sorted.{Below, Sorted, ItemsSorted, MembersSorted}
use Rattle.scenario_read.proofs.Rising.{IfFound, found-map, found-then}
use Rattle.serde_json.specs.Find.{get}
use Rattle.scenario_cut.proofs.Turns.{whole}
use Rattle.scenario_file.proofs.Putting.{Each, each-there}
use Rattle.scenario_file.proofs.Numerals.{IsNumeral, number-numeral}

-- what is written for the value has numbers, and is this value
pub record IsWritten (d : Data) : Type 0 where
  pub numbers : HasNumbers (outline d)
  pub back : of_json (outline d) ≡ Some d

abbrev IsBack : Data → Type 0
IsBack d = Sorted d → has_float d ≡ false → IsWritten d

abbrev AllBack : Members → Type 0
AllBack no_members = ⊤
AllBack (member k d ms) = IsBack d × AllBack ms

abbrev EachBack : Items → Type 0
EachBack no_items = ⊤
EachBack (item d ds) = IsBack d × EachBack ds

-- ---- members that come in order are put last, one by one

abbrev joined : Members → Members → Members
joined no_members more = more
joined (member k d ms) more = member k d (joined ms more)

abbrev AllBelow : Members → List ℕ → Type 0
AllBelow no_members k = ⊤
AllBelow (member l d ms) k = (slice_cmp nat_cmp l k ≡ Less) × AllBelow ms k

abbrev Under : Members → Members → Type 0
Under before no_members = ⊤
Under before (member k d ms) = AllBelow before k × Under before ms

put-above : (o : Ordering) (a b c : Members) → o ≡ Greater → match_ordering o a b c ≡ c
put-above Less a b c e = absurd (cc)
put-above Equal a b c e = absurd (cc)
put-above Greater a b c e = refl

put-last : (k : List ℕ) (d : Data) (before : Members) → AllBelow before k → put k d before ≡ joined before (member k d no_members)
put-last k d no_members below = refl
put-last k d (member l e ms) below =
    let above : slice_cmp nat_cmp k l ≡ Greater = nat_list_cmp_total.antisymm k l ∙ ap ordering_reverse below.0 in
    put-above (slice_cmp nat_cmp k l) _ _ _ above ∙ ap (member l e) (put-last k d ms below.1)

joined-end : (ms : Members) → joined ms no_members ≡ ms
joined-end no_members = refl
joined-end (member k d ms) = ap (member k d) (joined-end ms)

joined-next : (before : Members) (k : List ℕ) (d : Data) (ms : Members) → joined (joined before (member k d no_members)) ms ≡ joined before (member k d ms)
joined-next no_members k d ms = refl
joined-next (member l e before) k d ms = ap (member l e) (joined-next before k d ms)

below-next : (before : Members) (k : List ℕ) (d : Data) (other : List ℕ) → AllBelow before other → slice_cmp nat_cmp k other ≡ Less → AllBelow (joined before (member k d no_members)) other
below-next no_members k d other below less = (less, tt)
below-next (member l e before) k d other below less = (below.0, below-next before k d other below.1 less)

under-next : (before : Members) (k : List ℕ) (d : Data) (ms : Members) → Under before ms → Below k ms → Under (joined before (member k d no_members)) ms
under-next before k d no_members under below = tt
under-next before k d (member l e ms) under below = (below-next before k d l under.0 below.0, under-next before k d ms under.1 below.1)

under-none : (ms : Members) → Under no_members ms
under-none no_members = tt
under-none (member k d ms) = (tt, under-none ms)

members-back : (ms before : Members) → AllBack ms → MembersSorted ms → members_have_float ms ≡ false → Under before ms
    → MembersHaveNumbers (members_outline ms) × (of_members (members_outline ms) before ≡ Some (joined before ms))
members-back no_members before all sorted plain under = (tt, ap Some (sym (joined-end before)))
members-back (member k d ms) before all sorted plain under =
    let parts = or_parts (has_float d) (members_have_float ms) plain in
    let here = all.0 sorted.0 parts.0 in
    let rest = members-back ms (joined before (member k d no_members)) all.1 sorted.2 parts.1 (under-next before k d ms under.1 sorted.1) in (
      (here.numbers, rest.0),
      ap (option_and_then (λ e. of_members (members_outline ms) (put k e before))) here.back
          ∙ ap (of_members (members_outline ms)) (put-last k d before under.0) ∙ rest.1 ∙ ap Some (joined-next before k d ms),
    )

items-back : (ds : Items) → EachBack ds → ItemsSorted ds → items_have_float ds ≡ false → ItemsHaveNumbers (items_outline ds) × (of_items (items_outline ds) ≡ Some ds)
items-back no_items each sorted plain = (tt, refl)
items-back (item d ds) each sorted plain =
    let parts = or_parts (has_float d) (items_have_float ds) plain in
    let here = each.0 sorted.0 parts.0 in
    let rest = items-back ds each.1 sorted.1 parts.1 in (
      (here.numbers, rest.0),
      ap (option_and_then (λ e. option_map (item e) (of_items (items_outline ds)))) here.back ∙ ap (option_map (item d)) rest.1,
    )

array-back : (ds : Items) → EachBack ds → IsBack (array ds)
array-back ds each = λ sorted plain. let inner = items-back ds each sorted plain in record { numbers = inner.0; back = ap (option_map array) inner.1 }

object-back : (ms : Members) → AllBack ms → IsBack (object ms)
object-back ms all = λ sorted plain. let inner = members-back ms no_members all sorted plain (under-none ms) in record { numbers = inner.0; back = ap (option_map object) inner.1 }

-- ---- whatever has such numbers is so

-- each number's own text is one, and is read as this number
abbrev mutual
  pub HasNumerals : Data → Type 0
  HasNumerals null = ⊤
  HasNumerals (boolean b) = ⊤
  HasNumerals (number n) = IsNumeral n
  HasNumerals (string s) = ⊤
  HasNumerals (array ds) = ItemsHaveNumerals ds
  HasNumerals (object ms) = MembersHaveNumerals ms

  pub ItemsHaveNumerals : Items → Type 0
  ItemsHaveNumerals no_items = ⊤
  ItemsHaveNumerals (item d ds) = HasNumerals d × ItemsHaveNumerals ds

  pub MembersHaveNumerals : Members → Type 0
  MembersHaveNumerals no_members = ⊤
  MembersHaveNumerals (member k d ms) = HasNumerals d × MembersHaveNumerals ms

mutual
  back : (d : Data) → HasNumerals d → IsBack d
  back null h = λ sorted plain. record { numbers = tt; back = refl }
  back (boolean b) h = λ sorted plain. record { numbers = tt; back = refl }
  back (number n) h = λ sorted plain. let text = h plain in record { numbers = text.0; back = ap (option_map number) text.1 }
  back (string s) h = λ sorted plain. record { numbers = tt; back = refl }
  back (array ds) h = array-back ds (each-back ds h)
  back (object ms) h = object-back ms (all-back ms h)

  each-back : (ds : Items) → ItemsHaveNumerals ds → EachBack ds
  each-back no_items h = tt
  each-back (item d ds) h = (back d h.0, each-back ds h.1)

  all-back : (ms : Members) → MembersHaveNumerals ms → AllBack ms
  all-back no_members h = tt
  all-back (member k d ms) h = (back d h.0, all-back ms h.1)

-- ---- whatever was read has such numbers

pub numerals-put : (k : List ℕ) (d : Data) (ms : Members) → HasNumerals d → MembersHaveNumerals ms → MembersHaveNumerals (put k d ms)
numerals-put k d no_members here all = (here, tt)
numerals-put k d (member l e ms) here all = at (numerals-put k d ms here all.1) (slice_cmp nat_cmp k l)
  where
    at : MembersHaveNumerals (put k d ms) → (o : Ordering) → MembersHaveNumerals (match_ordering o (member k d (member l e ms)) (member l d ms) (member l e (put k d ms)))
    at rest Less = (here, all)
    at rest Equal = (here, all.1)
    at rest Greater = (all.0, rest)

mutual
  of_json-numerals : (j : json.Json) → IfFound HasNumerals (of_json j)
  of_json-numerals json.null = tt
  of_json-numerals (json.boolean b) = tt
  of_json-numerals (json.number s) = found-map IsNumeral HasNumerals number (λ n numeral. numeral) (number_of s) (number-numeral s)
  of_json-numerals (json.string s) = tt
  of_json-numerals (json.array js) = found-map ItemsHaveNumerals HasNumerals array (λ ds h. h) (of_items js) (of_items-numerals js)
  of_json-numerals (json.object ms) = found-map MembersHaveNumerals HasNumerals object (λ found h. h) (of_members ms no_members) (of_members-numerals ms no_members tt)

  of_items-numerals : (js : json.Items) → IfFound ItemsHaveNumerals (of_items js)
  of_items-numerals json.no_items = tt
  of_items-numerals (json.item j js) =
      found-then HasNumerals ItemsHaveNumerals (λ d. option_map (item d) (of_items js))
      (λ d here. found-map ItemsHaveNumerals ItemsHaveNumerals (item d) (λ ds rest. (here, rest)) (of_items js) (of_items-numerals js)) (of_json j) (of_json-numerals j)

  of_members-numerals : (ms : json.Members) (found : Members) → MembersHaveNumerals found → IfFound MembersHaveNumerals (of_members ms found)
  of_members-numerals json.no_members found all = all
  of_members-numerals (json.member name j ms) found all =
      found-then HasNumerals MembersHaveNumerals (λ d. of_members ms (put name d found))
      (λ d here. of_members-numerals ms (put name d found) (numerals-put name d found here all)) (of_json j) (of_json-numerals j)

-- what a text's tree gives
pub tree-numerals : (j : json.Json) (d : Data) → of_json j ≡ Some d → HasNumerals d
tree-numerals j d e = subst (IfFound HasNumerals) e (of_json-numerals j)

-- so has what is at a name
pub numerals-there : (k : List ℕ) (d v : Data) → get k d ≡ Some v → HasNumerals d → HasNumerals v
numerals-there k null v e h = absurd (cc)
numerals-there k (boolean b) v e h = absurd (cc)
numerals-there k (number n) v e h = absurd (cc)
numerals-there k (string s) v e h = absurd (cc)
numerals-there k (array ds) v e h = absurd (cc)
numerals-there k (object ms) v e h = each-there HasNumerals k ms v e (each ms h)
  where
    each : (ms : Members) → MembersHaveNumerals ms → Each HasNumerals ms
    each no_members h = tt
    each (member l e ms) h = (h.0, each ms h.1)

-- a value that was read comes from a tree
pub tree-of : (bytes : List ℕ) (d : Data) → read bytes ≡ Some d → (j : json.Json) × (of_json j ≡ Some d)
tree-of bytes d e = from (option_and_then (λ p. json.if_last p.0 p.1) (json.value max_depth (tokens bytes))) e
  where
    from : (o : Option json.Json) → option_and_then of_json o ≡ Some d → (j : json.Json) × (of_json j ≡ Some d)
    from None f = absurd (cc)
    from (Some j) f = (j, f)

-- what is written nests as deep as the value
mutual
  outline-depth : (d : Data) → tree.depth (outline d) ≡ depth d
  outline-depth null = refl
  outline-depth (boolean b) = refl
  outline-depth (number n) = refl
  outline-depth (string s) = refl
  outline-depth (array ds) = ap suc (items-depth ds)
  outline-depth (object ms) = ap suc (members-depth ms)

  items-depth : (ds : Items) → tree.items_depth (items_outline ds) ≡ items_depth ds
  items-depth no_items = refl
  items-depth (item d ds) = ap₂ max (outline-depth d) (items-depth ds)

  members-depth : (ms : Members) → tree.members_depth (members_outline ms) ≡ members_depth ms
  members-depth no_members = refl
  members-depth (member k d ms) = ap₂ max (outline-depth d) (members-depth ms)

-- it is printed from its tokens
same-tokens : (d : Data) → IsWritten d → tokens (compact_text d) ≡ json_tokens (outline d)
same-tokens d written = ap tokens (sym (print-outline d)) ∙ tokens-print (json_tokens (outline d)) (ArePrintable-json_tokens (outline d) written.numbers)

pub text-tokens : (d : Data) → HasNumerals d → Sorted d → has_float d ≡ false → compact_text d ≡ print (tokens (compact_text d))
text-tokens d numerals sorted plain = sym (print-outline d) ∙ ap print (sym (same-tokens d (back d numerals sorted plain)))

pub reads-back : (d : Data) → HasNumerals d → Sorted d → depth d ≤ max_depth → has_float d ≡ false → read (compact_text d) ≡ Some d
reads-back d numerals sorted nests plain =
    let written = back d numerals sorted plain in
    let j = outline d in
    let shallow : tree.depth j ≤ max_depth = omega (arith, outline-depth d, nests) in
    ap whole (ap (json.value max_depth) (same-tokens d written ∙ sym (append-nil (json_tokens j))) ∙ value-json_tokens j max_depth [] shallow) ∙ written.back

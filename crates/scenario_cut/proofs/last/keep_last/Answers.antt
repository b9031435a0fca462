use Rattle.std.proofs.Common.{rules, ◌≡◌, ◌-◌, Some, true, false, length, string_bytes, refl, sym, ap, ap₂, ◌∙◌, arith}
use Rattle.json.specs.Json.{value, read_key}
use Rattle.json.proofs.Grammar.{read_key-shorter}
use Rattle.serde_json.specs.Data.{no_members, put}
use Rattle.serde_json.specs.Read.{of_json}
use Rattle.serde_json.specs.View.{view, members_view}
use Rattle.scenario_read.specs.Kinds.{is_among}
use Rattle.scenario_read.specs.Sorted.{Sorted}
use Rattle.scenario_read.proofs.Rising.{tree-sorted, sorted-put}
use Rattle.scenario_cut.specs.Cutting.{Whole, names_at, only, cut, cut_members, member_form}
use Rattle.scenario_cut.specs.Last.{filled, hidden}
use Rattle.scenario_cut.specs.Others.{lesser, with_other}
use Rattle.scenario_cut.proofs.Lasting.{all-shown, put-through, kept-sorted}
use Rattle.scenario_cut.proofs.Naming.{first-known, first-lesser, member-put, member-passed, kept-few}
use Rattle.scenario_cut.proofs.Shapes.{only-sorted}
use Rattle.scenario_cut.proofs.Turns.{converted_some, member_read, members_over}
use Rattle.scenario_cut.proofs.last.keep_last.Goals as goal

pub members-init : goal.members-init
members-init c = (length c.args.reader.now, no_members, omega arith, refl, tt, ap members_view c.new-found.ensures.empty, refl)

pub members-preserved-in-Continue-branch-2 : goal.members-preserved-in-Continue-branch-2
members-preserved-in-Continue-branch-2 c =
    let p = value c.args.depth in
    let l = c.members in
    let n = l.invariant.0 in
    let ms = l.invariant.1 in
    let sorted = l.invariant.4 in
    let k = c.in-Ok-Some.name.now in
    let s = c.next_key.new.self in
    let named : read_key l.reader ≡ Some (Some k, s) = grind arith in
    let done = c.in_ok-member.ensures in
    let d = done.ok.0 in
    let v = view c.in_ok-member.member in
    let r = c.keep_or_pass.new.reader in
    let now = c.keep_or_pass.new.left in
    let less = read_key-shorter l.reader (Some k) s named in
    let shorter = done.shorter in
    let tree = converted_some of_json (p s) d r done.ok.1 in
    let one : Sorted d = tree-sorted tree.0 d tree.2 in
    let copied : string_bytes c.in-Ok.key ≡ k = search rules in
    let has : is_among (names_at Whole) k ≡ true = sym c.allows.ensures ∙ c.if-allows.true in
    let some = only (names_at Whole) ms in (
      n - 1,
      put k d ms,
      omega (arith, l.invariant.2),
      l.invariant.3 ∙ member_read p ms n k l.reader s r d (omega (arith, l.invariant.2)) named done.ok.1,
      sorted-put k d ms one sorted,
      c.in_ok-put_member.ensures ∙ ap (λ name. put name v (members_view l.found.entries)) copied ∙ ap (put k v) l.invariant.5
          ∙ put-through k (hidden l.left) (hidden now) v (cut (member_form Whole k) d) done.ok.2 (cut_members Whole some) (kept-sorted some (only-sorted (names_at Whole) ms sorted))
          ∙ ap (filled (hidden now)) (member-put Whole k d ms sorted has),
      first-known (names_at Whole) k d has ms ∙ l.invariant.6,
    )

pub members-preserved : goal.members-preserved
members-preserved c =
    let p = value c.args.depth in
    let l = c.members in
    let n = l.invariant.0 in
    let ms = l.invariant.1 in
    let sorted = l.invariant.4 in
    let k = c.in-Ok-Some.name.now in
    let s = c.next_key.new.self in
    let named : read_key l.reader ≡ Some (Some k, s) = grind arith in
    let yes : c.pass.result ≡ true = grind arith in
    let done = c.pass.ensures.passed yes in
    let d = done.0 in
    let r = c.pass.new.reader in
    let less = read_key-shorter l.reader (Some k) s named in
    let shorter = c.pass.ensures.shorter yes in
    let tree = converted_some of_json (p s) d r done.1 in
    let none : is_among (names_at Whole) k ≡ false = sym c.allows.ensures ∙ c.if-allows.false in (
      n - 1,
      put k d ms,
      omega (arith, l.invariant.2),
      l.invariant.3 ∙ member_read p ms n k l.reader s r d (omega (arith, l.invariant.2)) named done.1,
      sorted-put k d ms (tree-sorted tree.0 d tree.2) sorted,
      l.invariant.5 ∙ ap (filled (hidden l.left)) (member-passed Whole k d ms sorted none),
      first-lesser (names_at Whole) k d none ms sorted ∙ ap (lesser k) l.invariant.6 ∙ sym c.in_ok-hold.ensures,
    )

pub members-smaller-in-Continue-branch-2 : goal.members-smaller-in-Continue-branch-2
members-smaller-in-Continue-branch-2 c =
    let l = c.members in
    let k = c.in-Ok-Some.name.now in
    let s = c.next_key.new.self in
    let named : read_key l.reader ≡ Some (Some k, s) = grind arith in
    let less = read_key-shorter l.reader (Some k) s named in
    let shorter = c.in_ok-member.ensures.shorter in
    omega arith

pub returns-in-Some : goal.returns-in-Some
returns-in-Some c =
    let p = value c.args.depth in
    let l = c.members in
    let n = l.invariant.0 in
    let ms = l.invariant.1 in
    let over : c.none_left.result ≡ true = grind arith in
    let kept = l.invariant.5 ∙ all-shown l.left (c.none_left.ensures over) (cut_members Whole (only (names_at Whole) ms)) in
    record {
      ok = (
        ms,
        l.invariant.3 ∙ members_over p ms n l.reader c.next_key.new.self l.invariant.2 (grind arith),
        c.in-Some.ensures ∙ ap₂ with_other (sym l.invariant.6) kept ∙ kept-few (names_at Whole) Whole ms l.invariant.4,
      );
    }

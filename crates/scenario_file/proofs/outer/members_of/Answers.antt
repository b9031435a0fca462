use Rattle.std.proofs.Common.{◌≡◌, ◌-◌, Some, length, refl, ◌∙◌, subst, arith}
use Rattle.json.specs.Json.{value, read_key}
use Rattle.json.proofs.Grammar.{read_key-shorter}
use Rattle.serde_json.specs.Data.{Members, no_members, put}
use Rattle.serde_json.specs.Read.{of_json}
use Rattle.scenario_read.specs.Sorted.{Sorted}
use Rattle.scenario_read.proofs.Rising.{tree-sorted, sorted-put}
use Rattle.scenario_cut.proofs.Turns.{converted_some, member_read, members_over}
use Rattle.scenario_file.specs.Left.{is_left}
use Rattle.scenario_file.proofs.Leaving.{all-there}
use Rattle.scenario_file.proofs.outer.members_of.Goals as goal

pub members-init : goal.members-init
members-init g c = (length c.args.reader.now, no_members, omega arith, refl, omega arith, tt, c.none-parts.ensures)

pub members-preserved : goal.members-preserved
members-preserved g c =
    let p = value 126 in
    let l = c.members in
    let n = l.invariant.0 in
    let ms = l.invariant.1 in
    let k = c.in-Ok-Some.name.now in
    let s = c.next_key.new.self in
    let named : read_key l.reader ≡ Some (Some k, s) = grind arith in
    let done = c.in_ok-next_member.ensures in
    let d = done.ok.0 in
    let r = c.next_member.new.reader in
    let less = read_key-shorter l.reader (Some k) s named in
    let lesser = done.shorter in
    let tree = converted_some of_json (p s) d r done.ok.1 in
    let one : Sorted d = tree-sorted tree.0 d tree.2 in (
      n - 1,
      put k d ms,
      omega (arith, l.invariant.2),
      l.invariant.3 ∙ member_read p ms n k l.reader s r d (omega (arith, l.invariant.2)) named done.ok.1,
      omega (arith, l.invariant.4),
      sorted-put k d ms one l.invariant.5,
      done.ok.2 ms l.invariant.5 l.invariant.6,
    )

pub returns-then-none_left : goal.returns-then-none_left
returns-then-none_left g c =
    let l = c.members in
    let n = l.invariant.0 in
    let ms = l.invariant.1 in
    let none = c.none_left.ensures c.if-none_left.true in (
      ms,
      l.invariant.3 ∙ members_over (value 126) ms n l.reader c.next_key.new.self l.invariant.2 (grind arith),
      subst (λ (all : Members). g.P.OuterParts.stand l.parts all) (all-there (is_left l.left.own) none ms) l.invariant.6,
    )

use Rattle.std.proofs.Common.{◌≡◌, ◌-◌, Some, length, refl, ◌∙◌, arith}
use Rattle.json.specs.Json.{value, read_key}
use Rattle.json.proofs.Grammar.{read_key-shorter}
use Rattle.serde_json.specs.Data.{no_members, put}
use Rattle.scenario_cut.proofs.Turns.{member_read, members_over}
use Rattle.scenario_cut.proofs.around.judge_rest.Goals as goal

pub members-init : goal.members-init
members-init c = (length c.args.reader.now, no_members, omega arith, refl, λ known. known)

pub members-preserved : goal.members-preserved
members-preserved c =
    let p = value c.args.depth in
    let l = c.members in
    let n = l.invariant.0 in
    let ms = l.invariant.1 in
    let k = c.in-Ok-Some.name.now in
    let s = c.next_key.new.self in
    let named : read_key l.reader ≡ Some (Some k, s) = grind arith in
    let done = c.in_ok-judge_inner.ensures in
    let d = done.ok.0 in
    let r = c.judge_inner.new.reader in
    let less = read_key-shorter l.reader (Some k) s named in
    let lesser = done.shorter in (
      n - 1,
      put k d ms,
      omega (arith, l.invariant.2),
      l.invariant.3 ∙ member_read p ms n k l.reader s r d (omega (arith, l.invariant.2)) named done.ok.1,
      λ known. done.ok.2 ms (l.invariant.4 known),
    )

pub returns-in-Ok-None : goal.returns-in-Ok-None
returns-in-Ok-None c =
    let p = value c.args.depth in
    let l = c.members in
    let n = l.invariant.0 in
    let ms = l.invariant.1 in
    (ms, l.invariant.3 ∙ members_over p ms n l.reader c.next_key.new.self l.invariant.2 (grind arith), l.invariant.4)

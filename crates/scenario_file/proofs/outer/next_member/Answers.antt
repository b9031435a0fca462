use Rattle.std.proofs.Common.{sym, subst}
use Rattle.serde_json.specs.Data.{Members}
use Rattle.scenario_file.specs.Left.{is_left, without}
use Rattle.scenario_file.proofs.Leaving.{passed-over, read-last}
use Rattle.scenario_file.proofs.outer.next_member.Goals as goal

pub returns-in_ok-put_next-clause-ok : goal.returns-in_ok-put_next-clause-ok
returns-in_ok-put_next-clause-ok g c =
    let done = c.in_ok-put_next.ensures in
    let d = done.ok.0 in
    let k = c.args.name.now in
    let told = c.is_last.ensures in
    let old = is_left c.args.left.now.own in (
      d,
      done.ok.1,
      λ ms sorted was. subst (λ (all : Members). g.P.OuterParts.stand c.put_next.new.self all)
          (sym (read-last old (is_left c.is_last.new.self) k d told.others (told.last c.if-is_last.true) ms sorted))
          (done.ok.2 (without old ms) was),
    )

pub returns-then-pass-clause-ok : goal.returns-then-pass-clause-ok
returns-then-pass-clause-ok g c =
    let done = c.pass.ensures.passed c.if-pass.true in
    let told = c.is_last.ensures in
    let no = c.if-is_last.false in
    let old = is_left c.args.left.now.own in (
      done.0,
      done.1,
      λ ms sorted was. subst (λ (all : Members). g.P.OuterParts.stand c.args.parts.now all)
          (sym (passed-over old (is_left c.is_last.new.self) c.args.name.now done.0 ms told.others (told.was no) (told.more no)))
          was,
    )

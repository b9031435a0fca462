use Rattle.std.proofs.Common.{◌≡◌, None, Some, sym, subst, arith}
use Rattle.serde_json.specs.Data.{object, put}
use Rattle.scenario_cut.specs.Known.{list_named, Knows}
use Rattle.scenario_cut.proofs.Passes.{judged-member, passed-member}
use Rattle.scenario_cut.proofs.named.judge_member.Goals as goal

pub returns-in_ok-told-in-Some-clause-ok : goal.returns-in_ok-told-in-Some-clause-ok
returns-in_ok-told-in-Some-clause-ok c =
    let done = c.in_ok-told-in-Some.ensures.ok in
    let search = c.args.search in
    let name = c.args.name.now in
    let m = c.in-Some.list in
    let told = c.in_ok-told-in-Some.told in
    let known = c.args.known.now in
    let found : list_named search.group name ≡ Some m = grind arith in (
      done.0,
      done.1,
      λ ms knows. subst (λ k. Knows search k (object (put name done.0 ms))) (sym c.put_told.ensures) (judged-member search m told known name done.0 ms found done.2 knows),
    )

pub returns-then-pass-clause-ok : goal.returns-then-pass-clause-ok
returns-then-pass-clause-ok c =
    let done = c.pass.ensures.passed c.if-pass.true in
    let search = c.args.search in
    let name = c.args.name.now in
    let none : list_named search.group name ≡ None = grind arith in
    (done.0, done.1, λ ms knows. passed-member search c.args.known.now name done.0 ms none knows)

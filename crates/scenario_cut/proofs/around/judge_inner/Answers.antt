use Rattle.std.proofs.Common.{◌≡◌, true, false, bytes_eq, codes, sym, ◌∙◌, subst}
use Rattle.scenario_cut.specs.Known.{Knows}
use Rattle.scenario_cut.proofs.Passes.{inner-put, outer-put}
use Rattle.scenario_cut.proofs.around.judge_inner.Goals as goal

pub returns-in_ok-now-clause-ok : goal.returns-in_ok-now-clause-ok
returns-in_ok-now-clause-ok c =
    let done = c.in_ok-now.ensures.ok in
    let search = c.args.search in
    let name = c.args.name.now in
    let same : bytes_eq name (codes "scenario") ≡ true = sym c.eq.ensures ∙ c.if-eq.true in
    (done.0, done.1, λ ms knows. subst (Knows search c.in_ok-now.now) (sym (inner-put name done.0 ms same)) done.2)

pub returns-then-pass-clause-ok : goal.returns-then-pass-clause-ok
returns-then-pass-clause-ok c =
    let done = c.pass.ensures.passed c.if-pass.true in
    let search = c.args.search in
    let name = c.args.name.now in
    let other : bytes_eq name (codes "scenario") ≡ false = sym c.eq.ensures ∙ c.if-eq.false in
    (done.0, done.1, λ ms knows. subst (Knows search c.args.known.now) (sym (outer-put name done.0 ms other)) knows)

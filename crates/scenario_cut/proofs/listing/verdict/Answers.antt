use Rattle.std.proofs.Common.{◌≡◌, true, sym, ◌∙◌, arith}
use Rattle.scenario_cut.specs.Judging.{may_have}
use Rattle.scenario_cut.proofs.Verdicts.{items-told}
use Rattle.scenario_cut.proofs.listing.verdict.Goals as goal

pub returns : goal.returns
returns c = λ e ds j.
    let said : c.may_have.result ≡ true = grind arith in
    let yes : may_have c.args.list c.args.judged.count ≡ true = sym c.may_have.ensures ∙ said in
    items-told c.args.list e c.args.judged ds yes (λ clean. omega (arith, c.most_judged-most.ensures.most, c.if-count-most.false)) j

use Rattle.std.proofs.Common.{◌≡◌, ◌<◌, ap, ◌∙◌, sym, arith}
use Rattle.detector_bank.specs.Bank.{latest_edges}
use Rattle.detector_bank.proofs.Counting.{counted-next}
use Rattle.detector_bank.proofs.watch.Watch.latest.Goals as goal

pub loop-back-preserved : goal.loop-back-preserved
loop-back-preserved c = λ d ps few h.
    let l = c.loop-back in
    let place = c.saturating_sub.result in
    let at = c.saturating_sub.ensures in
    let low : l.back < 60 = omega arith in
    c.saturating_add-sum.ensures
    ∙ counted-next d ps l.back c.args.round l.sum c.edges_at-edges.result place few low at
    (c.edges_at-edges.ensures ∙ sym (h.edges place (omega (arith, at)) (omega (arith, at, low)))) (l.invariant d ps few h)

pub returns : goal.returns
returns c = λ d ps few h.
    let whole : c.loop-back.back ≡ 60 = omega arith in
    c.loop-back.invariant d ps few h ∙ ap (λ n. latest_edges d ps n c.args.round) whole

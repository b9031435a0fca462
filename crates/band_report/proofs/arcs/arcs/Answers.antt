use Rattle.std.proofs.Common.{◌≡◌, ◌++◌, ◌+◌, List, [], ◌∷◌, get_or, sym, subst, arith}
use Rattle.band_report.specs.declared.arcs.Arc.{Arc}
use Rattle.band_report.specs.declared.signals.Signal.{Signal}
use Rattle.band_report.proofs.Driving.{ArcIs, Driven, driven-none, driven-more, driven-all}
use Rattle.band_report.proofs.arcs.arcs.Goals as goal

pub loop-place-init : goal.loop-place-init
loop-place-init c = λ n ms e cycles. subst (λ (xs : List Arc). Driven n c.args.inbound c.args.travel.now.items c.args.cycle c.args.signals.now.items ms xs 0) (sym c.new-found.ensures.items)
    (driven-none n c.args.inbound c.args.travel.now.items c.args.cycle c.args.signals.now.items ms e cycles)

pub loop-place-preserved : goal.loop-place-preserved
loop-place-preserved c = λ n ms e cycles.
    let l = c.loop-place in
    let pushed : c.push.new.self.items ≡ l.found.items ++ c.arc_at.result ∷ [] = c.in-Ok.ensures.items in
    let at : c.index.result.now ≡ get_or c.args.signals.now.items l.place c.index.result.now = c.index.ensures in
    let is : ArcIs (get_or c.args.signals.now.items l.place c.index.result.now) c.passed_after-after.result c.args.cycle c.arc_at.result =
    subst (λ (s : Signal). ArcIs s c.passed_after-after.result c.args.cycle c.arc_at.result) at c.arc_at.ensures in
    subst (λ (xs : List Arc). Driven n c.args.inbound c.args.travel.now.items c.args.cycle c.args.signals.now.items ms xs (l.place + 1)) (sym pushed)
    (driven-more n c.args.inbound c.args.travel.now.items c.args.cycle c.args.signals.now.items ms l.found.items l.place c.index.result.now c.passed_after-after.result c.arc_at.result
    (omega arith) c.passed_after-after.ensures is (l.invariant n ms e cycles))

pub returns : goal.returns
returns c = λ n ms e cycles.
    driven-all n c.args.inbound c.args.travel.now.items c.args.cycle c.args.signals.now.items ms c.loop-place.found.items c.loop-place.place (omega arith) (c.loop-place.invariant n ms e cycles)

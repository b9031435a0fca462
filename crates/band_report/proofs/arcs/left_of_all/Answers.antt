use Rattle.std.proofs.Common.{◌≡◌, ◌∙◌, ◌≤◌, List, length, drop, min, ap, arith}
use Rattle.std.proofs.lemmas.List.{drop_all}
use Rattle.band_report.specs.declared.arcs.Arc.{Arc}
use Rattle.band_report.specs.Arcs.{left_of_all}
use Rattle.band_report.proofs.Leaving.{at-most}
use Rattle.band_report.proofs.arcs.left_of_all.Goals as goal

pub loop-place-init : goal.loop-place-init
loop-place-init c = record { few = omega arith; is = omega (arith, at-most c.args.cycle c.args.arcs.now.items c.args.time) }

pub returns : goal.returns
returns c =
    let arcs : List Arc = c.args.arcs.now.items in
    let past : length arcs ≤ c.loop-place.place = omega arith in
    let rest : left_of_all c.args.cycle (drop c.loop-place.place arcs) c.args.time ≡ c.args.cycle =
    ap (λ (xs : List Arc). left_of_all c.args.cycle xs c.args.time) (drop_all c.loop-place.place arcs past) in
    let few : c.loop-place.least ≤ c.args.cycle = c.loop-place.invariant.few in
    let is : left_of_all c.args.cycle arcs c.args.time ≡ min c.loop-place.least c.args.cycle = c.loop-place.invariant.is ∙ ap (min c.loop-place.least) rest in
    omega arith

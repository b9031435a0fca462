use Rattle.std.proofs.Common.{◌≡◌, ◌∙◌, ◌+◌, ◌-◌, ap, arith}
use Rattle.band_report.specs.Arcs.{first_past}
use Rattle.band_report.proofs.Leaving.{best-most, best-first, past-again}
use Rattle.band_report.proofs.band.band_of.Goals as goal

pub returns-then-best-eq0 : goal.returns-then-best-eq0
returns-then-best-eq0 c = λ time few.
    let b = c.best_of-best in
    omega (arith, best-most c.args.cycle c.args.arcs.now.items b.result.start b.result.width time c.requires.fit b.ensures few)

pub returns : goal.returns
returns c =
    let b = c.best_of-best in
    let fit = c.requires.fit in
    let before : b.result.start + (c.args.cycle - 1) ≡ b.result.start + c.args.cycle - 1 = omega (arith, fit.some) in
    record {
      starts = b.ensures.starts;
      some = omega arith;
      width = b.ensures.is;
      most = λ time few. best-most c.args.cycle c.args.arcs.now.items b.result.start b.result.width time fit b.ensures few;
      first = λ time few is. best-first c.args.cycle c.args.arcs.now.items b.result.start b.result.width time fit b.ensures (omega arith) few is;
      before = c.first_past.ensures ∙ ap (first_past c.args.cycle c.args.arcs.now.items) c.turned.ensures.is
          ∙ past-again c.args.cycle c.args.arcs.now.items (b.result.start + (c.args.cycle - 1)) ∙ ap (first_past c.args.cycle c.args.arcs.now.items) before;
      after = c.first_past-2.ensures ∙ ap (first_past c.args.cycle c.args.arcs.now.items) c.turned-2.ensures.is
          ∙ past-again c.args.cycle c.args.arcs.now.items (b.result.start + b.result.width);
    }

use Rattle.std.proofs.Common.{◌∙◌, refl, arith}
use Rattle.band_report.proofs.Driving.{legs-more}
use Rattle.band_report.proofs.arcs.round_cycle.Goals as goal

pub loop-leg-preserved : goal.loop-leg-preserved
loop-leg-preserved c = record {
  few = c.turned-total.ensures.within;
  is = c.turned-total.ensures.is ∙ legs-more c.loop-leg.total _ c.args.cycle c.args.legs.now c.loop-leg.leg-index (omega arith) c.loop-leg.invariant.is refl;
}

use Rattle.std.proofs.Common.{refl, sym, ◌∙◌, arith}
use Rattle.std.proofs.lemmas.Bool.{false≢true}
use Rattle.std.proofs.Math.ListN.{length-set}
use Rattle.sig_tables.proofs.FilledTo.{filled-none, filled-more, filled-all}
use Rattle.engine.proofs.Engine.colours.Goals as goal

pub loop-p-init : goal.loop-p-init
loop-p-init g c = record { sixteen = refl; filled = λ past w k m. filled-none _ _ _ }

pub loop-p-preserved : goal.loop-p-preserved
loop-p-preserved g c = record {
  sixteen = length-set c.loop-p.veh c.loop-p.p c.colour_after.result ∙ c.loop-p.invariant.sixteen;
  filled = λ past w k m. filled-more _ c.loop-p.veh c.loop-p.p c.colour_after.result _ (omega (arith, c.loop-p.invariant.sixteen))
      (c.loop-p.invariant.filled past w k m) (c.colour_after.ensures.after past w k m);
}

pub returns : goal.returns
returns g c = record {
  colours = λ past w k m s. filled-all _ c.loop-p.veh c.loop-p.p _ c.loop-p.invariant.sixteen
      (omega arith) (c.loop-p.invariant.filled past w k m);
  kept = λ t. absurd (false≢true (sym c.if-kept.false ∙ t));
}

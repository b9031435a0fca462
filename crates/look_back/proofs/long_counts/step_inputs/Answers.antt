use Rattle.std.proofs.Common.{arith, length-set, ◌∙◌}
use Rattle.sig_types.proofs.InTurn.{InTurn-set, InTurn-start}
use Rattle.look_back.proofs.long_counts.step_inputs.Goals as goal

pub loop-i-init : goal.loop-i-init
loop-i-init c = record { count = c.told-inputs; each = InTurn-start _ _ _ }

pub loop-i-preserved : goal.loop-i-preserved
loop-i-preserved c = record {
  count = length-set _ _ _ ∙ c.loop-i.invariant.count;
  each = InTurn-set _ _ _ _ _ _ (omega arith) c.loop-i.invariant.each
      (rw (← c.has.ensures.has, ← c.loop-i.invariant.each.rest c.loop-i.i (omega arith)) c.step.ensures);
}

pub returns : goal.returns
returns c = λ k few. c.loop-i.invariant.each.done k (omega arith)

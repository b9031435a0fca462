use Rattle.std.proofs.Common.{arith, length-set, ◌∙◌}
use Rattle.sig_types.proofs.InTurn.{InTurn-set, InTurn-start}
use Rattle.look_back.proofs.Latching.{signal-on}
use Rattle.look_back.proofs.latched.step_signals.Goals as goal

pub loop-p-init : goal.loop-p-init
loop-p-init c = record { count = c.told-cells; each = InTurn-start _ _ _ }

pub loop-p-preserved : goal.loop-p-preserved
loop-p-preserved c = record {
  count = length-set _ _ _ ∙ c.loop-p.invariant.count;
  each = InTurn-set _ _ _ _ _ _ (omega arith) c.loop-p.invariant.each (rw (← c.loop-p.invariant.each.rest c.loop-p.p (omega arith)) c.signal_step.ensures);
}

pub returns : goal.returns
returns c = λ k few. c.loop-p.invariant.each.done k (omega arith)

pub returns-then-same_signals : goal.returns-then-same_signals
returns-then-same_signals c = λ k few. rw (← c.same_signals.ensures.0 c.if-same_signals.true) (signal-on _ _ _ c.args.t.now)

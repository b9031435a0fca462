use Rattle.std.proofs.Common.{Bool, if◌then◌else◌, refl, sym, ◌∙◌, ap, arith, ◌+◌}
use Rattle.std.proofs.lemmas.Bool.{false≢true}
use Rattle.std.proofs.Math.ListN.{length-set}
use Rattle.sig_types.specs.declared.frame.Ped.TheVariants.{Walk}
use Rattle.sig_tables.proofs.Below.{phase-is}
use Rattle.tick_context.specs.Walks.{signal_seen}
use Rattle.sig_tables.proofs.FilledTo.{filled-none, filled-more, filled-all}
use Rattle.engine.proofs.Engine.signals_after.Goals as goal

pub loop-p-init : goal.loop-p-init
loop-p-init g c = record { sixteen = refl; filled = λ past begins r b. filled-none _ _ _ }

pub loop-p-preserved : goal.loop-p-preserved
loop-p-preserved g c = record {
  sixteen = length-set c.loop-p.ped c.loop-p.p c.signal_after.result ∙ c.loop-p.invariant.sixteen;
  filled = λ past begins r b. filled-more _ c.loop-p.ped c.loop-p.p c.signal_after.result _
      (omega (arith, c.loop-p.invariant.sixteen)) (c.loop-p.invariant.filled past begins r b)
      (c.signal_after.ensures.after past r
      ∙ ap (λ (x : Bool). if x then Walk else signal_seen past (c.loop-p.p + 1))
      (b (c.loop-p.p + 1) (phase-is (c.loop-p.p + 1) (omega arith) (omega arith))));
}

pub returns : goal.returns
returns g c = record {
  signals = λ past begins r b s. filled-all _ c.loop-p.ped c.loop-p.p _ c.loop-p.invariant.sixteen
      (omega arith) (c.loop-p.invariant.filled past begins r b);
  kept = λ t. absurd (false≢true (sym c.if-kept.false ∙ t));
}

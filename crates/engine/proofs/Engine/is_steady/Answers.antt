use Rattle.std.proofs.Common.{sym, ◌∙◌}
use Rattle.tick_context.proofs.Signals.{still-signals}
use Rattle.sig_types.proofs.Sets.{empty-has}
use Rattle.engine.proofs.Engine.is_steady.Goals as goal

pub returns-then-is_empty : goal.returns-then-is_empty
returns-then-is_empty g c = record {
  steady = λ past begins r b e t.
      still-signals past begins c.args.ped.now c.told-ped e
      (λ p h. sym (b p h) ∙ empty-has c.args.walks p h (c.is_empty.ensures.empty.0 c.if-is_empty.true))
      (λ p h signals. c.signals_on.ensures.stays past p r t h signals);
}

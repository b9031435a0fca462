use Rattle.std.proofs.Common.{sym, ◌∙◌}
use Rattle.sig_types.proofs.Sets.{empty-has}
use Rattle.engine.proofs.Engine.is_settled.Goals as goal

pub returns-then-is_empty : goal.returns-then-is_empty
returns-then-is_empty g c = record {
  colours = λ past p k t h. sym (k.shown.clearing p h) ∙ empty-has c.args.self.now.shown.clearing p h (c.is_empty.ensures.empty.0 c.if-is_empty.true);
  signals = λ past p k t h. sym (k.signalling p h) ∙ empty-has c.args.self.now.signalling p h (c.is_empty-then-is_empty.ensures.empty.0 t);
}

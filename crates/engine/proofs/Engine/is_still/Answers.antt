use Rattle.std.proofs.Common.{sym, ◌∙◌}
use Rattle.tick_context.proofs.Colours.{still-colours}
use Rattle.sig_types.proofs.Sets.{empty-has}
use Rattle.engine.proofs.Engine.is_still.Goals as goal

pub returns-then-is_empty-2 : goal.returns-then-is_empty-2
returns-then-is_empty-2 g c = record {
  still = λ past w k m e t.
      still-colours past w c.args.veh.now c.told-veh e
      (λ p h. sym (m.ends p h) ∙ empty-has c.args.moves.ends p h (c.is_empty.ensures.empty.0 c.if-is_empty.true))
      (λ p h. sym (m.begins p h) ∙ empty-has c.args.moves.begins p h (c.is_empty-then-is_empty.ensures.empty.0 c.if-is_empty-2.true))
      (λ p h clearing. c.clears_on.ensures.stays past p k t h clearing);
}

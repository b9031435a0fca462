use Rattle.std.proofs.Common.{sym, ◌∙◌, ap}
use denote.Enum.Bare.{same_true}
use Rattle.sig_types.specs.declared.frame.Frame.{Frame}
use Rattle.sig_types.specs.Colour.{colour_of}
use Rattle.sig_types.specs.contracts.frame.Colour.{the_type}
use Rattle.engine.proofs.Engine.keeps_colour.Goals as goal

pub returns-else-phase-gt16 : goal.returns-else-phase-gt16
returns-else-phase-gt16 g c = record {
  stays = λ past k t h.
      sym (c.runs_on.ensures.follows past k.memory k.context)
      ∙ (same_true the_type tt _ _ (sym c.eq.ensures ∙ t) ∙ ap (λ (f : Frame). colour_of f c.args.phase) k.context.frame);
}

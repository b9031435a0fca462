use Rattle.std.proofs.Common.{sym, ◌∙◌, ap}
use denote.Enum.Bare.{same_true}
use Rattle.sig_types.specs.declared.frame.Frame.{Frame}
use Rattle.sig_types.specs.Colour.{signal_of}
use Rattle.sig_tables.specs.Lesser.{Lesser, signal_runs_within}
use Rattle.sig_tables.specs.Seen.{frame_seen}
use Rattle.sig_types.specs.contracts.frame.Ped.{the_type}
use Rattle.engine.proofs.Engine.keeps_signal.Goals as goal

pub returns-else-phase-gt16 : goal.returns-else-phase-gt16
returns-else-phase-gt16 g c = record {
  stays = λ past r t h.
      sym (c.signal_on.ensures.follows past r.keeps.memory r.keeps.context
      ∙ ap (λ (l : Lesser). signal_runs_within l c.args.phase past.tables past.moments (signal_of (frame_seen past) c.args.phase))
      (c.lesser_for-lesser.ensures.lesser past r))
      ∙ (same_true the_type tt _ _ (sym c.eq.ensures ∙ t) ∙ ap (λ (f : Frame). signal_of f c.args.phase) r.keeps.context.frame);
}

use Rattle.std.proofs.Common.{sym, ◌∙◌, ap}
use denote.Enum.Bare.{same_true}
use Rattle.sig_types.specs.declared.frame.Frame.{Frame}
use Rattle.sig_types.specs.declared.frame.Mode.{Mode}
use Rattle.sig_types.specs.Colour.{signal_of}
use Rattle.sig_tables.specs.Goals.{lesser_in}
use Rattle.sig_tables.specs.Lesser.{signal_runs_within}
use Rattle.sig_tables.specs.Seen.{frame_seen}
use Rattle.sig_types.specs.contracts.frame.Ped.{the_type}
use Rattle.engine.proofs.Engine.walks_on.Goals as goal

pub returns-else-phase-gt16 : goal.returns-else-phase-gt16
returns-else-phase-gt16 g c = record {
  stays = λ past k mode t h.
      ap (λ (m : Mode). signal_runs_within (lesser_in past.tables m c.args.phase) c.args.phase past.tables past.moments (signal_of (frame_seen past) c.args.phase))
      mode
      ∙ sym (c.signal_on.ensures.follows past k.memory k.context)
      ∙ (same_true the_type tt _ _ (sym c.eq.ensures ∙ t) ∙ ap (λ (f : Frame). signal_of f c.args.phase) k.context.frame);
}

use Rattle.std.proofs.Common.{◌∙◌, ap}
use Rattle.sig_types.specs.declared.frame.Frame.{Frame}
use Rattle.sig_types.specs.declared.frame.Mode.{Mode}
use Rattle.sig_types.specs.Colour.{signal_of}
use Rattle.sig_tables.specs.declared.tables.Tables.{Tables}
use Rattle.sig_tables.specs.Goals.{is_cleared}
use Rattle.tick_context.proofs.Seen.{green-is}
use Rattle.observer.proofs.LookingBackMemory.is_cleared.Goals as goal

pub returns : goal.returns
returns c = record {
  cleared = λ past k r green.
      c.is_cleared.ensures past.moments k.frame_history (green-is _ green) (ap (λ (f : Frame). signal_of f c.args.phase) r.context.frame)
      ∙ ap (λ (t : Tables). is_cleared c.args.tick_state.now.mode t past.moments c.args.phase) r.context.tables
      ∙ ap (λ (m : Mode). is_cleared m past.tables past.moments c.args.phase) r.tick_state.mode;
}

use Rattle.std.proofs.Common.{◌∙◌, ap}
use Rattle.sig_types.specs.declared.frame.Frame.{Frame}
use Rattle.sig_types.specs.Colour.{colour_of, signal_of}
use Rattle.sig_tables.specs.declared.tables.Tables.{Tables}
use Rattle.sig_tables.specs.View.{is_served}
use Rattle.observer.proofs.LookingBackMemory.is_served.Goals as goal

pub returns : goal.returns
returns c = record {
  served = λ past k x green.
      c.is_served.ensures past.moments k.frame_history
      (ap (λ (f : Frame). colour_of f c.args.phase) x.frame) (ap (λ (f : Frame). signal_of f c.args.phase) x.frame)
      ∙ ap (λ (t : Tables). is_served t past.moments c.args.phase) x.tables;
}

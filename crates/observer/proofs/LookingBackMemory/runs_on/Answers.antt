use Rattle.std.proofs.Common.{◌≡◌, ◌-◌, get_or, ◌∙◌, ap}
use Rattle.sig_types.specs.declared.frame.Frame.{Frame}
use Rattle.sig_types.specs.declared.frame.Colour.{Colour}
use Rattle.sig_types.specs.declared.frame.Colour.TheVariants.{Green}
use Rattle.sig_types.specs.Colour.{colour_of}
use Rattle.sig_tables.specs.declared.tables.Tables.{Tables}
use Rattle.sig_tables.specs.Looking.{runs_on}
use Rattle.sig_tables.specs.Seen.{frame_seen}
use Rattle.observer.proofs.LookingBackMemory.runs_on.Goals as goal

pub returns : goal.returns
returns c = record {
  follows = λ past k x.
      let seen : get_or c.args.context.now.frame.veh (c.args.phase - 1) Green ≡ colour_of (frame_seen past) c.args.phase =
      ap (λ (f : Frame). colour_of f c.args.phase) x.frame in
      c.runs_on.ensures past.moments k.frame_history seen
      ∙ ap (λ (t : Tables). runs_on c.args.phase t past.moments (get_or c.args.context.now.frame.veh (c.args.phase - 1) Green)) x.tables
      ∙ ap (λ (s : Colour). runs_on c.args.phase past.tables past.moments s) seen;
}

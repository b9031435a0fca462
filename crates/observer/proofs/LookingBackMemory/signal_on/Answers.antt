use Rattle.std.proofs.Common.{◌≡◌, ◌-◌, get_or, ◌∙◌, ap}
use Rattle.sig_types.specs.declared.frame.Frame.{Frame}
use Rattle.sig_types.specs.declared.frame.Ped.{Ped}
use Rattle.sig_types.specs.declared.frame.Ped.TheVariants.{Walk}
use Rattle.sig_types.specs.Colour.{signal_of}
use Rattle.sig_tables.specs.declared.tables.Tables.{Tables}
use Rattle.sig_tables.specs.Lesser.{Lesser, signal_runs_within}
use Rattle.call_store.specs.Signals.{lesser_of}
use Rattle.sig_tables.specs.Seen.{frame_seen}
use Rattle.observer.proofs.LookingBackMemory.signal_on.Goals as goal

pub returns : goal.returns
returns c = record {
  follows = λ past k x.
      let seen : get_or c.args.context.now.frame.ped (c.args.phase - 1) Walk ≡ signal_of (frame_seen past) c.args.phase =
      ap (λ (f : Frame). signal_of f c.args.phase) x.frame in
      c.signal_runs_on.ensures past.moments k.frame_history seen
      ∙ ap (λ (l : Lesser). signal_runs_within l c.args.phase c.args.context.now.tables past.moments (get_or c.args.context.now.frame.ped
      (c.args.phase - 1) Walk)) c.cut_to.ensures
      ∙ ap (λ (t : Tables). signal_runs_within (lesser_of c.args.lesser) c.args.phase t past.moments (get_or c.args.context.now.frame.ped
      (c.args.phase - 1) Walk)) x.tables
      ∙ ap (λ (s : Ped). signal_runs_within (lesser_of c.args.lesser) c.args.phase past.tables past.moments s) seen;
}

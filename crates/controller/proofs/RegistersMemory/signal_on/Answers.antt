use Rattle.std.proofs.Common.{◌≡◌, ◌-◌, get_or, ◌∙◌, ap}
use Rattle.sig_types.specs.declared.frame.Frame.{Frame}
use Rattle.sig_types.specs.declared.frame.Ped.{Ped}
use Rattle.sig_types.specs.declared.frame.Ped.TheVariants.{Walk}
use Rattle.sig_types.specs.Colour.{signal_of}
use Rattle.sig_tables.specs.declared.tables.Tables.{Tables}
use Rattle.sig_tables.specs.Lesser.{signal_runs_within}
use Rattle.call_store.specs.Signals.{lesser_of}
use Rattle.sig_tables.specs.Seen.{frame_seen}
use Rattle.controller.proofs.RegistersMemory.signal_on.Goals as goal

pub returns : goal.returns
returns c = record {
  follows = λ past k x.
      let seen : get_or c.args.context.now.frame.ped (c.args.phase - 1) Walk ≡ signal_of (frame_seen past) c.args.phase =
      ap (λ (f : Frame). signal_of f c.args.phase) x.frame in
      c.next.ensures.next past.moments k.signals seen
      ∙ ap (λ (t : Tables). signal_runs_within (lesser_of c.args.lesser) c.args.phase t past.moments (get_or c.args.context.now.frame.ped
      (c.args.phase - 1) Walk)) x.tables
      ∙ ap (λ (s : Ped). signal_runs_within (lesser_of c.args.lesser) c.args.phase past.tables past.moments s) seen;
}

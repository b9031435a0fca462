use Rattle.std.proofs.Common.{sym, ap}
use Rattle.sig_types.specs.declared.frame.Ped.{Ped}
use Rattle.sig_types.specs.declared.frame.Frame.{Frame}
use Rattle.std.proofs.Common.{subst}
use Rattle.sig_types.specs.Colour.{signal_of}
use Rattle.call_store.specs.Signals.{SignalLasts}
use Rattle.controller.proofs.RegistersMemory.signal_left.Goals as goal

pub returns : goal.returns
returns c = record {
  left = λ past k keeps x some within.
      let shown = ap (λ (f : Frame). signal_of f c.args.phase) (sym x.frame) in
      subst (λ (s : Ped). SignalLasts k c.args.phase past.tables past.moments s) (sym shown)
      (c.left.ensures.left past.moments past.tables k keeps.signals shown some within);
}

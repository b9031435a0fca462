use Rattle.std.proofs.Common.{◌≡◌, sym, ◌∙◌, ap, subst}
use Rattle.sig_types.specs.declared.frame.Ped.{Ped}
use Rattle.sig_types.specs.declared.frame.Ped.TheVariants.{Walk, Flash, Dont}
use Rattle.sig_types.specs.declared.frame.Frame.{Frame}
use Rattle.sig_types.specs.Colour.{signal_of}
use Rattle.sig_tables.specs.Seen.{frame_seen}
use Rattle.call_store.specs.Signals.{SignalLasts}
use Rattle.observer.proofs.LookingBackMemory.signal_left.Goals as goal

pub returns-in-Dont : goal.returns-in-Dont
returns-in-Dont c = record {
  left = λ past k keeps x some within.
      let shown : signal_of (frame_seen past) c.args.phase ≡ Dont = ap (λ (f : Frame). signal_of f c.args.phase) (sym x.frame) ∙ c.in-Dont.is in
      subst (λ (s : Ped). SignalLasts k c.args.phase past.tables past.moments s) (sym shown) tt;
}

pub returns-in-Walk : goal.returns-in-Walk
returns-in-Walk c = record {
  left = λ past k keeps x some within.
      let shown : signal_of (frame_seen past) c.args.phase ≡ Walk = ap (λ (f : Frame). signal_of f c.args.phase) (sym x.frame) ∙ c.in-Walk.is in
      subst (λ (s : Ped). SignalLasts k c.args.phase past.tables past.moments s) (sym shown)
      (c.signal_left.ensures.left past.moments past.tables k keeps.frame_history (sym shown) some within);
}

pub returns-in-Flash : goal.returns-in-Flash
returns-in-Flash c = record {
  left = λ past k keeps x some within.
      let shown : signal_of (frame_seen past) c.args.phase ≡ Flash = ap (λ (f : Frame). signal_of f c.args.phase) (sym x.frame) ∙ c.in-Flash.is in
      subst (λ (s : Ped). SignalLasts k c.args.phase past.tables past.moments s) (sym shown)
      (c.signal_left-in-Flash.ensures.left past.moments past.tables k keeps.frame_history (sym shown) some within);
}

use Rattle.std.proofs.Common.{sym, ap}
use Rattle.sig_types.specs.declared.frame.Frame.{Frame}
use Rattle.look_back.proofs.Latching.{colours-step, signals-step}
use Rattle.look_back.proofs.latched.Latched.step.Goals as goal

pub returns : goal.returns
returns c = λ past m stands frame tables. record {
  veh = ap (λ (f : Frame). f.veh) (sym frame);
  ped = ap (λ (f : Frame). f.ped) (sym frame);
  colours = colours-step _ _ _ _ _ past m c.step_colours.ensures stands.veh (ap (λ (f : Frame). f.veh) frame) tables stands.colours;
  signals = signals-step _ _ _ _ _ past m c.step_signals.ensures stands.ped (ap (λ (f : Frame). f.ped) frame) tables stands.signals;
}

use Rattle.std.proofs.Common.{sym, ap}
use Rattle.sig_types.specs.declared.frame.Frame.{Frame}
use Rattle.look_back.proofs.counting.Counting.step.Goals as goal

pub returns : goal.returns
returns c = λ past m stands frame. record {
  mode = ap (λ (f : Frame). f.mode) (sym frame);
  version = ap (λ (f : Frame). f.version) (sym frame);
  count = c.count_after-count.ensures past m stands frame;
}

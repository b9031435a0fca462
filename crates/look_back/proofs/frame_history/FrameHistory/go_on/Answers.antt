use Rattle.std.proofs.Common.{◌∷◌}
use Rattle.look_back.proofs.Again.{latched-again}
use Rattle.look_back.proofs.frame_history.FrameHistory.go_on.Goals as goal

pub returns : goal.returns
returns c = λ last before ms looks few fits all. record {
  window = c.push_again.ensures.stands last before ms looks.window few all;
  latched = latched-again _ c.args.active c.args.opposed ms (last ∷ before) looks.latched all;
  long_counts = c.step_again.ensures c.args.active c.args.opposed (last ∷ before) ms looks.long_counts few all;
  counting = c.step_again-self.ensures c.args.active c.args.opposed last before ms looks.counting few fits all;
}

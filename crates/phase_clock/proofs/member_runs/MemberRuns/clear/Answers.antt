use Rattle.std.proofs.Common.{refl, sym, ◌∙◌}
use Rattle.std.proofs.lemmas.Bool.{false≢true}
use Rattle.phase_clock.proofs.member_runs.MemberRuns.clear.Goals as goal

pub returns : goal.returns
returns c = λ test past m p last e. record {
  inside = λ h. absurd (false≢true (sym (c.empty-self.ensures.has p) ∙ h));
  outside = λ h. rw e refl;
}

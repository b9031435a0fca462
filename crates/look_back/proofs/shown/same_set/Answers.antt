use Rattle.std.proofs.Common.{sym, ◌∙◌, ap}
use Rattle.std.proofs.lemmas.Bool.Decides.{Decides-eqb}
use Rattle.sig_types.specs.declared.phase_set.PhaseSet.{PhaseSet}
use Rattle.look_back.proofs.Same.{one-set}
use Rattle.look_back.proofs.shown.same_set.Goals as goal

pub returns : goal.returns
returns c = (
  λ h. one-set c.args.a c.args.b (sym c.eq.ensures ∙ h),
  λ e. c.eq.ensures ∙ (Decides-eqb c.args.a.0 c.args.b.0).1 (ap (λ (s : PhaseSet). s.0) e),
)

use Rattle.std.proofs.Common.{◌&&◌, not, Bool, refl, ◌∙◌, ap}
use Rattle.sig_types.specs.PhaseSet.{has}
use Rattle.sig_types.proofs.Lists.{phase-in}
use Rattle.sig_types.proofs.phase_set.PhaseSet.without.Goals as goal

pub returns : goal.returns
returns c = λ p is.
    c.minus.ensures.has p (phase-in p is).1
    ∙ ap (λ (b : Bool). has c.args.self p && not b)
    (c.with.ensures.has p (phase-in p is).0 (phase-in p is).1 ∙ rw (c.empty.ensures.has p) refl)

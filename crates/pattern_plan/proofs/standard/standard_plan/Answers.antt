use Rattle.std.proofs.Common.{refl}
use Rattle.sig_tables.specs.Standard.{std8, standard}
use Rattle.pattern_plan.proofs.standard.standard_plan.Goals as goal

pub returns-clause-held : goal.returns-clause-held
unfolding std8 standard
returns-clause-held c = refl

pub returns-clause-force : goal.returns-clause-force
unfolding std8 standard
returns-clause-force c = refl

pub returns-clause-permissive : goal.returns-clause-permissive
unfolding std8 standard
returns-clause-permissive c = refl

pub returns-clause-window : goal.returns-clause-window
unfolding std8 standard
returns-clause-window c = refl

pub returns-clause-float : goal.returns-clause-float
unfolding std8 standard
returns-clause-float c = refl

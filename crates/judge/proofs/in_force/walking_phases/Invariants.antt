use Rattle.std.proofs.Common.{◌-◌, get_or, not}
use Rattle.sig_types.specs.declared.frame.Ped.TheVariants.{Walk, Dont}
use Rattle.sig_types.specs.Colour.{same_signal}
use Rattle.sig_tables.proofs.Below.{Below}
use Rattle.judge.proofs.in_force.walking_phases.Given as goal

abbrev pub invariant-loop-phase : goal.invariant-loop-phase
invariant-loop-phase l = Below l.set l.phase (λ p. not (same_signal (get_or l.signals (p - 1) Walk) Dont))

use Rattle.std.proofs.Common.{◌-◌, get_or, not}
use Rattle.sig_types.specs.declared.frame.Colour.TheVariants.{Green, Red}
use Rattle.sig_types.specs.Colour.{same_colour}
use Rattle.sig_tables.proofs.Below.{Below}
use Rattle.judge.proofs.in_force.lit_phases.Given as goal

abbrev pub invariant-loop-phase : goal.invariant-loop-phase
invariant-loop-phase l = Below l.set l.phase (λ p. not (same_colour (get_or l.colours (p - 1) Green) Red))

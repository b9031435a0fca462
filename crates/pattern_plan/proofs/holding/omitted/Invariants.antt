use Rattle.std.proofs.Common.{◌==◌}
use Rattle.sig_tables.specs.Slots.{split_entry}
use Rattle.sig_tables.proofs.Below.{Below}
use Rattle.pattern_plan.proofs.holding.omitted.Given as goal

abbrev pub invariant-loop-phase : goal.invariant-loop-phase
invariant-loop-phase l = Below l.set l.phase (λ p. (split_entry l.tables l.pattern p).mode == 7)

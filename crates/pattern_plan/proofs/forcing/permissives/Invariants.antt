use Rattle.sig_tables.specs.Slots.{permissive_end}
use Rattle.sig_tables.proofs.Filled.{Filled}
use Rattle.pattern_plan.proofs.forcing.permissives.Given as goal

abbrev pub invariant-loop-phase : goal.invariant-loop-phase
invariant-loop-phase l = Filled 0 (permissive_end l.tables l.pattern) l.ends l.phase

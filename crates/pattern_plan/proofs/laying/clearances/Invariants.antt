use Rattle.sig_tables.specs.Tables.{clearance}
use Rattle.sig_tables.proofs.Filled.{Filled}
use Rattle.pattern_plan.proofs.laying.clearances.Given as goal

abbrev pub invariant-loop-phase : goal.invariant-loop-phase
invariant-loop-phase l = Filled 0 (clearance l.tables) l.times l.phase

use Rattle.sig_tables.specs.Slots.{least_service}
use Rattle.sig_tables.proofs.Filled.{Filled}
use Rattle.pattern_plan.proofs.laying.services.Given as goal

abbrev pub invariant-loop-phase : goal.invariant-loop-phase
invariant-loop-phase l = Filled 0 (least_service l.tables) l.times l.phase

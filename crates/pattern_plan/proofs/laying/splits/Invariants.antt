use Rattle.sig_tables.specs.Slots.{split_time}
use Rattle.sig_tables.proofs.Filled.{Filled}
use Rattle.pattern_plan.proofs.laying.splits.Given as goal

abbrev pub invariant-loop-phase : goal.invariant-loop-phase
invariant-loop-phase l = Filled 0 (split_time l.tables l.pattern) l.times l.phase

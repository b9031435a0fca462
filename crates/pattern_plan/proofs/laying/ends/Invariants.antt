use Rattle.sig_tables.proofs.Filled.{Filled}
use Rattle.pattern_plan.specs.LayoutStands.{enabled_end}
use Rattle.pattern_plan.proofs.laying.ends.Given as goal

abbrev pub invariant-loop-phase : goal.invariant-loop-phase
invariant-loop-phase l = Filled 0 (enabled_end l.ring_layout.tables.now l.pattern) l.ends l.phase

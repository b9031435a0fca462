use Rattle.sig_tables.specs.Slots.{force_point}
use Rattle.sig_tables.proofs.Filled.{Filled}
use Rattle.pattern_plan.specs.LayoutStands.{Measures}
use Rattle.pattern_plan.proofs.forcing.forces.Given as goal

abbrev pub invariant-loop-phase : goal.invariant-loop-phase
invariant-loop-phase l = record {
  each : Filled 0 (force_point l.ring_layout.tables.now l.pattern) l.forces l.phase;
  side : Measures l.side l.ends l.clears;
}

use Rattle.std.proofs.Common.{◌==◌, ◌-◌, get_or}
use Rattle.sig_tables.specs.Cells.{missing_entry}
use Rattle.sig_tables.proofs.Below.{Below}
use Rattle.pattern_plan.proofs.split_options.with_mode.Given as goal

abbrev pub invariant-loop-phase : goal.invariant-loop-phase
invariant-loop-phase l = Below l.set l.phase (λ p. (get_or l.entries (p - 1) missing_entry).mode == l.mode)

use Rattle.std.proofs.Common.{◌≡◌, length, ◌-◌}
use Rattle.sig_tables.specs.Slots.{least_service}
use Rattle.sig_tables.proofs.FilledTo.{FilledTo}
use Rattle.tick_context.proofs.active_pattern.services.Given as goal

abbrev pub invariant-loop-phase : goal.invariant-loop-phase
invariant-loop-phase l = record {
  sixteen : length l.services ≡ 16;
  filled : FilledTo 0 l.services (l.phase - 1) (least_service l.tables);
}

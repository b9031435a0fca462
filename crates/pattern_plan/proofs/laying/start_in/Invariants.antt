use Rattle.std.proofs.Common.{◌≡◌, ◌≤◌, ◌+◌, ◌*◌, drop}
use Rattle.sig_tables.specs.Sums.{sum_of, before}
use Rattle.sig_tables.specs.Laying.{time_of}
use Rattle.pattern_plan.proofs.laying.start_in.Given as goal

abbrev pub invariant-loop-octet : goal.invariant-loop-octet
invariant-loop-octet l = record {
  few : l.start ≤ 2550 * l.octet-index;
  so_far : l.start + sum_of (time_of l.entries) (before l.phase (drop l.octet-index l.order)) ≡ sum_of (time_of l.entries) (before l.phase l.order);
}

use Rattle.std.proofs.Common.{◌≤◌, ◌*◌}
use Rattle.controller.specs.ControllerStands.{tick_count}
use Rattle.timing_cases.proofs.controller_cases.strides.Given as goal

abbrev pub invariant-loop-k : goal.invariant-loop-k
invariant-loop-k l = tick_count l.controller ≤ 2000 * l.k

use Rattle.std.proofs.Common.{◌≡◌}
use Rattle.controller.specs.ControllerStands.{tick_count}
use Rattle.timing_cases.proofs.controller_cases.frame_at.Given as goal

abbrev pub invariant-loop-tick : goal.invariant-loop-tick
invariant-loop-tick l = tick_count l.controller ≡ l.tick

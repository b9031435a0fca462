use Rattle.std.proofs.Common.{◌≡◌, []}
use Rattle.field_read.specs.Checks.{upto, step_fault}
use Rattle.field_read.proofs.across.steps_rise.Given as goal

-- the steps before this one fit
abbrev pub invariant-loop-step : goal.invariant-loop-step
invariant-loop-step l = upto (step_fault l.section l.steps.items) l.step ≡ []

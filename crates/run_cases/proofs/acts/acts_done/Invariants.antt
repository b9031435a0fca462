use Rattle.std.proofs.Common.{◌≡◌, ◌+◌}
use Rattle.cab_row.specs.Passes.{IsPassOf, remains}
use Rattle.run_cases.proofs.acts.acts_done.Given as goal

abbrev pub invariant-loop-done : goal.invariant-loop-done
invariant-loop-done g l = IsPassOf g.row.B.coded.code g.B.Logged.left_of l.row l.pass × (l.done + remains l.row l.pass l.cab ≡ remains l.row l.initial.pass l.cab)

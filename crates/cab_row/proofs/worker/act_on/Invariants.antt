use Rattle.std.proofs.Common.{◌≡◌, ◌≤◌}
use Rattle.cab_row.specs.Passes.{IsPassOf, remains}
use Rattle.cab_row.proofs.worker.act_on.Given as goal

abbrev pub invariant-loop-left : goal.invariant-loop-left
invariant-loop-left g l = IsPassOf g.row.B.coded.code g.B.Logged.left_of l.row l.pass × (l.pass.number ≡ l.fn.pass.number) × (l.left ≡ remains l.row l.pass l.cab) × (1 ≤ l.most) × (l.most ≤ 4096)

abbrev pub decreases-loop-left : goal.decreases-loop-left
decreases-loop-left g l = l.left

use Rattle.std.proofs.Common.{◌≡◌, vec_len}
use Rattle.cab_row.specs.Hands.{IsReady}
use Rattle.cab_row.proofs.worker.work.Given as goal

abbrev pub invariant-loop : goal.invariant-loop
invariant-loop g l = IsReady g.row.B.coded.code g.B.Logged.left_of l.row l.worker × (vec_len l.worker.passes ≡ vec_len l.fn.worker.passes)

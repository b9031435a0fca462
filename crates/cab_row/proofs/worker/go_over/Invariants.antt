use Rattle.std.proofs.Common.{◌≡◌, vec_len}
use Rattle.cab_row.specs.Hands.{IsReady}
use Rattle.cab_row.proofs.worker.go_over.Given as goal

abbrev pub invariant-loop-cab : goal.invariant-loop-cab
invariant-loop-cab g l = IsReady g.row.B.coded.code g.B.Logged.left_of l.row l.worker × (vec_len l.worker.passes ≡ vec_len l.fn.worker.passes)

abbrev pub invariant-loop-k : goal.invariant-loop-k
invariant-loop-k g l = IsReady g.row.B.coded.code g.B.Logged.left_of l.row l.worker × (vec_len l.worker.passes ≡ vec_len l.fn.worker.passes)

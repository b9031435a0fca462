use Rattle.std.proofs.Common.{◌≡◌, ◌+◌, All, vec_len, vec_capacity}
use Rattle.cab_row.specs.Passes.{IsPassOf}
use Rattle.cab_row.specs.Hands.{IsReady, passes_in}
use Rattle.cab_row.proofs.hands.collect.Given as goal

abbrev pub invariant-loop-worker : goal.invariant-loop-worker
invariant-loop-worker g l = let L = g.B.Logged in All (IsReady g.row.B.coded.code L.left_of l.row) l.workers.items × All (IsPassOf g.row.B.coded.code L.left_of l.row) l.list.items
    × (vec_len l.list + passes_in l.workers.items ≡ passes_in l.initial.workers.items) × (vec_capacity l.list ≡ vec_capacity l.initial.list)

abbrev pub decreases-loop-worker : goal.decreases-loop-worker
decreases-loop-worker g l = vec_len l.workers

use Rattle.std.proofs.Common.{◌≡◌, ◌+◌, All, vec_len, vec_capacity}
use Rattle.cab_row.specs.Passes.{IsPassOf}
use Rattle.cab_row.specs.Hands.{IsReady, InTurn, passes_in}
use Rattle.cab_row.proofs.hands.hand_out.Given as goal

abbrev pub invariant-loop-pass : goal.invariant-loop-pass
invariant-loop-pass g l = let L = g.B.Logged in All (IsReady g.row.B.coded.code L.left_of l.row) l.workers.items × All (IsPassOf g.row.B.coded.code L.left_of l.row) l.list.items
    × (passes_in l.workers.items + vec_len l.list ≡ vec_len l.initial.list) × (vec_len l.workers ≡ vec_len l.initial.workers) × (vec_capacity l.list ≡ vec_capacity l.initial.list) × InTurn (vec_len l.initial.workers) l.workers.items

abbrev pub decreases-loop-pass : goal.decreases-loop-pass
decreases-loop-pass g l = vec_len l.list

use Rattle.std.proofs.Common.{◌≡◌, ◌+◌, All, vec_len, vec_capacity}
use Rattle.cab_row.specs.Passes.{IsPassOf}
use Rattle.cab_row.proofs.hands.take_all.Given as goal

abbrev pub invariant-loop-pass : goal.invariant-loop-pass
invariant-loop-pass g l = let L = g.B.Logged in All (IsPassOf g.row.B.coded.code L.left_of l.row) l.passes.items × All (IsPassOf g.row.B.coded.code L.left_of l.row) l.list.items
    × (vec_len l.list + vec_len l.passes ≡ vec_len l.initial.list + vec_len l.initial.passes) × (vec_capacity l.list ≡ vec_capacity l.initial.list)

abbrev pub decreases-loop-pass : goal.decreases-loop-pass
decreases-loop-pass g l = vec_len l.passes

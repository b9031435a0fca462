use Rattle.std.proofs.Common.{◌≡◌, ℕ, ◌+◌, ◌<◌, [], length, vec_len, None, All}
use Rattle.cab_row.specs.Views.{total, owns, count}
use Rattle.cab_row.specs.Passes.{view_of, IsPassOf}
use Rattle.cab_row.proofs.close.gather.Given as goal

abbrev pub invariant-loop-pass : goal.invariant-loop-pass
invariant-loop-pass g l = (l.seat.table_id ≡ l.row.table.shared.table_id) × (l.seat.me.1 ≡ []) × (l.seat.me.0.holds ≡ None) × (0 < owns l.seat.me.0.number l.seat.me.0)
    × All (IsPassOf g.row.B.coded.code g.B.Logged.left_of l.row) l.passes.items × (length l.seat.me.0.numbers + vec_len l.passes ≡ vec_len l.fn.passes)
    × ((p : ℕ) → owns p l.seat.me.0 + total (λ x. owns p (view_of x)) l.passes.items ≡ total (λ x. owns p (view_of x)) l.fn.passes.items)
    × ((p c : ℕ) → count p c l.seat.me.0 + total (λ x. count p c (view_of x)) l.passes.items ≡ total (λ x. count p c (view_of x)) l.fn.passes.items)

abbrev pub decreases-loop-pass : goal.decreases-loop-pass
decreases-loop-pass g l = vec_len l.passes

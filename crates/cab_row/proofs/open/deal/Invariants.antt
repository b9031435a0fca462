use Rattle.std.proofs.Common.{◌≡◌, ◌+◌, [], map, vec_len, vec_capacity}
use Rattle.cab_row.specs.Views.{dealing}
use Rattle.cab_row.specs.Passes.{books_of, AreNew}
use Rattle.cab_row.proofs.open.deal.Given as goal

abbrev pub invariant-loop-number : goal.invariant-loop-number
invariant-loop-number g l = (l.first.table_id ≡ l.row.table.shared.table_id) × (l.first.me ≡ (dealing (map g.row.B.coded.code (books_of l.row)) l.row.passes l.number, []))
    × AreNew g.row.B.coded.code g.B.Logged.left_of l.row 1 l.list.items × (vec_len l.list + 1 ≡ l.number) × (vec_capacity l.list ≡ vec_capacity l.initial.list)

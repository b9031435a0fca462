-- The test whether there is a cell says that there is one.
use Rattle.std.proofs.Common.{◌≡◌, ◌↔◌, true, arith, rules}
use Rattle.std.proofs.lemmas.Bool.Decides.{nat_tests}
use Rattle.sig_tables.specs.declared.cells.Cell.{Cell}
use Rattle.sig_tables.specs.declared.cells.Cell.TheVariants.{Phase, Sequence, Split, Pattern, Preempt, Unit as UnitCell}
use Rattle.sig_tables.specs.Cells.{IsCell, is_cell}

pub is-cell-true : (cell : Cell) → is_cell cell ≡ true → IsCell cell
is-cell-true (Phase p c) t = search (rules, nat_tests)
is-cell-true (Sequence s r) t = search (rules, nat_tests)
is-cell-true (Split s p c) t = search (rules, nat_tests)
is-cell-true (Pattern n c) t = search (rules, nat_tests)
is-cell-true (Preempt i c) t = search (rules, nat_tests)
is-cell-true (UnitCell n) t = search (rules, nat_tests)

pub is-cell-from : (cell : Cell) → IsCell cell → is_cell cell ≡ true
is-cell-from (Phase p c) i = grind (arith, nat_tests)
is-cell-from (Sequence s r) i = grind (arith, nat_tests)
is-cell-from (Split s p c) i = grind (arith, nat_tests)
is-cell-from (Pattern n c) i = grind (arith, nat_tests)
is-cell-from (Preempt n c) i = grind (arith, nat_tests)
is-cell-from (UnitCell n) i = grind (arith, nat_tests)

pub is-cell-tells : (cell : Cell) → (is_cell cell ≡ true) ↔ IsCell cell
is-cell-tells cell = (is-cell-true cell, is-cell-from cell)

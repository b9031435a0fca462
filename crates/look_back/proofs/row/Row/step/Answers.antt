use Rattle.std.proofs.Common.{arith, refl}
use Rattle.look_back.proofs.Numbers.{row-more, row-ends}
use Rattle.look_back.proofs.row.Row.step.Goals as goal

pub returns-then-is_so : goal.returns-then-is_so
returns-then-is_so c = rw c.if-is_so.true (row-more c.args.self _ (omega (arith, c.saturating_add.ensures)))

pub returns-else-is_so : goal.returns-else-is_so
returns-else-is_so c = rw c.if-is_so.false (row-ends c.args.self _ refl)

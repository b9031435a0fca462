use Rattle.std.proofs.Common.{arith}
use Rattle.std.proofs.lemmas.Nat.{mul-le}
use Rattle.master_plan.proofs.clock_after.Goals as goal

pub overflow_add-result : goal.overflow_add-result
overflow_add-result c = omega (arith, mul-le c.from.result c.from-2.result 4294967295 4294967295 (omega arith) (omega arith))

use Rattle.std.proofs.Common.{suc, arith}
use Rattle.std.proofs.lemmas.Int.{ints}
use Rattle.trace_text.proofs.Reading.{some_reads, none_reads}
use Rattle.trace_text.proofs.BelowZero.{some_below, none_below}
use Rattle.trace_text.proofs.numbers.below_zero.Goals as goal

pub returns-in-Some : goal.returns-in-Some
returns-in-Some c =
    let low = c.in-Some.ensures.value.0 in
    some_below _ c.in-Some.n c.if-n-gt0.true c.in-Some.ensures _ (omega (arith, ints, low, c.from.ensures))

pub returns-in-Some-2 : goal.returns-in-Some-2
returns-in-Some-2 c = none_below _ (λ n low e. let same = some_reads c.in-Some.ensures (suc n) low e in omega (arith, same, c.if-n-gt0.false))

pub returns-in-None : goal.returns-in-None
returns-in-None c = none_below _ (λ n low e. none_reads c.in-None.ensures (suc n) low e)

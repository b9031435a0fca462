use Rattle.std.proofs.Common.{◌≤◌, ◌+◌, length, arith}
use Rattle.runnable.proofs.Numbered.{can-open, from-first, to-last}
use Rattle.runnable.proofs.cabinets_are_numbered.Goals as goal

pub returns-clause-from_1 : goal.returns-clause-from_1
returns-clause-from_1 c = λ s cab d is. from-first cab 1 d s.cabinets is

pub returns-clause-to_last : goal.returns-clause-to_last
returns-clause-to_last c = λ s cab d is. let l : cab + 1 ≤ 1 + length s.cabinets = to-last cab 1 d s.cabinets is in omega (arith, l)

pub returns-clause-opens : goal.returns-clause-opens
returns-clause-opens c = λ s cab d all is. can-open cab 1 d s.cabinets is all

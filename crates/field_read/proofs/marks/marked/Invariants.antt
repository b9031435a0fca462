use Rattle.std.proofs.Common.{◌≡◌, [], take}
use Rattle.field_read.specs.Checks.{upto, bank_fault}
use Rattle.field_read.specs.Places.{Marks}
use Rattle.field_read.proofs.marks.marked.Given as goal

-- the detectors before this one are marked, and none of them appears twice
abbrev pub invariant-loop-place : goal.invariant-loop-place
invariant-loop-place l = (upto (bank_fault l.bank.items) l.place ≡ []) × Marks l.marks (take l.place l.bank.items)

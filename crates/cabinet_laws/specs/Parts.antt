-- The numbers of the parts of a download, by the answered calls, of which the newest is first.
use Rattle.std.specs.Prelude.{ℕ, zero, suc, List, [], ◌∷◌, ◌++◌}
use Rattle.sig_types.specs.declared.notes.StageAnswer.{StageAnswer}
use Rattle.sig_types.specs.declared.notes.StageAnswer.TheVariants.{Staged}
use Rattle.stage_txn.specs.Calls.{Call, Begin, Part, Answered}

-- these numbers and that of one more part, if it was taken; none after a begin
abbrev pub with_number : Call → StageAnswer → List ℕ → List ℕ
with_number (Begin id in_force) Staged numbers = []
with_number (Part id number cells) Staged numbers = numbers ++ number ∷ []
with_number _ _ numbers = numbers

-- the numbers of the parts taken since the last begin, in order
abbrev pub numbers : List Answered → List ℕ
numbers [] = []
numbers (a ∷ past) = with_number a.call a.answer (numbers past)

-- the numbers from 1 to n
abbrev pub up_to : ℕ → List ℕ
up_to zero = []
up_to (suc n) = up_to n ++ suc n ∷ []

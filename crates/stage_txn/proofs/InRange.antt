-- What a call puts into the staged tables leaves every cell in its range.
use Rattle.std.proofs.Common.{ℕ, List, [], ◌∷◌}
use Rattle.sig_types.specs.declared.notes.StageAnswer.{StageAnswer}
use Rattle.sig_types.specs.declared.notes.StageAnswer.TheVariants.{Staged, Repeated, Verified, Accepted, WrongToken, WrongPart, NotVerified, Refused}
use Rattle.sig_tables.specs.declared.tables.Tables.{Tables}
use Rattle.sig_tables.specs.declared.cells.Cell.{Cell}
use Rattle.sig_tables.specs.Cells.{Content}
use Rattle.sig_tables.specs.Putting.{EachFits}
use Rattle.sig_tables.proofs.Fitting.{cells-fit}
use Rattle.sig_tables.proofs.StandardFits.{std8-fits}
use Rattle.stage_txn.specs.Calls.{Call, Begin, Part, Verify, Finish, Deed, begin_deed, part_deed, verify_deed, finish_deed, deeds, staged_by}
use Rattle.stage_txn.specs.Answers.{answered, answer_to, staged}
use Rattle.stage_txn.specs.Laws.{BeginInRange}

-- after a begin, a part, a verify and a finish with any answer
begin-fits : (id : ℕ) (in_force : Tables) (a : StageAnswer) (past : List Deed) → EachFits in_force → EachFits (staged_by past)
    → EachFits (staged_by (begin_deed id in_force a ∷ past))
begin-fits id in_force Staged past now before = now
begin-fits id in_force Repeated past now before = before
begin-fits id in_force Verified past now before = before
begin-fits id in_force Accepted past now before = before
begin-fits id in_force WrongToken past now before = before
begin-fits id in_force (WrongPart n) past now before = before
begin-fits id in_force NotVerified past now before = before
begin-fits id in_force (Refused b) past now before = before

part-fits : (cells : List (Cell × Content)) (a : StageAnswer) (past : List Deed) → EachFits (staged_by past)
    → EachFits (staged_by (part_deed cells a ∷ past))
part-fits cells Staged past before = cells-fit (staged_by past) cells before
part-fits cells Repeated past before = before
part-fits cells Verified past before = before
part-fits cells Accepted past before = before
part-fits cells WrongToken past before = before
part-fits cells (WrongPart n) past before = before
part-fits cells NotVerified past before = before
part-fits cells (Refused b) past before = before

verify-fits : (a : StageAnswer) (past : List Deed) → EachFits (staged_by past) → EachFits (staged_by (verify_deed a ∷ past))
verify-fits Staged past before = before
verify-fits Repeated past before = before
verify-fits Verified past before = before
verify-fits Accepted past before = before
verify-fits WrongToken past before = before
verify-fits (WrongPart n) past before = before
verify-fits NotVerified past before = before
verify-fits (Refused b) past before = before

finish-fits : (a : StageAnswer) (past : List Deed) → EachFits (staged_by past) → EachFits (staged_by (finish_deed a ∷ past))
finish-fits Staged past before = before
finish-fits Repeated past before = before
finish-fits Verified past before = before
finish-fits Accepted past before = before
finish-fits WrongToken past before = before
finish-fits (WrongPart n) past before = before
finish-fits NotVerified past before = before
finish-fits (Refused b) past before = before

pub staged-fits : (calls : List Call) → BeginInRange calls → EachFits (staged (answered calls))
staged-fits [] h = std8-fits
staged-fits (Begin id in_force ∷ calls) h =
    begin-fits id in_force (answer_to (answered calls) (Begin id in_force)) (deeds (answered calls)) h.0 (staged-fits calls h.1)
staged-fits (Part id number cells ∷ calls) h =
    part-fits cells (answer_to (answered calls) (Part id number cells)) (deeds (answered calls)) (staged-fits calls h)
staged-fits (Verify id total in_force flashing ∷ calls) h =
    verify-fits (answer_to (answered calls) (Verify id total in_force flashing)) (deeds (answered calls)) (staged-fits calls h)
staged-fits (Finish id in_force flashing ∷ calls) h =
    finish-fits (answer_to (answered calls) (Finish id in_force flashing)) (deeds (answered calls)) (staged-fits calls h)

-- The parts that are taken of a download are those from 1 on, each once and in order.
use Rattle.std.proofs.Common.{◌≡◌, ℕ, ◌+◌, ◌∙◌, List, [], ◌∷◌, ◌++◌, refl, ap, add-one}
use Rattle.sig_types.specs.declared.notes.StageAnswer.{StageAnswer}
use Rattle.sig_types.specs.declared.notes.StageAnswer.TheVariants.{Staged, Repeated, Verified, Accepted, WrongToken, WrongPart, NotVerified, Refused}
use Rattle.sig_tables.specs.declared.tables.Tables.{Tables}
use Rattle.sig_tables.specs.declared.cells.Cell.{Cell}
use Rattle.sig_tables.specs.Cells.{Content}
use Rattle.stage_txn.specs.Calls.{Call, Answered, Begin, Part, Verify, Finish, Deed, deeds, taken_by, begin_deed, part_deed, verify_deed, finish_deed}
use Rattle.stage_txn.specs.Answers.{answered, answer_to, taken}
use Rattle.stage_txn.specs.Laws.{PartsComeInOrder}
use Rattle.cabinet_laws.specs.Parts.{with_number, numbers, up_to}

begin-numbered : (id : ℕ) (now : Tables) (a : StageAnswer) (ns : List ℕ) (past : List Deed) → ns ≡ up_to (taken_by past)
    → with_number (Begin id now) a ns ≡ up_to (taken_by (begin_deed id now a ∷ past))
begin-numbered id now Staged ns past e = refl
begin-numbered id now Repeated ns past e = e
begin-numbered id now Verified ns past e = e
begin-numbered id now Accepted ns past e = e
begin-numbered id now WrongToken ns past e = e
begin-numbered id now (WrongPart n) ns past e = e
begin-numbered id now NotVerified ns past e = e
begin-numbered id now (Refused b) ns past e = e

one-more : (k : ℕ) → up_to k ++ (k + 1) ∷ [] ≡ up_to (k + 1)
one-more k = rw (add-one k) refl

part-numbered : (id number : ℕ) (cells : List (Cell × Content)) (a : StageAnswer) (ns : List ℕ) (past : List Deed)
    → (a ≡ Staged → number ≡ taken_by past + 1) → ns ≡ up_to (taken_by past)
    → with_number (Part id number cells) a ns ≡ up_to (taken_by (part_deed cells a ∷ past))
part-numbered id number cells Staged ns past next e =
    ap (λ (x : List ℕ). x ++ number ∷ []) e ∙ ap (λ (k : ℕ). up_to (taken_by past) ++ k ∷ []) (next refl) ∙ one-more (taken_by past)
part-numbered id number cells Repeated ns past next e = e
part-numbered id number cells Verified ns past next e = e
part-numbered id number cells Accepted ns past next e = e
part-numbered id number cells WrongToken ns past next e = e
part-numbered id number cells (WrongPart n) ns past next e = e
part-numbered id number cells NotVerified ns past next e = e
part-numbered id number cells (Refused b) ns past next e = e

verify-numbered : (a : StageAnswer) (ns : List ℕ) (past : List Deed) → ns ≡ up_to (taken_by past) → ns ≡ up_to (taken_by (verify_deed a ∷ past))
verify-numbered Staged ns past e = e
verify-numbered Repeated ns past e = e
verify-numbered Verified ns past e = e
verify-numbered Accepted ns past e = e
verify-numbered WrongToken ns past e = e
verify-numbered (WrongPart n) ns past e = e
verify-numbered NotVerified ns past e = e
verify-numbered (Refused b) ns past e = e

finish-numbered : (a : StageAnswer) (ns : List ℕ) (past : List Deed) → ns ≡ up_to (taken_by past) → ns ≡ up_to (taken_by (finish_deed a ∷ past))
finish-numbered Staged ns past e = e
finish-numbered Repeated ns past e = e
finish-numbered Verified ns past e = e
finish-numbered Accepted ns past e = e
finish-numbered WrongToken ns past e = e
finish-numbered (WrongPart n) ns past e = e
finish-numbered NotVerified ns past e = e
finish-numbered (Refused b) ns past e = e

pub parts-numbered : ((past : List Answered) → PartsComeInOrder past) → (calls : List Call) → numbers (answered calls) ≡ up_to (taken (answered calls))
parts-numbered order [] = refl
parts-numbered order (Begin id now ∷ calls) =
    begin-numbered id now (answer_to (answered calls) (Begin id now)) (numbers (answered calls)) (deeds (answered calls)) (parts-numbered order calls)
parts-numbered order (Part id number cells ∷ calls) =
    part-numbered id number cells (answer_to (answered calls) (Part id number cells)) (numbers (answered calls)) (deeds (answered calls))
    (λ e. (order (answered calls) id number cells e).part) (parts-numbered order calls)
parts-numbered order (Verify id total now flashing ∷ calls) =
    verify-numbered (answer_to (answered calls) (Verify id total now flashing)) (numbers (answered calls)) (deeds (answered calls)) (parts-numbered order calls)
parts-numbered order (Finish id now flashing ∷ calls) =
    finish-numbered (answer_to (answered calls) (Finish id now flashing)) (numbers (answered calls)) (deeds (answered calls)) (parts-numbered order calls)

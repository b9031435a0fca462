-- The calls of a download stage with their answers, and what follows from them. Lists have the newest first.
use Rattle.std.specs.Prelude.{ℕ, ◌+◌, Bool, List, [], ◌∷◌}
use Rattle.sig_types.specs.declared.notes.StageAnswer.{StageAnswer}
use Rattle.sig_types.specs.declared.notes.StageAnswer.TheVariants.{Staged, Verified, Accepted, Refused}
use Rattle.sig_tables.specs.declared.tables.Tables.{Tables}
use Rattle.sig_tables.specs.declared.cells.Cell.{Cell}
use Rattle.sig_tables.specs.Cells.{Content}
use Rattle.sig_tables.specs.Putting.{with_cells}
use Rattle.sig_tables.specs.Standard.{std8}

-- a call of a stage, with the id of its download. `in_force` are the tables in force at this moment, and `flashing`
-- says whether the cabinet flashes
pub data Call : Type 0 where
  Begin : (id : ℕ) → (in_force : Tables) → Call
  Part : (id : ℕ) → (number : ℕ) → (cells : List (Cell × Content)) → Call
  Verify : (id : ℕ) → (total : ℕ) → (in_force : Tables) → (flashing : Bool) → Call
  Finish : (id : ℕ) → (in_force : Tables) → (flashing : Bool) → Call

-- a call and its answer
pub record Answered : Type 0 where
  pub call : Call
  pub answer : StageAnswer

-- what an answered call did to the stage. It began a download over the tables in force, took a part with these cells,
-- closed the stage because the staged tables fit, installed them, opened the stage again, or did nothing
pub data Deed : Type 0 where
  Began : (id : ℕ) → (in_force : Tables) → Deed
  Took : (cells : List (Cell × Content)) → Deed
  Closed : Deed
  Installed : Deed
  Reopened : Deed
  Idle : Deed

-- what a begin did, by its answer
abbrev pub begin_deed : ℕ → Tables → StageAnswer → Deed
begin_deed id in_force Staged = Began id in_force
begin_deed id in_force _ = Idle

-- what a part with these cells did
abbrev pub part_deed : List (Cell × Content) → StageAnswer → Deed
part_deed cells Staged = Took cells
part_deed cells _ = Idle

-- what a verify did
abbrev pub verify_deed : StageAnswer → Deed
verify_deed Verified = Closed
verify_deed _ = Idle

-- what a finish did
abbrev pub finish_deed : StageAnswer → Deed
finish_deed Accepted = Installed
finish_deed (Refused broken) = Reopened
finish_deed _ = Idle

-- what a call did, by its answer
abbrev pub deed_of : Call → StageAnswer → Deed
deed_of (Begin id in_force) answer = begin_deed id in_force answer
deed_of (Part id number cells) answer = part_deed cells answer
deed_of (Verify id total in_force flashing) answer = verify_deed answer
deed_of (Finish id in_force flashing) answer = finish_deed answer

-- what each call did
abbrev pub deeds : List Answered → List Deed
deeds [] = []
deeds (a ∷ past) = deed_of a.call a.answer ∷ deeds past

-- the id of the last download that began, or 0
abbrev pub kept_by : List Deed → ℕ
kept_by [] = 0
kept_by (Began id in_force ∷ past) = id
kept_by (Took cells ∷ past) = kept_by past
kept_by (Closed ∷ past) = kept_by past
kept_by (Installed ∷ past) = kept_by past
kept_by (Reopened ∷ past) = kept_by past
kept_by (Idle ∷ past) = kept_by past

-- the number of parts taken since the last begin
abbrev pub taken_by : List Deed → ℕ
taken_by [] = 0
taken_by (Began id in_force ∷ past) = 0
taken_by (Took cells ∷ past) = taken_by past + 1
taken_by (Closed ∷ past) = taken_by past
taken_by (Installed ∷ past) = taken_by past
taken_by (Reopened ∷ past) = taken_by past
taken_by (Idle ∷ past) = taken_by past

-- the tables in force at the last begin, with the cells of the parts taken since then put in, in order; the standard
-- tables if no download began
abbrev pub staged_by : List Deed → Tables
staged_by [] = std8
staged_by (Began id in_force ∷ past) = in_force
staged_by (Took cells ∷ past) = with_cells (staged_by past) cells
staged_by (Closed ∷ past) = staged_by past
staged_by (Installed ∷ past) = staged_by past
staged_by (Reopened ∷ past) = staged_by past
staged_by (Idle ∷ past) = staged_by past

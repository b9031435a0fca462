-- The downloads that a cabinet has accepted, and the tables that result. Lists have the newest first, but the cells
-- of one download are in order.
use Rattle.std.specs.Prelude.{◌+◌, ◌≡◌, ◌≤◌, Bool, true, false, List, [], ◌∷◌, ◌++◌, length}
use Rattle.sig_tables.specs.declared.tables.Tables.{Tables}
use Rattle.sig_tables.specs.declared.cells.Cell.{Cell}
use Rattle.sig_tables.specs.Cells.{Content}
use Rattle.sig_tables.specs.Putting.{with_cells}
use Rattle.sig_tables.specs.Standard.{std8}
use Rattle.sig_tables.specs.Decide.{past_at}
use Rattle.stage_txn.specs.Calls.{Call, Begin, Part, Verify, Finish, Deed, Began, Took, Closed, Installed, Reopened, Idle, deeds}
use Rattle.stage_txn.specs.Answers.{answered}
use Rattle.cabinet_history.specs.CabinetHistory.{CabinetHistory}
use Rattle.cabinet_history.specs.Coming.{Coming, past_of, in_force, coming}

-- the cells of the parts that were taken since the last begin
abbrev pub content_by : List Deed → List (Cell × Content)
content_by [] = []
content_by (Began id in_force ∷ past) = []
content_by (Took cells ∷ past) = content_by past ++ cells
content_by (Closed ∷ past) = content_by past
content_by (Installed ∷ past) = content_by past
content_by (Reopened ∷ past) = content_by past
content_by (Idle ∷ past) = content_by past

-- the contents of the accepted downloads
abbrev pub accepted_by : List Deed → List (List (Cell × Content))
accepted_by [] = []
accepted_by (Began id in_force ∷ past) = accepted_by past
accepted_by (Took cells ∷ past) = accepted_by past
accepted_by (Closed ∷ past) = accepted_by past
accepted_by (Installed ∷ past) = content_by past ∷ accepted_by past
accepted_by (Reopened ∷ past) = accepted_by past
accepted_by (Idle ∷ past) = accepted_by past

-- a download is under way: it has begun, and its tables haven't been put in force
abbrev pub is_under_way : List Deed → Bool
is_under_way [] = false
is_under_way (Began id in_force ∷ past) = true
is_under_way (Took cells ∷ past) = is_under_way past
is_under_way (Closed ∷ past) = is_under_way past
is_under_way (Installed ∷ past) = false
is_under_way (Reopened ∷ past) = is_under_way past
is_under_way (Idle ∷ past) = is_under_way past

-- the tables that were in force when the last download began; the standard tables if none began
abbrev pub base_by : List Deed → Tables
base_by [] = std8
base_by (Began id in_force ∷ past) = in_force
base_by (Took cells ∷ past) = base_by past
base_by (Closed ∷ past) = base_by past
base_by (Installed ∷ past) = base_by past
base_by (Reopened ∷ past) = base_by past
base_by (Idle ∷ past) = base_by past

-- the tables after the contents of these downloads were put in one after the other, the oldest first
abbrev pub with_downloads : Tables → List (List (Cell × Content)) → Tables
with_downloads t [] = t
with_downloads t (content ∷ earlier) = with_cells (with_downloads t earlier) content

-- what each call of a cabinet's stage did
abbrev pub deeds_of : Coming → List Deed
deeds_of c = deeds (answered c.calls)

-- each call has an id of at least 1
abbrev pub HaveIds : List Call → Type 0
HaveIds [] = Unit {0}
HaveIds (Begin id in_force ∷ calls) = (1 ≤ id) × HaveIds calls
HaveIds (Part id number cells ∷ calls) = (1 ≤ id) × HaveIds calls
HaveIds (Verify id total in_force flashing ∷ calls) = (1 ≤ id) × HaveIds calls
HaveIds (Finish id in_force flashing ∷ calls) = (1 ≤ id) × HaveIds calls

-- the version is the version at the start plus the number of accepted downloads
abbrev pub VersionCounts : CabinetHistory → Type 0
VersionCounts cabinet_history =
    (past_of (coming cabinet_history)).version ≡ (past_at cabinet_history.opening).version + length (accepted_by (deeds_of (coming cabinet_history)))

-- while a download is under way, the tables in force are the same as when it began
abbrev pub NothingElseInstalled : CabinetHistory → Type 0
NothingElseInstalled cabinet_history = is_under_way (deeds_of (coming cabinet_history)) ≡ true → base_by (deeds_of (coming cabinet_history)) ≡ in_force (coming cabinet_history)

-- if each call has an id, the tables in force are the tables at the start with the whole content of each accepted
-- download put in, in order
abbrev pub TablesAreWhole : CabinetHistory → Type 0
TablesAreWhole cabinet_history =
    HaveIds (coming cabinet_history).calls → in_force (coming cabinet_history) ≡ with_downloads (past_at cabinet_history.opening).tables (accepted_by (deeds_of (coming cabinet_history)))

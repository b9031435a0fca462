-- The state of a download stage, and its answer to each call. In each definition the first line that applies counts.
-- Lists have the newest first.
use Rattle.std.specs.Prelude.{ℕ, ◌+◌, ◌==◌, nat_le, nat_lt, ◌&&◌, Bool, true, false, if◌then◌else◌, List, [], ◌∷◌, Option, Some, None, Result, Ok, Err}
use Rattle.sig_types.specs.declared.notes.Broken.{Broken}
use Rattle.sig_types.specs.declared.notes.StageAnswer.{StageAnswer}
use Rattle.sig_types.specs.declared.notes.StageAnswer.TheVariants.{Staged, Repeated, Verified, Accepted, WrongToken, WrongPart, NotVerified, Refused}
use Rattle.sig_tables.specs.declared.tables.Tables.{Tables}
use Rattle.rule_book.specs.Rules.{broken, first_of}
use Rattle.stage_txn.specs.declared.StageState.{StageState}
use Rattle.stage_txn.specs.declared.StageState.TheVariants.{Rest, Open, Checked, Done}
use Rattle.stage_txn.specs.Calls.{Call, Begin, Part, Verify, Finish}
use Rattle.stage_txn.specs.Calls.{Answered, Deed, Began, Took, Closed, Installed, Reopened, Idle, deeds, kept_by, taken_by, staged_by}

-- the state of the stage, by the last deed that changes it: a begin opens it, a verify without a broken rule closes
-- it, a finish installs the tables or opens it again
abbrev pub stage_state_by : List Deed → StageState
stage_state_by [] = Rest
stage_state_by (Began id in_force ∷ past) = Open
stage_state_by (Took cells ∷ past) = stage_state_by past
stage_state_by (Closed ∷ past) = Checked
stage_state_by (Installed ∷ past) = Done
stage_state_by (Reopened ∷ past) = Open
stage_state_by (Idle ∷ past) = stage_state_by past

-- the id of the last download that began, or 0
abbrev pub kept : List Answered → ℕ
kept past = kept_by (deeds past)

-- the number of parts taken since the last begin
abbrev pub taken : List Answered → ℕ
taken past = taken_by (deeds past)

-- the staged tables: those in force at the last begin, with the parts taken since then
abbrev pub staged : List Answered → Tables
staged past = staged_by (deeds past)

-- the state of the stage
abbrev pub stage_state : List Answered → StageState
stage_state past = stage_state_by (deeds past)

-- the stage accepts parts
abbrev pub is_open : StageState → Bool
is_open Open = true
is_open _ = false

-- the number of the state: 1 normal, 2 transaction, 3 verify, 6 done
abbrev pub state_code : StageState → ℕ
state_code Rest = 1
state_code Open = 2
state_code Checked = 3
state_code Done = 6

-- this answer, or, if a rule is broken, the refusal that names this rule
abbrev pub unless_broken : Result (Unit {0}) Broken → StageAnswer → StageAnswer
unless_broken (Ok fit) answer = answer
unless_broken (Err b) answer = Refused b

-- the first rule that the tables `t` break together with those in force; Ok if they break none
unfoldable pub first_broken : Tables → Tables → Bool → Result (Unit {0}) Broken
first_broken t in_force flashing = first_of (broken t in_force flashing)

-- this answer, or, if the tables break a rule together with those in force, the refusal that names the first such
-- rule
abbrev pub judged : Tables → Tables → Bool → StageAnswer → StageAnswer
judged t in_force flashing answer = unless_broken (first_broken t in_force flashing) answer

-- the answer to a begin with this id if the stage has the id `kept`. The same id is Repeated, and a lower id is
-- WrongToken. With a higher id a download begins: Staged
abbrev pub begin_answer : ℕ → ℕ → StageAnswer
begin_answer kept id = if id == kept then Repeated else if nat_lt id kept then WrongToken else Staged

-- the answer to the part with this number after `taken` parts. A part that was taken before is Repeated. The next
-- part is Staged if the stage is open. The answer to every other part is WrongPart with the next number
abbrev pub part_answer : StageState → ℕ → ℕ → StageAnswer
part_answer stands taken number =
    if nat_le 1 number && nat_le number taken then Repeated
    else if is_open stands && number == taken + 1 then Staged
    else WrongPart (taken + 1)

-- the answer to a verify. It is Repeated if the stage is verified or done. Otherwise, if the number of parts is
-- wrong, it is WrongPart with the next number; if the number is right, it is the answer of the rules
abbrev pub verify_answer : StageState → Bool → ℕ → StageAnswer → StageAnswer
verify_answer Checked complete due by_rules = Repeated
verify_answer Done complete due by_rules = Repeated
verify_answer _ complete due by_rules = if complete then by_rules else WrongPart due

-- the answer to a finish. It is Repeated if the stage is done, and the answer of the rules if the stage is verified;
-- otherwise it is NotVerified
abbrev pub finish_answer : StageState → StageAnswer → StageAnswer
finish_answer Done by_rules = Repeated
finish_answer Checked by_rules = by_rules
finish_answer _ by_rules = NotVerified

-- the answer to a call after these calls. If the id of a part, a verify or a finish is different from the kept id, it
-- is WrongToken
abbrev pub answer_to : List Answered → Call → StageAnswer
answer_to past (Begin id in_force) = begin_answer (kept past) id
answer_to past (Part id number cells) =
    if id == kept past then part_answer (stage_state past) (taken past) number else WrongToken
answer_to past (Verify id total in_force flashing) =
    if id == kept past
    then verify_answer (stage_state past) (total == taken past) (taken past + 1) (judged (staged past) in_force flashing Verified)
    else WrongToken
answer_to past (Finish id in_force flashing) =
    if id == kept past
    then finish_answer (stage_state past) (judged (staged past) in_force flashing Accepted)
    else WrongToken

-- the calls, with this call and its answer added
abbrev pub with_answer : Call → List Answered → List Answered
with_answer call past = record { call = call; answer = answer_to past call } ∷ past

-- these calls with their answers
abbrev pub answered : List Call → List Answered
answered [] = []
answered (call ∷ calls) = with_answer call (answered calls)

-- the answer to the last call, if any
abbrev pub last_answer : List Answered → Option StageAnswer
last_answer [] = None
last_answer (a ∷ past) = Some a.answer

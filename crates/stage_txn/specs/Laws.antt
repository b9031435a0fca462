-- What the answers of a stage promise to the caller that puts tables in force. Lists have the newest first.
use Rattle.std.specs.Prelude.{ℕ, ◌≡◌, ◌≢◌, ◌+◌, Bool, List, [], ◌∷◌, Ok}
use Rattle.sig_types.specs.declared.notes.StageAnswer.TheVariants.{Staged, Accepted}
use Rattle.sig_tables.specs.declared.tables.Tables.{Tables}
use Rattle.sig_tables.specs.declared.cells.Cell.{Cell}
use Rattle.sig_tables.specs.Cells.{Content}
use Rattle.sig_tables.specs.Putting.{EachFits}
use Rattle.stage_txn.specs.declared.StageState.TheVariants.{Open, Checked, Done}
use Rattle.stage_txn.specs.Calls.{Call, Answered, Begin, Part, Verify, Finish}
use Rattle.stage_txn.specs.Answers.{kept, taken, staged, stage_state, answer_to, first_broken}

-- the part is the next part of the last download that began, and the stage is open
pub record IsNext (past : List Answered) (id number : ℕ) : Type 0 where
  pub same : id ≡ kept past
  pub part : number ≡ taken past + 1
  pub stands : stage_state past ≡ Open

-- a part is only accepted as the next part of the open download
abbrev pub PartsComeInOrder : List Answered → Type 0
PartsComeInOrder past =
    (id number : ℕ) (cells : List (Cell × Content)) → answer_to past (Part id number cells) ≡ Staged → IsNext past id number

-- the staged tables were verified, and they break no rule together with these tables in force
pub record KeepsRules (past : List Answered) (id : ℕ) (in_force : Tables) (flashing : Bool) : Type 0 where
  pub same : id ≡ kept past
  pub stands : stage_state past ≡ Checked
  pub rules : first_broken (staged past) in_force flashing ≡ Ok tt

-- a finish is accepted only for tables that were verified, and that break no rule now
abbrev pub InstallsWhatKeepsRules : List Answered → Type 0
InstallsWhatKeepsRules past =
    (id : ℕ) (in_force : Tables) (flashing : Bool) → answer_to past (Finish id in_force flashing) ≡ Accepted → KeepsRules past id in_force flashing

-- no part is taken and no finish is accepted
pub record IsQuiet (past : List Answered) : Type 0 where
  pub part : (id number : ℕ) (cells : List (Cell × Content)) → answer_to past (Part id number cells) ≢ Staged
  pub finish : (id : ℕ) (in_force : Tables) (flashing : Bool) → answer_to past (Finish id in_force flashing) ≢ Accepted

-- if the stage is done, nothing more is staged or put in force
abbrev pub NothingAfterDone : List Answered → Type 0
NothingAfterDone past = stage_state past ≡ Done → IsQuiet past

-- each cell of the tables in force at each begin holds an allowed value
abbrev pub BeginInRange : List Call → Type 0
BeginInRange [] = Unit {0}
BeginInRange (Begin id in_force ∷ calls) = EachFits in_force × BeginInRange calls
BeginInRange (Part id number cells ∷ calls) = BeginInRange calls
BeginInRange (Verify id total in_force flashing ∷ calls) = BeginInRange calls
BeginInRange (Finish id in_force flashing ∷ calls) = BeginInRange calls

-- What a stage represents: its calls so far.
use Rattle.std.specs.Prelude.{◌≡◌, List}
use Rattle.stage_txn.specs.declared.Stage.{Stage}
use Rattle.stage_txn.specs.Calls.{Call, Answered}
use Rattle.stage_txn.specs.Answers.{kept, taken, staged, stage_state, answered, last_answer}

-- the stage agrees with these answered calls
pub record StageKeeps (s : Stage) (past : List Answered) : Type 0 where
  pub kept : s.kept ≡ kept past
  pub taken : s.taken ≡ taken past
  pub tables : s.tables ≡ staged past
  pub stage_state : s.stage_state ≡ stage_state past
  pub last : s.last ≡ last_answer past

-- the stage represents these calls, the newest first
abbrev pub StageStands : Stage → List Call → Type 0
StageStands s calls = StageKeeps s (answered calls)

-- How many downloads may have been put in force, by the state of the last one that began.
use Rattle.std.specs.Prelude.{ℕ, ◌≡◌, ◌<◌, ◌≤◌}
use Rattle.stage_txn.specs.declared.StageState.{StageState}
use Rattle.stage_txn.specs.declared.StageState.TheVariants.{Rest, Open, Checked, Done}

-- this many downloads may have been put in force, if the last one that began has this id and this state. Each
-- download has a higher id than the one before it
abbrev pub FewInstalls : ℕ → ℕ → StageState → Type 0
FewInstalls version id Rest = (version ≡ 0) × (id ≡ 0)
FewInstalls version id Open = version < id
FewInstalls version id Checked = version < id
FewInstalls version id Done = version ≤ id

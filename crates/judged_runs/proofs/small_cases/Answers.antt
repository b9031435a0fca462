use Rattle.std.proofs.Common.{refl}
use Rattle.sig_tables.specs.Standard.{max8, std8, standard}
use Rattle.stage_txn.specs.Answers.{first_broken}
use Rattle.run_definition.specs.Smallest.{smallest}
use Rattle.judged_runs.proofs.small_cases.Goals as goal

pub returns : goal.returns
unfolding max8 std8 standard smallest first_broken
returns c = record { brought = refl; known = refl; unknown = refl }

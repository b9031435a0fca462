use Rattle.std.proofs.Common.{ℕ, List}
use Rattle.scenario_data.specs.declared.refusal.Refusal.{Refusal}
use Rattle.scenario_read.specs.Answers.{IsFirstFault}
use Rattle.scenario_read.specs.Content.{scenario_of}
use Rattle.scenario_read.proofs.OneAnswer.{no-fault-beside}
use Rattle.field_file.specs.Written.{result_of}
use Rattle.field_file.specs.FieldAnswer.{TellsResult}
use Rattle.field_file.proofs.Whole.{result-faultless}
use Rattle.field_file.proofs.results_are_scenarios.Goals as goal

unrefused : (bytes text : List ℕ) (refusal : Refusal) → TellsResult bytes text → IsFirstFault text refusal → ⊥
unrefused bytes text refusal (d, reads, none, told) fault = no-fault-beside text (scenario_of (result_of d)) refusal told.read fault

pub returns-clause-faultless : goal.returns-clause-faultless
returns-clause-faultless c = result-faultless

pub returns-clause-unrefused : goal.returns-clause-unrefused
returns-clause-unrefused c = unrefused

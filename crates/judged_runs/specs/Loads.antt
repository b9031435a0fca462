-- The downloads that the cabinets of a run put in force, compared with the loads of the scenario that have their
-- numbers.
use Rattle.std.specs.Prelude.{ℕ, ◌≡◌, List, [], ◌∷◌, ◌++◌, Option, Some, None}
use Rattle.std.specs.List.{AllByRecursion}
use Rattle.sig_types.specs.declared.notes.StageAnswer.{StageAnswer}
use Rattle.sig_types.specs.declared.notes.StageAnswer.TheVariants.{Accepted}
use Rattle.sig_tables.specs.declared.cells.Cell.{Cell}
use Rattle.sig_tables.specs.Cells.{Content}
use Rattle.scenario_data.specs.Content.{ScenarioContent}
use Rattle.stage_txn.specs.Calls.{Call, Finish, Answered, Deed, deeds}
use Rattle.stage_txn.specs.Answers.{answered}
use Rattle.cabinet_history.specs.CabinetHistory.{CabinetHistory}
use Rattle.cabinet_history.specs.Coming.{coming}
use Rattle.cabinet_history.specs.Downloads.{content_by}
use Rattle.judge_session.specs.Told.{load_told}
use Rattle.run_definition.specs.CabinetState.{CabinetState, HasComeTo, opened_cabinet_states, cabinet_states_after}

-- the number and the cells of the download that a call put in force, if its finish was accepted
abbrev pub brought_by : Call → StageAnswer → List Deed → List (ℕ × List (Cell × Content))
brought_by (Finish id in_force flashing) Accepted past = (id, content_by past) ∷ []
brought_by _ _ past = []

-- the downloads that these calls put in force, newest first
abbrev pub brought : List Answered → List (ℕ × List (Cell × Content))
brought [] = []
brought (a ∷ past) = brought_by a.call a.answer (deeds past) ++ brought past

-- the downloads that a cabinet put in force, newest first
abbrev pub brought_to : CabinetHistory → List (ℕ × List (Cell × Content))
brought_to cabinet_history = brought (answered (coming cabinet_history).calls)

-- a download has the cells of the load with its number, if there is such a load
abbrev pub IsLoadIfAny : Option (List (Cell × Content)) → List (Cell × Content) → Type 0
IsLoadIfAny None cells = Unit {0}
IsLoadIfAny (Some own) cells = own ≡ cells

-- a fact holds for each download that a run with these journals put in force, compared with the cells of the load with
-- its number
abbrev pub EachBrought : (Option (List (Cell × Content)) → List (Cell × Content) → Type 0) → ScenarioContent → List (List (List ℕ)) → Type 0
EachBrought Is s journals = (cab : ℕ) (end : CabinetState) → HasComeTo cab end 1 (cabinet_states_after s (opened_cabinet_states s s.cabinets) journals)
    → AllByRecursion (λ d. Is (load_told s cab d.0) d.1) (brought_to end.cabinet_history)

-- no download has the number of a load but other cells
abbrev pub LoadsAreOwn : ScenarioContent → List (List (List ℕ)) → Type 0
LoadsAreOwn s journals = EachBrought IsLoadIfAny s journals

-- each download is a load of the scenario
abbrev pub AllAreLoads : ScenarioContent → List (List (List ℕ)) → Type 0
AllAreLoads s journals = EachBrought (λ load cells. load ≡ Some cells) s journals

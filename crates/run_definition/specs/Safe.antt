-- The promise about the lines of a run, for each cabinet and for all possible journals: the street is safe, versions
-- are whole, coordination is met, and the tables in force are those of whole accepted downloads.
use Rattle.std.specs.Prelude.{ℕ, ◌≡◌, ◌+◌, List, ◌∷◌, ◌++◌, drop, length, IfSome}
use Rattle.sig_tables.specs.Decide.{past_at}
use Rattle.tick_laws.specs.InStep.{EachCoordinated}
use Rattle.trace_text.specs.declared.lines.Line.{Line}
use Rattle.safety_laws.specs.Safe.{Safe, intersection_of}
use Rattle.safety_laws.specs.Whole.{Whole}
use Rattle.safety_laws.specs.Written.{tables_of}
use Rattle.plan_facts.specs.Meets.{Meets}
use Rattle.scenario_data.specs.Content.{CabinetContent, ScenarioContent}
use Rattle.scenario_data.specs.Opening.{opening_tables}
use Rattle.sig_types.specs.Items.{Item, Came}
use Rattle.cabinet_history.specs.CabinetHistory.{CabinetHistory, with_item}
use Rattle.cabinet_history.specs.Coming.{coming, history_of}
use Rattle.cabinet_history.specs.Downloads.{accepted_by, deeds_of, with_downloads}
use Rattle.cabinet_history.specs.CabinetAnswers.{load_end}
use Rattle.cabinet_laws.specs.Judging.{IsVerdict}
use Rattle.runnable.specs.Cabinets.{IsCabinet}
use Rattle.run_definition.specs.CabinetState.{CabinetState, HasComeTo, opened_cabinet_states, cabinet_states_after}

-- the tables of each version are the tables at the start with the whole content of each download accepted up to this
-- version, put in one after the other, and nothing else. `later` is the number of downloads accepted after this
-- version
abbrev pub AreMadeOfDownloads : CabinetContent → CabinetHistory → Type 0
AreMadeOfDownloads c cabinet_history = (version later : ℕ) → version + later ≡ length (accepted_by (deeds_of (coming cabinet_history)))
    → tables_of (history_of cabinet_history) version ≡ with_downloads (opening_tables c) (drop later (accepted_by (deeds_of (coming cabinet_history))))

-- the cabinet history with only these items, the newest first
abbrev pub as_far_as : CabinetHistory → List Item → CabinetHistory
as_far_as cabinet_history items = record { community = cabinet_history.community; opening = cabinet_history.opening; items = items }

-- each message that ended a download was answered with the verdict of the rules on the tables staged at that moment
abbrev pub EndAsJudged : CabinetHistory → Type 0
EndAsJudged cabinet_history = (later earlier : List Item) (octets : List ℕ) → cabinet_history.items ≡ later ++ (Came octets ∷ earlier)
    → IfSome (load_end (as_far_as cabinet_history earlier) octets)
    (λ load. IsVerdict (coming (as_far_as cabinet_history earlier)) (coming (with_item (as_far_as cabinet_history earlier) (Came octets))) load.result)

-- the promise about cabinet `cab` when the lines of a run with these journals are read. `end` is the state that the
-- cabinet reaches. By the lines of this cabinet only, its street is safe with the tables of each version of its
-- history, and its versions are whole. These tables come from whole accepted downloads; each download was accepted or
-- refused by the rules. The history meets coordination. At each moment with a pattern the phases keep to the plan, so
-- that a coordinated phase is green while the counter is below its force point
pub record Kept (s : ScenarioContent) (journals : List (List (List ℕ))) (lines : List Line) (cab : ℕ) (c : CabinetContent) : Type 0 where
  pub end : CabinetState
  pub own : end.cabinet ≡ c
  pub come : HasComeTo cab end 1 (cabinet_states_after s (opened_cabinet_states s s.cabinets) journals)
  pub safe : Safe (intersection_of cab (tables_of (history_of end.cabinet_history)) lines)
  pub whole : Whole cab lines
  pub tables : AreMadeOfDownloads c end.cabinet_history
  pub judged : EndAsJudged end.cabinet_history
  pub meets : Meets (history_of end.cabinet_history)
  pub greens : EachCoordinated (past_at (history_of end.cabinet_history)).moments

-- the promise holds for each cabinet
abbrev pub AllKept : ScenarioContent → List (List (List ℕ)) → List Line → Type 0
AllKept s journals lines = (cab : ℕ) (c : CabinetContent) → IsCabinet s cab c → Kept s journals lines cab c

-- What was seen of a cabinet during the check of a trace: its displays that have a line, its tables of each version,
-- and its number of ticks.
use Rattle.std.specs.Prelude.{ℕ, ◌+◌, ◌≡◌, List, [], length}
use Rattle.sig_tables.specs.Past.{History}
use Rattle.sig_tables.specs.Decide.{frames as frames_of, past_at}
use Rattle.safety_laws.specs.Written.{tables_of}
use Rattle.overlap_run.specs.Trace.{frames_written, AreByVersion}
use Rattle.scenario_data.specs.Content.{CabinetContent, ScenarioContent}
use Rattle.scenario_read.specs.Answers.{IsScenario}
use Rattle.runnable.specs.Cabinets.{IsCabinet}
use Rattle.runnable.specs.Runnable.{Runnable}
use Rattle.cabinet_history.specs.Frames.{has_line}
use Rattle.cabinet_history.specs.Coming.{history_of}
use Rattle.run_definition.specs.Lines.{run_text}
use Rattle.run_definition.specs.Orders.{AreJournals}
use Rattle.run_definition.specs.CabinetState.{CabinetState, HasComeTo, opened_cabinet_states, cabinet_states_after}
use Rattle.trace_laws.specs.Text.{TellsAllKept}
use Rattle.trace_laws.specs.declared.seen.Seen.{Seen}

-- this was seen of a history: its displays that have a line, the tables of its versions in order, and its number of
-- ticks
pub record IsSeenOf (seen : Seen) (h : History) : Type 0 where
  pub frames : seen.frames.items ≡ frames_written has_line (frames_of h)
  pub tables : AreByVersion seen.tables.items (tables_of h) (past_at h).version
  pub ticks : seen.ticks + 1 ≡ length (frames_of h)

-- the text is a trace, and every promise holds by its lines. If there is a cabinet with this number, this was seen of
-- its whole history; otherwise no tables were seen
pub record HasSeen (text : List ℕ) (cab : ℕ) (seen : Seen) : Type 0 where
  pub scenario : ScenarioContent
  pub journals : List (List (List ℕ))
  pub told : IsScenario scenario.compact scenario
  pub runs : Runnable scenario
  pub are : AreJournals scenario journals
  pub text_is : text ≡ run_text scenario journals
  pub kept : TellsAllKept scenario journals text
  pub own : (c : CabinetContent) (end : CabinetState) → IsCabinet scenario cab c
      → HasComeTo cab end 1 (cabinet_states_after scenario (opened_cabinet_states scenario scenario.cabinets) journals) → IsSeenOf seen (history_of end.cabinet_history)
  pub none : ((c : CabinetContent) → IsCabinet scenario cab c → ⊥) → seen.tables.items ≡ []

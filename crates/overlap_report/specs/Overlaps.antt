-- The report on an overlap at a cabinet of a trace: its text, or the first rule that it breaks. It depends on the run
-- that the trace shows, on the lines, and on the tables that were in force at the cabinet.
use Rattle.std.specs.Prelude.{ℕ, ◌+◌, ◌≡◌, List, [], length, Result, Err}
use Rattle.sig_tables.specs.declared.tables.Tables.{Tables}
use Rattle.sig_tables.specs.Decide.{frames, past_at}
use Rattle.trace_text.specs.declared.lines.Line.{Line}
use Rattle.safety_laws.specs.Safe.{Intersection, intersection_of}
use Rattle.safety_laws.specs.Written.{tables_of}
use Rattle.scenario_data.specs.Content.{CabinetContent, ScenarioContent}
use Rattle.runnable.specs.Cabinets.{IsCabinet}
use Rattle.cabinet_history.specs.Coming.{history_of}
use Rattle.run_definition.specs.CabinetState.{CabinetState, HasComeTo, opened_cabinet_states, cabinet_states_after}
use Rattle.trace_laws.specs.Laws.{TellsOfRun}
use Rattle.overlap_run.specs.declared.overlap.Timing.{Timing}
use Rattle.overlap_run.specs.Overlap.{timed}
use Rattle.overlap_run.specs.declared.faults.OverlapFault.{OverlapFault}
use Rattle.overlap_run.specs.Rules.{verdict}
use Rattle.overlap_run.specs.Street.{IsCovered, IsApart}
use Rattle.overlap_run.specs.Trace.{AreByVersion, text_of}
use Rattle.command_words.specs.declared.command.Overlap.{Overlap}

-- the cabinet with this number has this state at the end of a run with these journals
abbrev pub HasEnded : ScenarioContent → List (List (List ℕ)) → ℕ → CabinetState → Type 0
HasEnded s journals cab end = HasComeTo cab end 1 (cabinet_states_after s (opened_cabinet_states s s.cabinets) journals)

-- in a run with these journals these tables were in force at the cabinet with this number, in the order of their
-- versions: those of the start, and those of each accepted download. There are none if the scenario has no such
-- cabinet
pub data AreInForce (s : ScenarioContent) (journals : List (List (List ℕ))) (cab : ℕ) (tables : List Tables) : Type 0 where
  AtCabinet : (c : CabinetContent) (end : CabinetState) → IsCabinet s cab c → HasEnded s journals cab end
      → AreByVersion tables (tables_of (history_of end.cabinet_history)) (past_at (history_of end.cabinet_history)).version → AreInForce s journals cab tables
  NoCabinet : ((c : CabinetContent) → IsCabinet s cab c → ⊥) → tables ≡ [] → AreInForce s journals cab tables

-- the times of the overlap
abbrev pub times_of : Overlap → Timing
times_of asked = timed asked.trail asked.yellow asked.red

-- the first rule that the overlap breaks with these tables; Ok if it breaks none
abbrev pub verdict_of : List Tables → Overlap → Result (Unit {0}) OverlapFault
verdict_of tables asked = verdict tables asked.parents.items asked.trail asked.yellow asked.red

-- the text is a trace, and this is the first rule that the overlap breaks, by the tables that were in force at its
-- cabinet
pub record BreaksRule (text : List ℕ) (asked : Overlap) (fault : OverlapFault) : Type 0 where
  pub run : TellsOfRun text
  pub tables : List Tables
  pub in_force : AreInForce run.scenario run.journals asked.cabinet tables
  pub broken : verdict_of tables asked ≡ Err fault

-- a cabinet as the street sees it by these lines, with the tables of each version of its history
abbrev pub street_of : ℕ → CabinetState → List Line → Intersection
street_of cab end lines = intersection_of cab (tables_of (history_of end.cabinet_history)) lines

-- the text is a trace with this cabinet, and the overlap breaks no rule there. `written` is the text of the overlap
-- over all ticks of the cabinet, by the lines of the trace. By these lines, whenever the overlap isn't red, one of
-- its parents isn't red either; each phase that conflicts with all parents is then red
pub record TellsOverlap (text : List ℕ) (asked : Overlap) (written : List ℕ) : Type 0 where
  pub run : TellsOfRun text
  pub cabinet : CabinetContent
  pub end : CabinetState
  pub own : IsCabinet run.scenario asked.cabinet cabinet
  pub ended : HasEnded run.scenario run.journals asked.cabinet end
  pub unbroken : (fault : OverlapFault) → BreaksRule text asked fault → ⊥
  pub ticks : ℕ
  pub all : ticks + 1 ≡ length (frames (history_of end.cabinet_history))
  pub written_is : written ≡ text_of (times_of asked) asked.parents.items asked.cabinet (tables_of (history_of end.cabinet_history)) run.kept.lines ticks
  pub covered : (tick : ℕ) → IsCovered (times_of asked) asked.parents.items (street_of asked.cabinet end run.kept.lines) tick
  pub apart : (tick : ℕ) → IsApart (times_of asked) asked.parents.items (street_of asked.cabinet end run.kept.lines) tick

-- What a judge finds in the lines of a run: each can follow those before it, and none shows a breach.
use Rattle.std.specs.Prelude.{ℕ, ◌≡◌, nat_le, List, [], ◌∷◌, length, map, filter, reverse}
use Rattle.trace_text.specs.declared.lines.Line.{Line}
use Rattle.trace_text.specs.declared.lines.Line.TheVariants.{S}
use Rattle.trace_text.specs.Line.{line_text}
use Rattle.safety_laws.specs.Whole.{Whole}
use Rattle.scenario_data.specs.Content.{ScenarioContent}
use Rattle.scenario_read.specs.Answers.{IsScenario}
use Rattle.run_definition.specs.Lines.{run_text}
use Rattle.run_definition.specs.Orders.{AreJournals}
use Rattle.judge_laws.specs.Breaches.{exact, breaches, Rising}
use Rattle.judge_session.specs.Told.{tables_before}
use Rattle.judge_session.specs.Log.{IsLog, ended}
use Rattle.judge_session.specs.Report.{log_found}
use Rattle.judge_session.specs.Streets.{AllKnown}
use Rattle.trace_laws.specs.Text.{IsTextOf}
use Rattle.judged_runs.specs.Loads.{LoadsAreOwn, AllAreLoads}

-- the lines of a log that a judge reads: those of at most 4,096 bytes without the newline
abbrev pub read_lines : List Line → List Line
read_lines lines = filter (λ line. nat_le (length (line_text line)) 4097) lines

-- the lines after the first one, which has the scenario, are a log that a judge accepts, for any bytes that give them.
-- If no download has the number of a load but other cells, no line of the log shows a breach, to the tick. If each
-- download is a load, the tables of all cabinets are always known
pub record IsAcceptedLog (s : ScenarioContent) (journals : List (List (List ℕ))) (rest : List Line) : Type 0 where
  pub log : (bytes : List (List ℕ)) → map ended bytes ≡ map line_text rest → IsLog s bytes (reverse (read_lines rest))
  pub none : LoadsAreOwn s journals → log_found s exact (reverse (read_lines rest)) ≡ []
  pub known : AllAreLoads s journals → AllKnown s (reverse (read_lines rest))

-- these are the lines of a run with these journals: the first has the scenario, the others are an accepted log. At each
-- cabinet the ticks rise and the versions are whole. If each download is a load of the scenario, no line shows a
-- breach, to the tick
pub record IsFaultless (s : ScenarioContent) (journals : List (List (List ℕ))) (lines : List Line) : Type 0 where
  pub rest : List Line
  pub first : lines ≡ S s.compact ∷ rest
  pub log : IsAcceptedLog s journals rest
  pub rising : (cab : ℕ) → Rising cab lines
  pub whole : (cab : ℕ) → Whole cab lines
  pub all : AllAreLoads s journals → breaches exact (tables_before s (reverse lines)) lines ≡ []

-- the text is that of a run of its scenario with these journals, and consists of lines in which a judge finds no breach
pub record TraceIsFaultless (text : List ℕ) : Type 0 where
  pub scenario : ScenarioContent
  pub journals : List (List (List ℕ))
  pub told : IsScenario scenario.compact scenario
  pub are : AreJournals scenario journals
  pub text_is : text ≡ run_text scenario journals
  pub lines : List Line
  pub its : IsTextOf text lines
  pub faultless : IsFaultless scenario journals lines

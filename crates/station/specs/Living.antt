-- The state between two answers of `live`.
use Rattle.std.specs.Prelude.{◌≡◌, ◌⊎◌, ℕ, Bool, true, false, List, ◌∷◌, ◌++◌, Option, Some, None, IfSome}
use Rattle.io_edge.specs.Edge.{Appends}
use Rattle.trace_writer.specs.Bytes.{AppendsFront}
use Rattle.scenario_data.specs.Content.{ScenarioContent}
use Rattle.session_words.specs.Lines.{first_line, whole_lines}
use Rattle.session_words.specs.Unread.{behind_told, GivesLine, HasNoLine}
use Rattle.run_definition.specs.Session.{SessionHistory, opened_session, is_over}
use Rattle.run_definition.specs.SessionAnswers.{Answer, Lines, answer_to, answers_from, end_of_input_lines, next_session, open_lines}
use Rattle.run_definition.specs.SessionDialogue.{answer_text, answers_text, requests_in, session_text}
use Rattle.live_session.specs.declared.session.Session.{Session}
use Rattle.live_session.specs.Standing.{SessionStands}
use Rattle.station.specs.declared.status.Status.{Status}
use Rattle.station.specs.declared.status.Status.TheVariants.{Done, ReadFault, WriteFault, NoMemory}
use Rattle.station.specs.Lived.{IsBase}

-- the first line of the input is a scenario with this content for a session, and these bytes are left after it
pub record IsOpened (left behind : Option (List ℕ)) (s : ScenarioContent) : Type 0 where
  pub line : List ℕ
  pub first : IfSome left (λ input. line ≡ first_line input)
  pub base : IsBase line s
  pub rest : behind ≡ behind_told left

-- the requests of the input are these lines and then those that are still ahead, if the source reports its bytes
abbrev pub AreAhead : Option (List ℕ) → Option (List ℕ) → List (List ℕ) → Type 0
AreAhead None ahead lines = Unit {0}
AreAhead (Some input) ahead lines = (rest : List ℕ) × (ahead ≡ Some rest) × (requests_in input ≡ lines ++ whole_lines rest)

-- these lines of the input have these answers, and the session has this history after them: whatever lines follow,
-- their answers are those of the session from here on
pub record IsAnswering (left ahead old new : Option (List ℕ)) (s : ScenarioContent) (h : SessionHistory) : Type 0 where
  pub lines : List (List ℕ)
  pub done : List Answer
  pub asked : AreAhead left ahead lines
  pub goes : (rest : List (List ℕ)) → answers_from s opened_session (lines ++ rest) ≡ done ++ answers_from s h rest
  pub written : Appends old new (answers_text (Lines (open_lines s) ∷ done))

-- the text is the answer to a line, and the session has the history after it; after the last round it is over
pub record AnswersThis (over : Bool) (s : ScenarioContent) (h : SessionHistory) (session : Session) (line text : List ℕ) : Type 0 where
  pub answer : text ≡ answer_text (answer_to s h line)
  pub over_is : over ≡ is_over s (next_session s h line)
  pub stands : over ≡ false → SessionStands session s (next_session s h line)

-- the next line of the input is answered like this
pub record AnswersLine (over : Bool) (s : ScenarioContent) (h : SessionHistory) (session : Session) (before behind : Option (List ℕ)) (text : List ℕ) : Type 0 where
  pub line : List ℕ
  pub next : GivesLine before behind line
  pub answers : AnswersThis over s h session line text

-- no line follows: the text is the answer to the end of the input, and the session is over
pub record AnswersEnd (over : Bool) (s : ScenarioContent) (h : SessionHistory) (before : Option (List ℕ)) (text : List ℕ) : Type 0 where
  pub none : HasNoLine before
  pub answer : text ≡ answer_text (Lines (end_of_input_lines s h))
  pub over_is : over ≡ true

abbrev pub AnswersNext : Bool → ScenarioContent → SessionHistory → Session → Option (List ℕ) → Option (List ℕ) → List ℕ → Type 0
AnswersNext over s h session before behind text = AnswersLine over s h session before behind text ⊎ AnswersEnd over s h before text

-- the whole text of the session with these requests was written
pub record IsWhole (left old new : Option (List ℕ)) (s : ScenarioContent) : Type 0 where
  pub requests : List (List ℕ)
  pub asked : IfSome left (λ input. requests ≡ requests_in input)
  pub written : Appends old new (session_text s requests)

-- a proper prefix of the text of the session with these requests was written
pub record IsShortOf (left old new : Option (List ℕ)) (s : ScenarioContent) : Type 0 where
  pub requests : List (List ℕ)
  pub asked : IfSome left (λ input. requests ≡ requests_in input)
  pub front : AppendsFront old new (session_text s requests)

-- how the rest of a session ended, status by status
abbrev pub Ends : Status → Type 0 → Type 0 → Option (List ℕ) → Option (List ℕ) → Option (List ℕ) → ScenarioContent → Type 0
Ends Done unread unwritten left old new s = IsWhole left old new s
Ends ReadFault unread unwritten left old new s = unread × IsShortOf left old new s
Ends WriteFault unread unwritten left old new s = unwritten × IsShortOf left old new s
Ends NoMemory unread unwritten left old new s = IsShortOf left old new s
Ends _ unread unwritten left old new s = ⊥

-- what was written if the session didn't begin: a proper prefix of its first answer, or nothing because memory ran
-- out
abbrev pub StopsAtOpening : Status → Type 0 → Option (List ℕ) → Option (List ℕ) → ScenarioContent → Type 0
StopsAtOpening WriteFault unwritten old new s = unwritten × AppendsFront old new (answer_text (Lines (open_lines s)))
StopsAtOpening NoMemory unwritten old new s = new ≡ old
StopsAtOpening _ unwritten old new s = ⊥

-- the session has continued from an earlier state: it is under way, and it will give the answers that the earlier
-- state had to give
pub record SessionGoesOn (from now : Session) (ahead_from ahead written_from written : Option (List ℕ)) : Type 0 where
  pub stands : (s : ScenarioContent) × (h : SessionHistory) × SessionStands now s h
  pub goes : (left old : Option (List ℕ)) (s : ScenarioContent) (h : SessionHistory) → SessionStands from s h → IsAnswering left ahead_from old written_from s h
      → (h_now : SessionHistory) × SessionStands now s h_now × IsAnswering left ahead old written s h_now

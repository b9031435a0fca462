-- What books represent in a run. Between rounds each book is at the state of its cabinet; within a round each has run
-- a journal of the streams that reach its cabinet. Cabinets are numbered from 1, in order.
use Rattle.std.specs.Prelude.{ℕ, ◌+◌, ◌≡◌, ◌<◌, ◌≤◌, List, [], ◌∷◌, map, length, get_or, All}
use Rattle.scenario_data.specs.Content.{ScenarioContent}
use Rattle.sig_types.specs.Items.{Ticked}
use Rattle.cabinet_history.specs.CabinetHistory.{CabinetHistory, after}
use Rattle.cabinet_history.specs.Journals.{Act, items_in}
use Rattle.cabinet_history.specs.CabinetAnswers.{acts_replies}
use Rattle.run_definition.specs.CabinetState.{CabinetState, answers_in, coming_streams}
use Rattle.cab_book.specs.declared.book.Book.{Book}
use Rattle.cab_book.specs.declared.control.Engine.{Engine}
use Rattle.cab_book.specs.Books.{BookStands, IsOnePart, streams_in, journal_of, acts_in, cabinet_history_now, engine_of, ticks_by_end}
use Rattle.round_run.specs.Replied.{replied_in}

-- the book is at this state of its cabinet
pub record IsAt (b : Book) (t : CabinetState) : Type 0 where
  pub began : CabinetHistory
  pub stands : BookStands b began
  pub now : cabinet_history_now b began ≡ t.cabinet_history

-- all books are at these states of their cabinets
pub record AreAt (books : List Book) (ts : List CabinetState) : Type 0 where
  pub many : length books ≡ length ts
  pub each : (k : ℕ) (b : Book) (t : CabinetState) → k < length ts → IsAt (get_or books k b) (get_or ts k t)

-- this engine computes the displays of all cabinets
abbrev pub AreGivenBy : Engine → List Book → Type 0
AreGivenBy engine books = All (λ (b : Book). engine_of b ≡ engine) books

-- the book has run this journal of the next round at the cabinet with this number, whose state before the round is
-- this; one pass brings all ticks
pub record HasRun (s : ScenarioContent) (cab : ℕ) (t : CabinetState) (journal : List ℕ) (b : Book) : Type 0 where
  pub stands : BookStands b t.cabinet_history
  pub streams : streams_in b ≡ coming_streams s cab t
  pub journal_is : journal_of b ≡ journal
  pub one : IsOnePart b

-- each book has run its own journal of the next round
pub record HaveRun (s : ScenarioContent) (ts : List CabinetState) (journals : List (List ℕ)) (books : List Book) : Type 0 where
  pub many : length books ≡ length ts
  pub as_many : length journals ≡ length ts
  pub each : (k : ℕ) (b : Book) (t : CabinetState) (journal : List ℕ) → k < length ts
      → HasRun s (k + 1) (get_or ts k t) (get_or journals k journal) (get_or books k b)

-- the journals of a round before anything was brought
abbrev pub no_journals : List CabinetState → List (List ℕ)
no_journals ts = map (λ t. []) ts

-- the book of a cabinet, which has this state before the round, has taken these acts of the round; one pass brings
-- all ticks
pub record HasCome (t : CabinetState) (acts : List Act) (b : Book) : Type 0 where
  pub stands : BookStands b t.cabinet_history
  pub acts_are : acts_in b ≡ acts
  pub one : IsOnePart b

-- the state of a cabinet after these acts of a round
abbrev pub state_by_acts : CabinetState → List Act → CabinetState
state_by_acts t acts = record {
  cabinet = t.cabinet;
  cabinet_history = after t.cabinet_history (items_in acts);
  answered = answers_in (acts_replies t.cabinet_history acts) ∷ t.answered;
}

-- all of these acts are ticks
abbrev pub AreTicks : List Act → Type 0
AreTicks acts = All (λ (act : Act). act.item ≡ Ticked) acts

-- none of these acts is a tick
abbrev pub HaveNoTicks : List Act → Type 0
HaveNoTicks acts = All (λ (act : Act). act.item ≡ Ticked → ⊥) acts

-- the cabinet had the first state before a round and has the second state now; its book is at the second state, and
-- its replies were added
pub record HasEnded (t u : CabinetState) (b : Book) : Type 0 where
  pub at : IsAt b u
  pub cabinet : u.cabinet ≡ t.cabinet
  pub answered : u.answered ≡ replied_in b ∷ t.answered

-- the same for each cabinet
pub record HaveEnded (ts next : List CabinetState) (books : List Book) : Type 0 where
  pub many : length books ≡ length ts
  pub as_many : length next ≡ length ts
  pub each : (k : ℕ) (t u : CabinetState) (b : Book) → k < length ts → HasEnded (get_or ts k t) (get_or next k u) (get_or books k b)

-- each cabinet has at most this many ticks at the end of its round
abbrev pub TicksWithin : ℕ → List Book → Type 0
TicksWithin most books = (k : ℕ) (b : Book) → k < length books → ticks_by_end (get_or books k b) ≤ most

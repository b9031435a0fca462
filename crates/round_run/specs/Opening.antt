-- What the beginning of a round requires of its streams, and what it makes of a book.
use Rattle.std.specs.Prelude.{ℕ, ◌+◌, ◌≡◌, ◌<◌, ◌≤◌, ◌⊎◌, List, [], length, get_or}
use Rattle.scenario_data.specs.Content.{ScenarioContent}
use Rattle.sig_types.specs.declared.streams.Streams.{Streams}
use Rattle.sig_types.specs.Items.{items_of}
use Rattle.cabinet_history.specs.CabinetHistory.{CabinetHistory}
use Rattle.run_definition.specs.CabinetState.{CabinetState, coming_streams}
use Rattle.cab_book.specs.declared.book.Book.{Book}
use Rattle.cab_book.specs.Books.{BookStands, CanBeTaken, IsOnePart, streams_in, journal_of, cabinet_history_now, ticks_by_end}

-- there are streams for each book, they are valid for a round, and the total number of ticks stays below the limit
pub record CanOpen (books : List Book) (streams : List Streams) : Type 0 where
  pub many : length streams ≡ length books
  pub taken : (k : ℕ) (one : Streams) → k < length books → CanBeTaken (get_or streams k one)
  pub few : (k : ℕ) (b : Book) (one : Streams) → k < length books → ticks_by_end (get_or books k b) + (get_or streams k one).ticks ≤ 4294967294

-- these are the streams that reach the cabinets, which have these states
pub record AreComing (s : ScenarioContent) (ts : List CabinetState) (streams : List Streams) : Type 0 where
  pub many : length streams ≡ length ts
  pub each : (k : ℕ) (t : CabinetState) (one : Streams) → k < length ts → items_of (get_or streams k one) ≡ coming_streams s (k + 1) (get_or ts k t)

-- the round has at most this many ticks for each cabinet
abbrev pub TicksAtMost : ℕ → List Streams → Type 0
TicksAtMost ticks streams = (k : ℕ) (one : Streams) → k < length streams → (get_or streams k one).ticks ≤ ticks

-- a round with these streams has begun on a book: nothing of it was brought yet
pub record Begins (old new : Book) (one : Streams) : Type 0 where
  pub stands : (cabinet_history : CabinetHistory) → BookStands old cabinet_history → BookStands new (cabinet_history_now old cabinet_history)
  pub streams : streams_in new ≡ items_of one
  pub journal : journal_of new ≡ []
  pub whole : IsOnePart new
  pub ticks : ticks_by_end new ≤ ticks_by_end old + one.ticks

-- a round has begun on some of the books, and the others are unchanged
pub record BeginsSome (old new : List Book) (streams : List Streams) : Type 0 where
  pub many : length new ≡ length old
  pub each : (k : ℕ) (b : Book) (one : Streams) → k < length old
      → (get_or new k b ≡ get_or old k b) ⊎ Begins (get_or old k b) (get_or new k b) (get_or streams k one)

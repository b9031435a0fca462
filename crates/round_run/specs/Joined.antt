-- What workers in threads make of a round: each book has brought all items that reached its cabinet, in an order that
-- the workers determine.
use Rattle.std.specs.Prelude.{ℕ, ◌≡◌, ◌≢◌, ◌<◌, ◌≤◌, ◌+◌, ◌++◌, List, [], length, get_or, map, replicate, All}
use Rattle.scenario_data.specs.Content.{ScenarioContent}
use Rattle.run_definition.specs.CabinetState.{CabinetState}
use Rattle.run_definition.specs.Orders.{EachMerges}
use Rattle.sig_types.specs.declared.streams.Stream.{Stream}
use Rattle.sig_types.specs.Passes.{number_of}
use Rattle.cab_book.specs.declared.book.Book.{Book}
use Rattle.cabinet_history.specs.CabinetHistory.{CabinetHistory}
use Rattle.cabinet_history.specs.Journals.{IsMerge}
use Rattle.cab_book.specs.Books.{BookStands, IsOnePart, Shares, streams_in, journal_of, left_of, ticks_by_end}
use Rattle.cab_book.specs.Shares.{shares}
use Rattle.round_run.specs.CabinetStates.{HaveRun}

-- no item of the round was brought to any book yet, and no ticks were shared
abbrev pub AreFresh : List Book → Type 0
AreFresh books = All (λ b. (journal_of b ≡ []) × IsOnePart b) books

-- no pass has more than 2^31 items left at a book
abbrev pub HaveFewLeft : List Book → Type 0
HaveFewLeft books = All (λ b. (p : ℕ) → left_of b p ≤ 2147483648) books

-- the journals of the books
abbrev pub journals_in : List Book → List (List ℕ)
journals_in books = map journal_of books

-- the books have run the next round by their own journals, and these bring each item of each stream once, in the
-- order of the stream
pub record HaveMerged (s : ScenarioContent) (ts : List CabinetState) (books : List Book) : Type 0 where
  pub merges : EachMerges s 1 ts (journals_in books)
  pub run : HaveRun s ts (journals_in books) books

-- this many of the next items of a stream were brought
pub record BringsSome (old new : Book) (stream : Stream) (many : ℕ) : Type 0 where
  pub stands : (cabinet_history : CabinetHistory) → BookStands old cabinet_history → BookStands new cabinet_history
  pub streams : streams_in new ≡ streams_in old
  pub journal : journal_of new ≡ journal_of old ++ replicate many (number_of stream)
  pub own : left_of new (number_of stream) + many ≡ left_of old (number_of stream)
  pub others : (p : ℕ) → p ≢ number_of stream → left_of new p ≡ left_of old p
  pub ticks : ticks_by_end new ≡ ticks_by_end old

-- all items that were left in a book's round have been brought, regardless of what was brought before: its journal
-- has each pass as often as its stream has items
pub record Finishes (old new : Book) : Type 0 where
  pub stands : (cabinet_history : CabinetHistory) → BookStands old cabinet_history → BookStands new cabinet_history
  pub streams : streams_in new ≡ streams_in old
  pub merges : IsMerge (streams_in new) (journal_of new)
  pub one : IsOnePart new
  pub ticks : ticks_by_end new ≡ ticks_by_end old

-- the ticks of a book's round are shared in this many parts, and nothing else of the book has changed
pub record IsShared (parts : ℕ) (old new : Book) : Type 0 where
  pub parts_are : (k : ℕ) → k < 4 → left_of new (4 + k) ≡ get_or (shares parts (length (get_or (streams_in old) 4 []))) k 0
  pub shares : Shares old new
  pub above : (p : ℕ) → 8 ≤ p → left_of new p ≡ 0

-- this holds for each book
pub record AreShared (parts : ℕ) (old new : List Book) : Type 0 where
  pub many : length new ≡ length old
  pub each : (k : ℕ) (b : Book) → k < length old → IsShared parts (get_or old k b) (get_or new k b)

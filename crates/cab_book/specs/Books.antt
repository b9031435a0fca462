-- What a book represents: the cabinet history at which its round began, the streams of the round, and the journal of
-- the items that were taken from them.
use Rattle.std.specs.Prelude.{ℕ, ◌+◌, ◌≡◌, ◌≢◌, ◌<◌, ◌≤◌, List, [], ◌∷◌, ◌++◌, length, replicate, get_or, None}
use Rattle.sig_types.specs.declared.frame.Frame.{Frame}
use Rattle.sig_types.specs.declared.streams.Stream.{Stream}
use Rattle.sig_types.specs.Passes.{number_of}
use Rattle.sig_types.specs.Items.{Item, Came, Ticked, items_of}
use Rattle.cabinet_history.specs.CabinetHistory.{CabinetHistory}
use Rattle.cabinet_history.specs.Journals.{Act, times}
use Rattle.cabinet_history.specs.Coming.{ask_after}
use Rattle.cab_book.specs.declared.book.Book.{Book}
use Rattle.cab_book.specs.declared.cabinet.Cabinet.{Cabinet}
use Rattle.cab_book.specs.declared.control.Engine.{Engine}
use Rattle.cab_book.specs.declared.happened.Answered.{Answered}
use Rattle.cab_book.specs.CabinetStands.{cabinet_engine}
use Rattle.cab_book.specs.Happened.{IsSameRound, behind, journal_in, written_of, answered_of}
use Rattle.cab_book.specs.Rounds.{RoundStands, acts_so_far, cabinet_history_after}
use Rattle.cab_book.specs.Shares.{ticks_left}
pub use Rattle.cab_book.specs.Rounds.{CanBeTaken, with_last}

-- the streams of the round
abbrev pub streams_in : Book → List (List Item)
streams_in b = items_of b.streams

-- the journal of the round so far
abbrev pub journal_of : Book → List ℕ
journal_of b = journal_in b.happened

-- the displays of the round that have a line
abbrev pub written_in : Book → List (ℕ × Frame)
written_in b = written_of b.happened

-- the replies of the round
abbrev pub answered_in : Book → List Answered
answered_in b = answered_of b.happened

-- the number of items of a pass that are left in the round
abbrev pub left_of : Book → ℕ → ℕ
left_of b pass = get_or b.left pass 0

-- the acts of the round so far
abbrev pub acts_in : Book → List Act
acts_in b = acts_so_far b.streams b.happened

-- the next act of a pass
abbrev pub next_act : Book → ℕ → Act
next_act b pass = record { pass = pass; item = get_or (get_or (streams_in b) pass []) (times pass (journal_of b)) Ticked }

-- the acts of a pass that brings this many ticks
abbrev pub tick_acts : ℕ → ℕ → List Act
tick_acts pass many = replicate many (record { pass = pass; item = Ticked })

-- the cabinet of the book
abbrev pub cabinet_in : Book → Cabinet
cabinet_in b = b.cabinet.value

-- the cabinet history now, if the round began at this one
abbrev pub cabinet_history_now : Book → CabinetHistory → CabinetHistory
cabinet_history_now b cabinet_history = cabinet_history_after b.streams b.happened cabinet_history

-- the engine that computes the displays of the cabinet
abbrev pub engine_of : Book → Engine
engine_of b = cabinet_engine b.cabinet.value

-- the number of ticks of the cabinet at the end of the round
abbrev pub ticks_by_end : Book → ℕ
ticks_by_end b = b.cabinet.value.ticks + ticks_left b.left

-- the book's round began at this cabinet history, and what the book has written and replied since is what its journal
-- has brought
abbrev pub BookStands : Book → CabinetHistory → Type 0
BookStands b cabinet_history = RoundStands b.cabinet.value b.streams b.happened cabinet_history

-- pass 4 brings all ticks of the round: no higher pass has brought any, and none has any left
abbrev pub IsOnePart : Book → Type 0
IsOnePart b = (p : ℕ) → 5 ≤ p → left_of b p + times p (journal_of b) ≡ 0

-- the ticks of a book were shared among its passes, or all given to pass 4; nothing else changed. No item had been
-- brought
pub record Shares (old new : Book) : Type 0 where
  pub wide : length old.left ≡ 8
  pub cabinet : new.cabinet ≡ old.cabinet
  pub streams : new.streams ≡ old.streams
  pub happened : new.happened ≡ old.happened
  pub others : (p : ℕ) → p < 4 → left_of new p ≡ left_of old p
  pub ticks : ticks_left new.left ≡ ticks_left old.left

-- a message was ignored: the cabinet is unchanged, and only the missing reply was noted
pub record IsIgnored (old new : Book) (pass : ℕ) : Type 0 where
  pub cabinet : cabinet_in new ≡ cabinet_in old
  pub written : written_in new ≡ written_in old
  pub silence : answered_in new ≡ answered_in old ++ behind (length (written_in old)) (record { pass = pass; text = None; load = None } ∷ [])

-- if the next item of a pass is a message that asks nothing, it is ignored
abbrev pub IgnoresWhatAsksNothing : Book → Book → ℕ → Item → Type 0
IgnoresWhatAsksNothing old new pass item = (cabinet_history : CabinetHistory) (octets : List ℕ) → BookStands old cabinet_history → item ≡ Came octets
    → ask_after (cabinet_history_now old cabinet_history) octets ≡ None → IsIgnored old new pass

-- a pass has brought the next item of its stream
pub record IsBrought (old new : Book) (pass : ℕ) : Type 0 where
  pub stands : (cabinet_history : CabinetHistory) → BookStands old cabinet_history → BookStands new cabinet_history
  pub streams : streams_in new ≡ streams_in old
  pub journal : journal_of new ≡ journal_of old ++ pass ∷ []
  pub acts : acts_in new ≡ acts_in old ++ next_act old pass ∷ []
  pub own : left_of new pass + 1 ≡ left_of old pass
  pub others : (p : ℕ) → p ≢ pass → left_of new p ≡ left_of old p
  pub ticks : ticks_by_end new ≡ ticks_by_end old
  pub ignored : IgnoresWhatAsksNothing old new pass (next_act old pass).item

-- one more item was added at the end of a stream, and has not been brought
pub record IsLengthened (old new : Book) (stream : Stream) (item : Item) : Type 0 where
  pub stands : (cabinet_history : CabinetHistory) → BookStands old cabinet_history → BookStands new cabinet_history
  pub streams : streams_in new ≡ with_last (streams_in old) stream item
  pub journal : journal_of new ≡ journal_of old
  pub acts : acts_in new ≡ acts_in old
  pub own : left_of new (number_of stream) ≡ left_of old (number_of stream) + 1
  pub others : (p : ℕ) → p ≢ number_of stream → left_of new p ≡ left_of old p
  pub ticks : ticks_by_end new ≡ ticks_by_end old
  pub cabinet : cabinet_in new ≡ cabinet_in old
  pub written : written_in new ≡ written_in old
  pub answered : answered_in new ≡ answered_in old

-- one more item was added at the end of a stream, and was brought at once
pub record IsBroughtAtEnd (old new : Book) (stream : Stream) (item : Item) : Type 0 where
  pub stands : (cabinet_history : CabinetHistory) → BookStands old cabinet_history → BookStands new cabinet_history
  pub streams : streams_in new ≡ with_last (streams_in old) stream item
  pub journal : journal_of new ≡ journal_of old ++ number_of stream ∷ []
  pub acts : acts_in new ≡ acts_in old ++ record { pass = number_of stream; item = item } ∷ []
  pub left : (p : ℕ) → left_of new p ≡ left_of old p
  pub ticks : ticks_by_end new ≡ ticks_by_end old
  pub one : IsOnePart old → IsOnePart new
  pub ignored : IgnoresWhatAsksNothing old new (number_of stream) item

-- only the capacity of a book's lists has changed
pub record HasOnlyRoom (old new : Book) : Type 0 where
  pub cabinet : cabinet_in new ≡ cabinet_in old
  pub streams : new.streams ≡ old.streams
  pub left : new.left ≡ old.left
  pub happened : IsSameRound old.happened new.happened

-- nothing has changed that a contract states about a book
pub record IsAsBefore (old new : Book) : Type 0 where
  pub cabinet_histories : (cabinet_history : CabinetHistory) → BookStands old cabinet_history → BookStands new cabinet_history
  pub no_others : (cabinet_history : CabinetHistory) → BookStands new cabinet_history → BookStands old cabinet_history
  pub streams : streams_in new ≡ streams_in old
  pub journal : journal_of new ≡ journal_of old
  pub acts : acts_in new ≡ acts_in old
  pub written : written_in new ≡ written_in old
  pub answered : answered_in new ≡ answered_in old
  pub left : (p : ℕ) → left_of new p ≡ left_of old p
  pub ticks : ticks_by_end new ≡ ticks_by_end old

-- the book `now` results from `first` by passes that brought items of the same round. It has the same streams, its
-- round began at the same cabinet histories, and its cabinet has the same number of ticks at the end of the round
pub record Replays (first now : Book) : Type 0 where
  pub streams : streams_in now ≡ streams_in first
  pub cabinet_histories : (cabinet_history : CabinetHistory) → BookStands first cabinet_history → BookStands now cabinet_history
  pub ticks : ticks_by_end now ≡ ticks_by_end first

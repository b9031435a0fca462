-- What a round has produced so far, as the code stores it: its journal, the displays that have a line, and the
-- replies.
use Rattle.std.specs.Prelude.{ℕ, ◌≡◌, ◌≤◌, ◌+◌, List, [], ◌∷◌, ◌++◌, length, replicate, map, vec_len, vec_capacity}
use Rattle.sig_types.specs.declared.frame.Frame.{Frame}
use Rattle.cabinet_history.specs.declared.Reply.{Reply}
use Rattle.cabinet_history.specs.CabinetHistory.{CabinetHistory}
use Rattle.cabinet_history.specs.Journals.{Act, passes_of}
use Rattle.cabinet_history.specs.CabinetAnswers.{acts_replies, acts_written}
use Rattle.cab_book.specs.declared.happened.Answered.{Answered}
use Rattle.cab_book.specs.declared.happened.Happened.{Happened}
use Rattle.cab_book.specs.Happenings.{acts_happenings, interleaved, replies_in, AreInOrder}

-- the journal
abbrev pub journal_in : Happened → List ℕ
journal_in h = passes_of h.journal.runs.items

-- the frames that have a line
abbrev pub written_of : Happened → List (ℕ × Frame)
written_of h = h.written.items

-- the replies
abbrev pub answered_of : Happened → List Answered
answered_of h = h.replies.items

-- there is capacity for this many more ticks, messages and items
pub record HasRoom (h : Happened) (ticks frames items : ℕ) : Type 0 where
  pub written : vec_len h.written + ticks ≤ vec_capacity h.written
  pub replies : vec_len h.replies + frames ≤ vec_capacity h.replies
  pub journal : vec_len h.journal.runs + items ≤ vec_capacity h.journal.runs

-- the content is the same, whatever the capacity
pub record IsSameRound (old new : Happened) : Type 0 where
  pub journal : journal_in new ≡ journal_in old
  pub written : written_of new ≡ written_of old
  pub replies : answered_of new ≡ answered_of old

-- the content is what these acts produce after a cabinet history: the displays, the replies, and their order
pub record IsWritten (h : Happened) (cabinet_history : CabinetHistory) (acts : List Act) : Type 0 where
  pub frames : written_of h ≡ acts_written cabinet_history acts
  pub replies : replies_in (answered_of h) ≡ acts_replies cabinet_history acts
  pub order : interleaved 0 (written_of h) (answered_of h) ≡ acts_happenings cabinet_history acts
  pub counts : AreInOrder 0 (answered_of h) (length (written_of h))

-- replies that came after this many displays
abbrev pub behind : ℕ → List Reply → List Answered
behind many replies = map (λ r. record { reply = r; behind = many }) replies

-- one more pass has brought an item that produced these displays and these replies
pub record HappenedGoesOn (old new : Happened) (pass : ℕ) (frames : List (ℕ × Frame)) (told : List Reply) : Type 0 where
  pub journal : journal_in new ≡ journal_in old ++ pass ∷ []
  pub written : written_of new ≡ written_of old ++ frames
  pub replies : answered_of new ≡ answered_of old ++ behind (length (written_of old)) told

-- a pass has brought this many ticks, which produced these displays
pub record TicksOn (old new : Happened) (pass many : ℕ) (frames : List (ℕ × Frame)) : Type 0 where
  pub journal : journal_in new ≡ journal_in old ++ replicate many pass
  pub written : written_of new ≡ written_of old ++ frames
  pub replies : answered_of new ≡ answered_of old

-- A round of a cabinet in parts: which streams are valid, how many items are left, and the cabinet history after the
-- items brought so far.
use Rattle.std.specs.Prelude.{ℕ, ◌+◌, ◌≡◌, ◌≤◌, ◌<◌, List, [], ◌∷◌, ◌++◌, length, get_or, slice_set}
use Rattle.sig_types.specs.declared.frame.Field.{Field}
use Rattle.tick_context.specs.CanRun.{NamesPlace}
use Rattle.sig_types.specs.declared.streams.Streams.{Streams}
use Rattle.sig_types.specs.declared.streams.Stream.{Stream}
use Rattle.sig_types.specs.declared.streams.Stream.TheVariants.{Inputs, Ticks}
use Rattle.sig_types.specs.declared.notes.Way.TheVariants.{Poll, Load, Prio}
use Rattle.sig_types.specs.Passes.{number_of, pass_of}
use Rattle.sig_types.specs.Items.{Item, items_of}
use Rattle.cabinet_history.specs.CabinetHistory.{CabinetHistory, after}
use Rattle.cabinet_history.specs.Journals.{Act, times, acts_of, items_in}
use Rattle.cab_book.specs.declared.cabinet.Cabinet.{Cabinet}
use Rattle.cab_book.specs.declared.happened.Happened.{Happened}
use Rattle.cab_book.specs.CabinetStands.{CabinetStands}
use Rattle.cab_book.specs.Shares.{ticks_left, ticks_brought}
use Rattle.cab_book.specs.Happened.{IsWritten, HasRoom, journal_in}

-- the items of all streams, with one more item at the end of a stream
abbrev pub with_last : List (List Item) → Stream → Item → List (List Item)
with_last streams stream item = slice_set streams (number_of stream) (get_or streams (number_of stream) [] ++ item ∷ [])

-- each input has a valid phase or preempt
abbrev pub ArePlaced : Streams → Type 0
ArePlaced streams = (k : ℕ) (field : Field) → k < length streams.fields.items → NamesPlace (get_or streams.fields.items k field)

-- the streams are valid for a round: each input has a valid phase or preempt, and no list has more than 2^31 items
pub record CanBeTaken (streams : Streams) : Type 0 where
  pub placed : ArePlaced streams
  pub few_fields : length streams.fields.items ≤ 2147483648
  pub few_polls : length streams.polls.items ≤ 2147483648
  pub few_loads : length streams.loads.items ≤ 2147483648
  pub few_prios : length streams.prios.items ≤ 2147483648

-- no stream has more than 4,294,967,294 items
abbrev pub AreShort : Streams → Type 0
AreShort streams = (p : ℕ) → length (get_or (items_of streams) p []) ≤ 4294967294

-- for each stream the items left and the items in the journal are together all its items; for ticks, those of passes
-- 4 to 7 are added
pub record AreTallied (streams : Streams) (left : List ℕ) (h : Happened) : Type 0 where
  pub each : (p : ℕ) → p < 4 → get_or left p 0 + times p (journal_in h) ≡ length (get_or (items_of streams) p [])
  pub ticks : ticks_left left + ticks_brought (journal_in h) ≡ length (get_or (items_of streams) (number_of Ticks) [])
  pub others : (p : ℕ) → 8 ≤ p → get_or left p 0 + times p (journal_in h) ≡ 0

-- the number of messages that are left
abbrev pub frames_left : List ℕ → ℕ
frames_left left = get_or left (pass_of Poll) 0 + get_or left (pass_of Load) 0 + get_or left (pass_of Prio) 0

-- the number of items that are left
abbrev pub items_left : List ℕ → ℕ
items_left left = get_or left (number_of Inputs) 0 + frames_left left + ticks_left left

-- there is capacity for everything that the items left can produce
abbrev pub HasRoomFor : List ℕ → Happened → Type 0
HasRoomFor left h = HasRoom h (ticks_left left) (frames_left left) (items_left left)

-- the acts so far
abbrev pub acts_so_far : Streams → Happened → List Act
acts_so_far streams h = acts_of (items_of streams) (journal_in h)

-- the cabinet history now, if the round began at this one
abbrev pub cabinet_history_after : Streams → Happened → CabinetHistory → CabinetHistory
cabinet_history_after streams h cabinet_history = after cabinet_history (items_in (acts_so_far streams h))

-- the round began at this cabinet history; the cabinet, and what was written and replied since, are what the journal
-- has brought
pub record RoundStands (c : Cabinet) (streams : Streams) (h : Happened) (cabinet_history : CabinetHistory) : Type 0 where
  pub cabinet : CabinetStands c (cabinet_history_after streams h cabinet_history)
  pub written : IsWritten h cabinet_history (acts_so_far streams h)

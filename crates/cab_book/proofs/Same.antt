-- Books that keep the same are the same: what holds of what they keep holds in one way.
use Rattle.std.proofs.Common.{◌≡◌, ◌≤◌, ◌+◌, ◌∙◌, ℕ, List, ap, sym, subst}
use Rattle.std.specs.Global.{Box}
use Rattle.std.proofs.Props.{props}
use Rattle.sig_types.specs.declared.streams.Streams.{Streams}
use Rattle.cabinet_history.specs.CabinetHistory.{CabinetHistory}
use Rattle.cab_book.specs.declared.cabinet.Cabinet.{Cabinet}
use Rattle.cab_book.specs.declared.happened.Happened.{Happened}
use Rattle.cab_book.specs.declared.book.Book.{Book}
use Rattle.cab_book.specs.Shares.{ticks_left}
use Rattle.cab_book.specs.Rounds.{ArePlaced, AreShort, AreTallied, HasRoomFor, RoundStands}

-- what a book keeps, and what holds of it
abbrev Kept : Type 0
Kept = Box Cabinet × Streams × List ℕ × Happened

record Holds (k : Kept) : Type 0 where
  placed : ∥ ArePlaced k.1 ∥₁
  few : k.0.value.ticks + ticks_left k.2 ≤ 4294967294
  room : HasRoomFor k.2 k.3
  tallied : AreTallied k.1 k.2 k.3
  short : AreShort k.1
  some : ∥ ((cabinet_history : CabinetHistory) × RoundStands k.0.value k.1 k.3 cabinet_history) ∥₁

holds-one : (k : Kept) → IsProp (Holds k)
holds-one k = hlevel props

abbrev of : (k : Kept) → Holds k → Book
of k h = record {
  cabinet = k.0;
  streams = k.1;
  left = k.2;
  happened = k.3;
  placed = h.placed;
  few = h.few;
  room = h.room;
  tallied = h.tallied;
  short = h.short;
  some = h.some;
}

abbrev kept : Book → Kept
kept b = (b.cabinet, b.streams, b.left, b.happened)

abbrev holds : (b : Book) → Holds (kept b)
holds b = record { placed = b.placed; few = b.few; room = b.room; tallied = b.tallied; short = b.short; some = b.some }

pub book-same : (a b : Book) → a.cabinet ≡ b.cabinet → a.streams ≡ b.streams → a.left ≡ b.left → a.happened ≡ b.happened → a ≡ b
book-same a b cabinet streams left happened =
    let path : kept b ≡ kept a =
    sym (ap (λ (x : Box Cabinet). (x, a.streams, a.left, a.happened)) cabinet
    ∙ ap (λ (x : Streams). (b.cabinet, x, a.left, a.happened)) streams
    ∙ ap (λ (x : List ℕ). (b.cabinet, b.streams, x, a.happened)) left
    ∙ ap (λ (x : Happened). (b.cabinet, b.streams, b.left, x)) happened) in
    subst (λ (k : Kept). (h : Holds k) → of k h ≡ b) path (λ h. ap (of (kept b)) (holds-one (kept b) h (holds b))) (holds a)

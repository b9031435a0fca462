-- What the clauses of a row and its passes state.
use Rattle.std.specs.Prelude.{◌≡◌, ◌≢◌, ℕ, ◌+◌, ◌-◌, ◌%◌, ◌<◌, ◌≤◌, ◌⊎◌, List, [], ◌∷◌, length, slice_index, slice_index_or, replicate, map, None, vec_capacity}
use mathlib.Core.Option.{some}
use base.Stored.{Gv}
use lib.ListN.{get_elem?}
use Rattle.cab_row.specs.declared.row.Row.{Row}
use Rattle.cab_row.specs.declared.pass.Pass.{Pass}
use Rattle.cab_row.specs.declared.view.View.{View}
use Rattle.cab_row.specs.Views.{total, times, owns, count, added, looked, finished, finished_with, spent}

-- the view of a badge
abbrev pub seat_view : List View → View
seat_view [] = spent
seat_view (v ∷ vs) = v

-- what the pass knows of its own actions
abbrev pub view_of : Pass → View
view_of pass = seat_view pass.badge.views

-- the number of the pass's items at this cabinet (counted from 1) whose calls were answered as done
abbrev pub done_by : Pass → ℕ → ℕ
done_by pass cab = count pass.number (cab - 1) (view_of pass)

-- the view belongs to this pass, and holds no cabinet
pub record IsOwn (opening : List Gv) (passes number : ℕ) (v : View) : Type 0 where
  pub opening_is : v.opening ≡ opening
  pub passes_are : v.passes ≡ passes
  pub number_is : v.number ≡ number
  pub numbers : v.numbers ≡ number ∷ []
  pub free : v.holds ≡ None
  -- it counts only its own items
  pub only : (p c : ℕ) → p ≢ number → count p c v ≡ 0

module _ {B : Type 0} where
  -- the books with which the row was opened
  abbrev pub books_of : Row B → List B
  books_of row = row.table.shared.key.books.value.items

  -- the capacity of the list with these books
  abbrev pub room_of : Row B → ℕ
  room_of row = vec_capacity row.room

  -- the number of items with which pass `n` was opened at a cabinet, counted from 0
  abbrev pub items_at : Row B → ℕ → ℕ → ℕ
  items_at row c n = slice_index (slice_index_or row.items.items c (replicate 8 0)) n

  -- the number of items that the pass has left at a cabinet, counted from 1
  abbrev pub remains : Row B → Pass → ℕ → ℕ
  remains row pass cab = items_at row (cab - 1) pass.number - slice_index pass.done (cab - 1)

-- the views of these passes together count what the view `v` counts
abbrev pub Sums : List Pass → View → Type 0
Sums passes v = ((p : ℕ) → owns p v ≡ total (λ x. owns p (view_of x)) passes) × ((p c : ℕ) → count p c v ≡ total (λ x. count p c (view_of x)) passes)

module _ {B : Type 0} (code : B → Gv) (left_of : B → ℕ → ℕ) where
  -- the pass belongs to this row
  pub record IsPassOf (row : Row B) (pass : Pass) : Type 0 where
    pub table : pass.badge.table_id ≡ row.table.shared.table_id
    pub views : pass.badge.views ≡ view_of pass ∷ []
    pub view : IsOwn (map code (books_of row)) row.passes pass.number (view_of pass)
    pub small : pass.number < 8
    pub wide : length pass.done ≡ 64
    pub left : (c : ℕ) (first : B) → get_elem? (books_of row) c ≡ some first → (slice_index pass.done c ≤ left_of first pass.number) × (items_at row c pass.number ≡ left_of first pass.number) × (left_of first pass.number ≤ 2147483648)
    pub done : (c : ℕ) → c < 64 → slice_index pass.done c ≡ count pass.number c (view_of pass)

  -- the pass is new: it has done nothing
  pub record IsNew (row : Row B) (number : ℕ) (pass : Pass) : Type 0 where
    pub mine : IsPassOf row pass
    pub number_is : pass.number ≡ number
    pub none_done : (view_of pass).done ≡ []

  -- these are new passes, with the numbers from `p` on
  abbrev pub AreNew : Row B → ℕ → List Pass → Type 0
  AreNew row p [] = Unit {0}
  AreNew row p (x ∷ xs) = IsNew row p x × AreNew row (p + 1) xs

  -- the row has noted how many items each book had left for each pass
  abbrev pub HasItems : Row B → Type 0
  HasItems row = (c : ℕ) (first : B) → get_elem? (books_of row) c ≡ some first → (p : ℕ) → p < 8 → (items_at row c p ≡ left_of first p) × (left_of first p ≤ 2147483648)

-- A call at the cabinet c, counted from 0, by the views of its pass before and after.
-- Done: it looked once, found the word even, took the book there and gave it back with one item of its own more
abbrev pub HasActed : View → View → ℕ → Type 0
HasActed v w c = (seen : ℕ) × (seen % 2 ≡ 0) × (w ≡ finished (looked v c seen) c)

-- Done with k items: the same, with k items of its own more
abbrev pub HasBrought : View → View → ℕ → ℕ → Type 0
HasBrought v w c k = (seen : ℕ) × (seen % 2 ≡ 0) × (w ≡ finished_with (looked v c seen) c k)

-- Busy: it looked and found an odd word; or it looked, found the word even, and then found one different from that
abbrev pub WasMet : View → View → ℕ → ℕ → Type 0
WasMet v w c word = ((word % 2 ≡ 1) × (w ≡ looked v c word)) ⊎ ((seen : ℕ) × (seen % 2 ≡ 0) × (word ≢ seen) × (w ≡ looked (looked v c seen) c word))

-- the counts, and what the pass has added to each word, are unchanged
abbrev pub SameCounts : View → View → Type 0
SameCounts v w = ((p c : ℕ) → count p c w ≡ count p c v) × ((c : ℕ) → added c w ≡ added c v)

-- the last look was made in this call and found this word at the cabinet. The word is odd, or it differs from the
-- word that the look before it, also in this call, found there
abbrev pub HasSeen : View → View → ℕ → ℕ → Type 0
HasSeen v w c word = (v.looks < w.looks) × (w.last ≡ (c, word))
    × ((word % 2 ≡ 1) ⊎ ((v.looks + 2 ≤ w.looks) × (w.before.0 ≡ c) × (w.before.1 ≢ word)))

module _ {B : Type 0} (journal : B → List ℕ) (left_of : B → ℕ → ℕ) (Replays : B → B → Type 0) where
  -- the book replays its journal from the first book. The journal has each pass as often as its items at this cabinet
  -- were answered as done, and no other pass
  pub record IsMerged (first : B) (passes : List Pass) (cab : ℕ) (b : B) : Type 0 where
    pub replays : Replays first b
    pub left : (p : ℕ) → left_of b p + times p (journal b) ≡ left_of first p
    pub each : (k : ℕ) (pass : Pass) → get_elem? passes k ≡ some pass → times pass.number (journal b) ≡ done_by pass cab
    pub none : (p : ℕ) → ((k : ℕ) (pass : Pass) → get_elem? passes k ≡ some pass → pass.number ≢ p) → times p (journal b) ≡ 0

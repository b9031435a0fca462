-- The rule of a row: it holds between any two steps of any threads, for the words, the books that no worker holds,
-- and the views.
use Rattle.std.specs.Prelude.{◌≡◌, ◌≢◌, ℕ, ◌+◌, ◌*◌, ◌%◌, ◌<◌, ◌≤◌, List, length, map, slice_index, Some, None}
use mathlib.Core.Option.{some}
use base.Stored.{Gv}
use lib.ListN.{get_elem?}
use Rattle.atomic_table.specs.Table.{State}
use Rattle.cab_row.specs.declared.view.View.{View}
use Rattle.cab_row.specs.Views.{total, times, is_given, count, owns, has, added}

-- the views together count exactly what the journal of the cabinet `c` has
abbrev pub Counted : ℕ → List ℕ → List View → Type 0
Counted c journal views = (p : ℕ) → times p journal ≡ total (count p c) views

module _ {B : Type 0} (code : B → Gv) (journal : B → List ℕ) (left : B → ℕ → ℕ) (Replays : B → B → Type 0) where
  -- the book is the first book after its journal, and has left what the journal leaves
  abbrev pub StandsFrom : B → B → Type 0
  StandsFrom first b = Replays first b × ((p : ℕ) → left b p + times p (journal b) ≡ left first p)

  -- this holds for the book with which the cabinet was opened
  abbrev pub Since : List Gv → ℕ → B → Type 0
  Since opening c b = (first : B) → get_elem? opening c ≡ some (code first) → StandsFrom first b

  -- no worker holds the book; the word is twice the length of its journal, and the views count what the journal has
  abbrev pub IsHome : List B → State B View → ℕ → Type 0
  IsHome books s c = (b : B) × (get_elem? s.homes c ≡ some (some b)) × (slice_index s.words c ≡ 2 * length (journal b)) × Since (map code books) c b × Counted c (journal b) s.views

  -- what holds for one view
  pub record Knows (books : List B) (passes given : ℕ) (s : State B View) (v : View) : Type 0 where
    -- if the view owns its number, it knows with which books and passes the row was opened
    pub opened : 0 < owns v.number v → (v.opening ≡ map code books) × (v.passes ≡ passes)
    pub giver : 0 < v.given → v.given ≡ given
    -- it counts only the items of its own numbers
    pub idle : (p c : ℕ) → owns p v ≡ 0 → count p c v ≡ 0
    -- a view that holds a cabinet has its own number. The word is one more than twice the length of the journal that
    -- it took
    pub holder : v.holds ≢ None → owns v.number v ≡ 1
    pub held : (c : ℕ) → v.holds ≡ Some c → (c < length books) × (slice_index s.words c ≡ 2 * length v.taken + 1) × Counted c v.taken s.views

  abbrev pub IsSmall : List B → Type 0
  IsSmall books = (c p : ℕ) (first : B) → get_elem? books c ≡ some first → left first p ≤ 2147483648

  pub record RowKeeps (books : List B) (passes : ℕ) (s : State B View) : Type 0 where
    -- how many pass numbers were given
    pub given : ℕ
    pub few : given ≤ passes
    pub eight : passes ≤ 8
    pub small : IsSmall books
    pub words : length s.words ≡ length books
    pub homes : length s.homes ≡ length books
    -- exactly one view holds a cabinet with an odd word, and none holds one with an even word
    pub locks : (c : ℕ) → c < length books → total (has c) s.views ≡ slice_index s.words c % 2
    pub even : (c : ℕ) → c < length books → slice_index s.words c % 2 ≡ 0 → IsHome books s c
    -- a word is the sum of what the views have added to it: a pass that adds nothing changes no word
    pub adds : (c : ℕ) → c < length books → slice_index s.words c ≡ total (added c) s.views
    pub knows : (id : ℕ) (v : View) → get_elem? s.views id ≡ some v → Knows books passes given s v
    -- each number that was given has its counts in exactly one view; a number that wasn't given has them in none
    pub owned : (p : ℕ) → total (owns p) s.views ≡ is_given p given
    pub gives : total (λ v. v.given) s.views ≡ given

-- What each step states about the step itself, the seat before, the number found and the seat after. Only a pass that
-- holds no cabinet may look or take a book, so that no pass ever meets itself.
use Rattle.std.specs.Prelude.{◌≡◌, ◌≢◌, ℕ, ◌+◌, ◌*◌, List, ◌∷◌, None}
use base.Stored.{Gv}
use Rattle.atomic_table.specs.Table.{Me, Step, rest}
use Rattle.cab_row.specs.declared.view.View.{View}
use Rattle.cab_row.specs.Views.{times, count, looked, holding, finished_with}
use Rattle.cab_row.specs.Rule.{Since}

abbrev pub Sat : Type 0 → Type 0
Sat B = Me B View

-- on a row with one pass the word is twice the number of items that this pass has done
abbrev pub IsAlone : View → ℕ → ℕ → Type 0
IsAlone v c r = v.passes ≡ 1 → r ≡ 2 * count v.number c v

module _ {B : Type 0} where
  -- a load counts as one more look
  abbrev pub looks : Step B → Sat B → ℕ → Sat B → Type 0
  looks st m r n = (m.0.holds ≡ None) × (n ≡ (looked m.0 st.word r, m.1)) × IsAlone m.0 st.word r

  -- the step that gives the book back: the word, which was odd, has risen by twice the number of items applied
  abbrev pub finishes : Step B → Sat B → ℕ → Sat B → Type 0
  finishes st m r n = (k : ℕ) → st.first + 1 ≡ 2 * k → n ≡ (finished_with m.0 st.word k, rest m.1)

module _ {B : Type 0} (code : B → Gv) (journal : B → List ℕ) (left : B → ℕ → ℕ) (Replays : B → B → Type 0) where
  -- the seat after the step holds the cabinet and its book
  abbrev pub Took : Sat B → ℕ → Sat B → Type 0
  Took m c n = (b : B) × (n ≡ (holding m.0 c (journal b), (c, b) ∷ m.1)) × Since code journal left Replays m.0.opening c b × (times m.0.number (journal b) ≡ count m.0.number c m.0)

  -- a compare-and-exchange takes the book if it finds the expected word; otherwise it counts as one more look
  abbrev pub takes_book : Step B → Sat B → ℕ → Sat B → Type 0
  takes_book st m r n = (m.0.holds ≡ None) × (r ≡ st.first → Took m st.word n) × (r ≢ st.first → n ≡ (looked m.0 st.word r, m.1)) × IsAlone m.0 st.word r

-- What a round by workers makes of a book.
use Rattle.std.specs.Prelude.{◌≡◌, ℕ, ◌+◌, ◌<◌, List}
use Rattle.cab_row.specs.Views.{times}

module _ {B : Type 0} (journal : B → List ℕ) (left_of : B → ℕ → ℕ) (Replays : B → B → Type 0) where
  -- the second book is the first one after some more of its items
  pub record HasAppliedMore (before after : B) : Type 0 where
    pub replays : (first : B) → Replays first before → Replays first after
    pub left : (p : ℕ) → left_of after p + times p (journal after) ≡ left_of before p + times p (journal before)

  -- the book replays its journal from the first book, and has left for each pass what the journal doesn't have
  pub record ComesFrom (first book : B) : Type 0 where
    pub replays : Replays first book
    pub left : (p : ℕ) → left_of book p + times p (journal book) ≡ left_of first p

  -- the book replays its journal from the first book, and the journal has each pass below `passes` as often as the
  -- first book had items of it
  pub record IsWhole (passes : ℕ) (first book : B) : Type 0 where
    pub replays : Replays first book
    pub each : (p : ℕ) → p < passes → times p (journal book) ≡ left_of first p
    -- for each pass the items are left that the journal doesn't have
    pub left : (p : ℕ) → left_of book p + times p (journal book) ≡ left_of first p

-- no items are left for the passes below `passes`
abbrev pub IsDone : {B : Type 0} → (B → ℕ → ℕ) → ℕ → B → Type 0
IsDone left_of passes book = (p : ℕ) → p < passes → left_of book p ≡ 0

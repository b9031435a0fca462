-- A book that a pass has taken, and the same book after some items.
use Rattle.std.specs.Prelude.{◌≡◌, ◌≢◌, ℕ, ◌+◌, List, [], ◌∷◌, ◌++◌, replicate}
use Rattle.atomic_table.specs.Table.{Me}
use Rattle.cab_row.specs.declared.view.View.{View}

-- the seat has only the book of the cabinet `c`, and `P` holds for it
abbrev pub HasTaken : {B : Type 0} → Me B View → ℕ → (B → Type 0) → Type 0
HasTaken {B} m c P = (b : B) × (m.1 ≡ (c, b) ∷ []) × P b

-- the book `x` is `b` after `k` more items of the pass `n`
abbrev pub HasBroughtMore : {B : Type 0} → (B → List ℕ) → (B → ℕ → ℕ) → (B → B → Type 0) → ℕ → ℕ → B → B → Type 0
HasBroughtMore {B} journal left Replays n k b x = (journal x ≡ journal b ++ replicate k n) × (left x n + k ≡ left b n) × ((p : ℕ) → p ≢ n → left x p ≡ left b p) × ((first : B) → Replays first b → Replays first x)

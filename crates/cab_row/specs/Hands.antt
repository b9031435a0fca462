-- Workers, and the passes that they have.
use Rattle.std.specs.Prelude.{◌≡◌, ℕ, ◌%◌, ◌<◌, ◌≤◌, List, [], All, length, slice_index_or, Vec, vec_len, vec_capacity}
use Rattle.std.specs.declared.alloc.Global.{Global}
use base.Stored.{Gv}
use Rattle.cab_row.specs.declared.row.Row.{Row}
use Rattle.cab_row.specs.Passes.{IsPassOf}
use Rattle.cab_row.specs.Views.{total}
use Rattle.cab_row.specs.declared.worker.Worker.{Worker}

-- the worker has no pass, and capacity for eight
abbrev pub IsIdle : Worker → Type 0
IsIdle w = (w.passes.items ≡ []) × (8 ≤ vec_capacity w.passes)

-- the worker's passes belong to the row, and it has capacity for eight
abbrev pub IsReady : {B : Type 0} → (B → Gv) → (B → ℕ → ℕ) → Row B → Worker → Type 0
IsReady code left_of row w = All (λ x. IsPassOf code left_of row x) w.passes.items × (8 ≤ vec_capacity w.passes)

-- the number of passes that these workers have
abbrev pub passes_in : List Worker → ℕ
passes_in workers = total (λ w. vec_len w.passes) workers

-- each worker has those passes whose number modulo `count` is the worker's place
abbrev pub InTurn : ℕ → List Worker → Type 0
InTurn count workers = (place : ℕ) (d : Worker) → place < length workers → All (λ x. x.number % count ≡ place) (slice_index_or workers place d).passes.items

-- the workers after a round have the same number of passes as before, and their passes belong to the row
pub record HaveWorked {B : Type 0} (code : B → Gv) (left_of : B → ℕ → ℕ) (row : Row B) (before after : Vec Worker Global) : Type 0 where
  pub ready : All (λ w. IsReady code left_of row w) after.items
  pub count : passes_in after.items ≡ passes_in before.items
  pub many : vec_len after ≡ vec_len before
  pub room : vec_capacity after ≡ vec_capacity before

-- A law of each item of a list.
use Rattle.std.proofs.Common.{◌≡◌, ◌<◌, ◌+◌, ℕ, zero, suc, List, [], ◌∷◌, ◌++◌, length, get_or, arith}
use Rattle.serde_json.specs.Data.{Data, Items, no_items, item}
use Rattle.scenario_read.specs.Paths.{Step, then_item}
use Rattle.scenario_read.specs.Kinds.{Kind, each}
use Rattle.scenario_read.specs.Content.{each_of}
use Rattle.scenario_read.proofs.NoFaults.{none-left}

abbrev pub Every : {A : Type 0} (P : A → Type 0) → List A → Type 0
Every P [] = Unit {0}
Every P (x ∷ xs) = P x × Every P xs

pub every-append : {A : Type 0} (P : A → Type 0) (xs ys : List A) → Every P xs → Every P ys → Every P (xs ++ ys)
every-append P [] ys h k = k
every-append P (x ∷ xs) ys h k = (h.0, every-append P xs ys h.1 k)

pub every-at : {A : Type 0} (P : A → Type 0) (xs : List A) → Every P xs → (k : ℕ) (x : A) → k < length xs → P (get_or xs k x)
every-at P [] h k x low = absurd (omega (arith, low))
every-at P (y ∷ xs) h zero x low = h.0
every-at P (y ∷ xs) h (suc k) x low = every-at P xs h.1 k x (omega (arith, low))

-- what holds of each item without faults holds of each that is read
pub every-read : {A : Type 0} (kind : Kind) (f : Data → A) (P : A → Type 0) → ((path : List Step) (d : Data) → kind path d ≡ [] → P (f d)) → (path : List Step) (place : ℕ) (ds : Items)
    → each kind path place ds ≡ [] → Every P (each_of f ds)
every-read kind f P given path place no_items e = tt
every-read kind f P given path place (item d ds) e =
    let parts = none-left (kind (then_item path place) d) (each kind path (place + 1) ds) e in
    (given (then_item path place) d parts.0, every-read kind f P given path (place + 1) ds parts.1)

-- Which items of a list belong to a round and a cabinet: the items in order, and their places in the list, counted
-- from 0.
use Rattle.std.specs.Prelude.{ℕ, ◌≡◌, ◌+◌, ◌==◌, ◌&&◌, Bool, List, [], ◌∷◌, ◌++◌, Option, Some, None, slice_get}
use Rattle.std.specs.List.{filter}
use Rattle.std.specs.declared.cmp.Ordering.{Ordering}
use Rattle.std.specs.Ordering.{nat_cmp, ordering_then}
use Rattle.link_sim.specs.declared.agenda.Due.{Due}

-- the item is of this round and cabinet
abbrev pub is_of : ℕ → ℕ → Due → Bool
is_of round cab due = (due.round == round) && (due.cabinet == cab)

-- the order of items: by round, and within a round by cabinet
abbrev pub by_round : Due → Due → Ordering
by_round a b = ordering_then (nat_cmp a.round b.round) (nat_cmp a.cabinet b.cabinet)

-- the items of a list with their rounds and cabinets; the first item has this place
abbrev pub listed : {A : Type 0} → (A → ℕ) → (A → ℕ) → ℕ → List A → List Due
listed round_of cabinet_of place [] = []
listed round_of cabinet_of place (x ∷ xs) =
    record { round = round_of x; cabinet = cabinet_of x; place = place } ∷ listed round_of cabinet_of (place + 1) xs

-- what `make` makes of the item at a place, if there is one
abbrev pub made_at : {A B : Type 0} → (ℕ → A → List B) → ℕ → Option A → List B
made_at make place None = []
made_at make place (Some x) = make place x

-- what `make` makes of these items of a list, in order
abbrev pub made : {A B : Type 0} → (ℕ → A → List B) → List A → List Due → List B
made make xs [] = []
made make xs (due ∷ dues) = made_at make due.place (slice_get xs due.place) ++ made make xs dues

-- an agenda has the items of a list: for each round and cabinet the same items, in the order of the list
abbrev pub HasItems : {A : Type 0} → (A → ℕ) → (A → ℕ) → List A → List Due → Type 0
HasItems round_of cabinet_of xs dues =
    (round cab : ℕ) → filter (is_of round cab) dues ≡ filter (is_of round cab) (listed round_of cabinet_of 0 xs)

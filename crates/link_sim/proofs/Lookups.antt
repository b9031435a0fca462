-- What is made of the item at a place of a list.
use Rattle.std.proofs.Common.{◌≡◌, ℕ, ◌<◌, ◌≤◌, List, [], length, map, get_or, ap, ◌∙◌}
use Rattle.std.specs.Prelude.{slice_get}
use Rattle.std.proofs.lemmas.Option.{slice_get-get_or, slice_get_past, slice_get-map}
use Rattle.std.specs.Option.{option_map}
use Rattle.link_sim.specs.Agenda.{made_at}

pub made_here : {A B : Type 0} (make : ℕ → A → List B) (xs : List A) (place : ℕ) (d : A) → place < length xs → made_at make place (slice_get xs place) ≡ make place (get_or xs place d)
made_here make xs place d below = ap (made_at make place) (slice_get-get_or xs place d below)

pub made_past : {A B : Type 0} (make : ℕ → A → List B) (xs : List A) (place : ℕ) → length xs ≤ place → made_at make place (slice_get xs place) ≡ []
made_past make xs place above = ap (made_at make place) (slice_get_past xs place above)

-- the same of a list of which each item is seen by its content
pub made_seen : {A C B : Type 0} (make : ℕ → C → List B) (v : A → C) (xs : List A) (place : ℕ) (d : A) → place < length xs
    → made_at make place (slice_get (map v xs) place) ≡ make place (v (get_or xs place d))
made_seen make v xs place d below = ap (made_at make place) (slice_get-map v xs place ∙ ap (option_map v) (slice_get-get_or xs place d below))

pub made_unseen : {A C B : Type 0} (make : ℕ → C → List B) (v : A → C) (xs : List A) (place : ℕ) → length xs ≤ place
    → made_at make place (slice_get (map v xs) place) ≡ []
made_unseen make v xs place above = ap (made_at make place) (slice_get-map v xs place ∙ ap (option_map v) (slice_get_past xs place above))

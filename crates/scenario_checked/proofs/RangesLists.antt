-- What holds of each item of a list without faults.
use Rattle.std.proofs.Common.{◌≡◌, ℕ, ◌+◌, ◌++◌, List, [], ◌∷◌}
use Rattle.std.specs.List.{AllByRecursion}
use Rattle.serde_json.specs.Data.{Data, null, boolean, number, string, array, object, Items, no_items, item}
use Rattle.scenario_read.specs.Paths.{Step, then_item}
use Rattle.scenario_read.specs.Kinds.{Kind, each, each_behind, items_in, list_behind}
use Rattle.scenario_read.specs.Content.{each_of}
use Rattle.scenario_read.proofs.NoFaults.{none-left}

pub each-holds : {A : Type 0} (kind : Kind) (f : Data → A) (Holds : A → Type 0) → ((path : List Step) (d : Data) → kind path d ≡ [] → Holds (f d))
    → (path : List Step) (place : ℕ) (ds : Items) → each kind path place ds ≡ [] → AllByRecursion Holds (each_of f ds)
each-holds kind f Holds one path place no_items e = tt
each-holds kind f Holds one path place (item d ds) e =
    let parts = none-left (kind (then_item path place) d) (each kind path (place + 1) ds) e in
    (one (then_item path place) d parts.0, each-holds kind f Holds one path (place + 1) ds parts.1)

-- the same where a fault may hang on the earlier items
pub behind-holds : {A B : Type 0} (kind : List B → Kind) (says : Data → B) (f : Data → A) (Holds : A → Type 0)
    → ((earlier : List B) (path : List Step) (d : Data) → kind earlier path d ≡ [] → Holds (f d))
    → (path : List Step) (place : ℕ) (earlier : List B) (ds : Items) → each_behind kind says path place earlier ds ≡ []
    → AllByRecursion Holds (each_of f ds)
behind-holds kind says f Holds one path place earlier no_items e = tt
behind-holds kind says f Holds one path place earlier (item d ds) e =
    let parts = none-left (kind earlier (then_item path place) d) (each_behind kind says path (place + 1) (earlier ++ says d ∷ []) ds) e in (
      one earlier (then_item path place) d parts.0,
      behind-holds kind says f Holds one path (place + 1) (earlier ++ says d ∷ []) ds parts.1,
    )

pub behind-in : {A : Type 0} (kind : List A → Kind) (says : Data → A) (path : List Step) (d : Data) → list_behind kind says path d ≡ []
    → each_behind kind says path 0 [] (items_in d) ≡ []
behind-in kind says path null e = absurd (cc)
behind-in kind says path (boolean b) e = absurd (cc)
behind-in kind says path (number n) e = absurd (cc)
behind-in kind says path (string s) e = absurd (cc)
behind-in kind says path (array ds) e = e
behind-in kind says path (object ms) e = absurd (cc)

-- One piece after another.
use Rattle.std.proofs.Common.{◌≡◌, ℕ, List, [], ◌++◌, Option, Some, None, refl, append_assoc, append-nil}
use Rattle.io_edge.specs.Edge.{appended}

pub appended-appended : (old : Option (List ℕ)) (p q : List ℕ) → appended (appended old p) q ≡ appended old (p ++ q)
appended-appended None p q = refl
appended-appended (Some bytes) p q = rw append_assoc

pub appended-nil : (old : Option (List ℕ)) → appended old [] ≡ old
appended-nil None = refl
appended-nil (Some bytes) = rw append-nil

-- A name that begins with a prefix.
use Rattle.std.proofs.Common.{◌≡◌, ◌∙◌, ℕ, ◌+◌, Bool, true, false, ◌==◌, List, [], ◌∷◌, length, take, drop, Option, Some, None, nat_eq, refl, sym, ap}
use Rattle.std.specs.Prelude.{MatchOption}
use Rattle.std.specs.Cmp.Lexicographic.{pointwise}
use Rattle.ber_code.specs.Reading.{Gives}
use Rattle.oid_map.specs.Reading.{under}

-- the first arcs of a name are those of a prefix, or not
abbrev pub Begins : Bool → List ℕ → List ℕ → Type 0
Begins b prefix name = pointwise nat_eq (take (length prefix) name) prefix ≡ b

under_prefix : (prefix name : List ℕ) → Begins true prefix name → under prefix name ≡ Some (drop (length prefix) name)
under_prefix [] name is = refl
under_prefix (arc ∷ prefix) [] is = absurd cc
under_prefix (arc ∷ prefix) (first ∷ name) is = at (under_prefix prefix name) (first == arc) refl is
  where
    at : (Begins true prefix name → under prefix name ≡ Some (drop (length prefix) name)) → (b : Bool) → (first == arc) ≡ b → Begins true (arc ∷ prefix) (first ∷ name)
        → under (arc ∷ prefix) (first ∷ name) ≡ Some (drop (length (arc ∷ prefix)) (first ∷ name))
    at more true e is = rw e (more (rw e at is))
    at more false e is = absurd (let h = rw e at is in cc)

under_none : (prefix name : List ℕ) → Begins false prefix name → under prefix name ≡ None
under_none [] name is = absurd cc
under_none (arc ∷ prefix) [] is = refl
under_none (arc ∷ prefix) (first ∷ name) is = at (under_none prefix name) (first == arc) refl is
  where
    at : (Begins false prefix name → under prefix name ≡ None) → (b : Bool) → (first == arc) ≡ b → Begins false (arc ∷ prefix) (first ∷ name)
        → under (arc ∷ prefix) (first ∷ name) ≡ None
    at more true e is = rw e (more (rw e at is))
    at more false e is = rw e refl

-- what is left of a name without its prefix are the arcs under it
pub prefix_gives : {X : Type 0} (view : X → List ℕ) (r : Option X) (prefix name : List ℕ)
    → MatchOption r (Begins false prefix name) (λ x. Begins true prefix name × (view x ≡ drop (length prefix) name) × (length (view x) + length prefix ≡ length name))
    → Gives view r (under prefix name)
prefix_gives view (Some x) prefix name is = under_prefix prefix name is.0 ∙ ap Some (sym is.1)
prefix_gives view None prefix name is = under_none prefix name is

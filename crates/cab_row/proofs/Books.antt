-- Books after more of their items, one by one and side by side in lists.
use Rattle.std.proofs.Common.{◌≡◌, ◌≢◌, ℕ, zero, suc, ◌+◌, ◌<◌, List, [], ◌∷◌, ◌++◌, length, get_or, set, refl, sym, ap, ◌∙◌, subst, arith, All}
use Rattle.std.specs.List.{AllZip}
use Rattle.std.proofs.lemmas.List.Elements.{All-head, All-tail}
use mathlib.Core.Logic.{dite}
use native.Mathlib.Decide.{ℕ_discrete}
use mathlib.Core.Option.{some, some-injective}
use lib.ListN.{get_elem?}
use Rattle.cab_row.specs.Views.{times, is_one}
use Rattle.cab_row.proofs.Sums.{total-append, one_same, one_other}
use Rattle.cab_row.specs.Whole.{HasAppliedMore, IsDone, IsWhole}

module _ {B : Type 0} (journal : B → List ℕ) (left_of : B → ℕ → ℕ) (Replays : B → B → Type 0) where
  pub follows_itself : (b : B) → HasAppliedMore journal left_of Replays b b
  follows_itself b = record { replays = λ first h. h; left = λ p. refl }

  pub follows_on : (a b c : B) → HasAppliedMore journal left_of Replays a b → HasAppliedMore journal left_of Replays b c → HasAppliedMore journal left_of Replays a c
  follows_on a b c h k = record { replays = λ first r. k.replays first (h.replays first r); left = λ p. k.left p ∙ h.left p }

  -- one item of the pass p more
  pub follows_item : (a b : B) (p : ℕ) → journal b ≡ journal a ++ p ∷ [] → left_of b p + 1 ≡ left_of a p → ((q : ℕ) → q ≢ p → left_of b q ≡ left_of a q) → ((first : B) → Replays first a → Replays first b)
      → HasAppliedMore journal left_of Replays a b
  follows_item a b p grown own others replays = record {
    replays = replays;
    left = λ q. let more = total-append (is_one q) (journal a) (p ∷ []) in let same = ap (times q) grown in
        dite (ℕ_discrete p q)
        (λ e. omega (arith, more, same, one_same q p e, own, ap (left_of a) e, ap (left_of b) e))
        (λ ne. omega (arith, more, same, one_other q p ne, others q (λ z. ne (sym z))));
  }

  pub whole_of : (passes : ℕ) (first a b : B) → Replays first a → ((p : ℕ) → left_of a p + times p (journal a) ≡ left_of first p) → HasAppliedMore journal left_of Replays a b → IsDone left_of passes b
      → IsWhole journal left_of Replays passes first b
  whole_of passes first a b replays left follows done = record {
    replays = follows.replays first replays;
    each = λ p less. omega (arith, done p less, follows.left p, left p);
    left = λ p. follows.left p ∙ left p;
  }

module _ {A : Type 0} (R : A → A → Type 0) where
  pub zip_itself : ((x : A) → R x x) → (xs : List A) → AllZip R xs xs
  zip_itself h [] = tt
  zip_itself h (x ∷ xs) = (h x, zip_itself h xs)

  -- one element is changed
  pub zip_set : (xs ys : List A) (i : ℕ) (w : A) → ((x y z : A) → R x y → R y z → R x z) → i < length ys → AllZip R xs ys → ((d : A) → R (get_or ys i d) w) → AllZip R xs (set ys i w)
  zip_set [] [] i w on less h k = absurd (omega arith)
  zip_set (x ∷ xs) [] i w on less h k = absurd h
  zip_set [] (y ∷ ys) i w on less h k = absurd h
  zip_set (x ∷ xs) (y ∷ ys) zero w on less h k = (on x y w h.0 (k y), h.1)
  zip_set (x ∷ xs) (y ∷ ys) (suc i) w on less h k = (h.0, zip_set xs ys i w on (omega arith) h.1 k)

-- lists that are side by side, element by element
pub zip_of : {A : Type 0} (R : A → A → Type 0) (xs ys : List A) → length ys ≡ length xs → ((c : ℕ) (x : A) → get_elem? xs c ≡ some x → (y : A) × (get_elem? ys c ≡ some y) × R x y) → AllZip R xs ys
zip_of R [] [] e h = tt
zip_of R (x ∷ xs) [] e h = absurd (omega arith)
zip_of R [] (y ∷ ys) e h = absurd (omega arith)
zip_of R (x ∷ xs) (y ∷ ys) e h = let t = h 0 x refl in (subst (R x) (sym (some-injective y t.0 t.1)) t.2, zip_of R xs ys (omega arith) (λ c z f. h (suc c) z f))

pub zip_on : {A : Type 0} (R S T : A → A → Type 0) (P : A → Type 0) → ((x y z : A) → R x y → S y z → P z → T x z) → (xs ys zs : List A) → AllZip R xs ys → AllZip S ys zs → All P zs → AllZip T xs zs
zip_on R S T P f [] [] [] h k a = tt
zip_on R S T P f [] [] (z ∷ zs) h k a = absurd k
zip_on R S T P f [] (y ∷ ys) zs h k a = absurd h
zip_on R S T P f (x ∷ xs) [] zs h k a = absurd h
zip_on R S T P f (x ∷ xs) (y ∷ ys) [] h k a = absurd k
zip_on R S T P f (x ∷ xs) (y ∷ ys) (z ∷ zs) h k a = (f x y z h.0 k.0 (All-head P z zs a), zip_on R S T P f xs ys zs h.1 k.1 (All-tail P z zs a))

-- The items of a list by their places.
use Rattle.std.proofs.Common.{◌≡◌, ◌<◌, ◌+◌, ◌∙◌, ℕ, zero, suc, List, [], ◌∷◌, length, map, drop, drop-cons, get_or, add-one, Some, refl, sym, ap, arith}
use Rattle.std.specs.List.{slice_get}

-- the item at a place, and those after it
pub record Picked {A : Type 0} (xs : List A) (i : ℕ) : Type 0 where
  pub item : A
  pub here : (d : A) → get_or xs i d ≡ item
  pub next : drop i xs ≡ item ∷ drop (i + 1) xs

pub pick : {A : Type 0} (xs : List A) (i : ℕ) → i < length xs → Picked xs i
pick [] i below = absurd (omega (arith, below))
pick (x ∷ xs) zero below = record { item = x; here = λ d. refl; next = refl }
pick (x ∷ xs) (suc i) below =
    let found = pick xs i (omega (arith, below)) in
    let more : suc i + 1 ≡ suc (i + 1) = omega arith in
    record { item = found.item; here = found.here; next = found.next ∙ ap (λ (n : ℕ). found.item ∷ drop n (x ∷ xs)) (sym more) }

-- an item that a loop has reached
pub next_item : {A : Type 0} (xs : List A) (i : ℕ) (x : A) → i < length xs → x ≡ get_or xs i x → drop i xs ≡ x ∷ drop (i + 1) xs
next_item xs i x below is = rw add-one (drop-cons xs i x below) ∙ ap (λ (y : _). y ∷ drop (i + 1) xs) (sym is)

-- the same item by a function
pub got : {A B : Type 0} (f : A → B) (xs : List A) (i : ℕ) (d : A) → i < length xs → slice_get (map f xs) i ≡ Some (f (get_or xs i d))
got f [] i d below = absurd (omega (arith, below))
got f (x ∷ xs) zero d below = refl
got f (x ∷ xs) (suc i) d below = got f xs i d (omega (arith, below))

-- The texts of a list, one after the other, as a loop writes them.
use Rattle.std.proofs.Common.{◌≡◌, ℕ, ◌+◌, ◌<◌, ◌≤◌, List, [], ◌∷◌, ◌++◌, length, get_or, take, drop, sym, ap, ◌∙◌, arith}
use Rattle.std.specs.List.{flat_map}
use Rattle.std.proofs.lemmas.List.{take_more, take-append-drop, length-append, append-nil}
use Rattle.std.proofs.lemmas.List.Concat.{flat_map-append, flat_map-cons}

-- one text more, at the end
pub texts_more : {X : Type 0} (f : X → List ℕ) (xs : List X) (i : ℕ) (d : X) → i < length xs
    → flat_map f (take (i + 1) xs) ≡ flat_map f (take i xs) ++ f (get_or xs i d)
texts_more f xs i d below =
    ap (flat_map f) (take_more xs i d below) ∙ flat_map-append f (take i xs) (get_or xs i d ∷ [])
    ∙ ap (λ (t : List ℕ). flat_map f (take i xs) ++ t) (flat_map-cons f (get_or xs i d) [] ∙ append-nil (f (get_or xs i d)))

-- the texts of a prefix are no longer than those of all
pub texts_front : {X : Type 0} (f : X → List ℕ) (xs : List X) (n : ℕ) → length (flat_map f (take n xs)) ≤ length (flat_map f xs)
texts_front f xs n =
    let e : flat_map f (take n xs) ++ flat_map f (drop n xs) ≡ flat_map f xs = sym (flat_map-append f (take n xs) (drop n xs)) ∙ ap (flat_map f) (take-append-drop n xs) in
    let l = length-append (flat_map f (take n xs)) (flat_map f (drop n xs)) in
    omega (arith, l, ap length e)

-- the room for all is room for the next
pub texts_fit : {X : Type 0} (f : X → List ℕ) (xs : List X) (i : ℕ) (d : X) → i < length xs
    → length (flat_map f (take i xs)) + length (f (get_or xs i d)) ≤ length (flat_map f xs)
texts_fit f xs i d below =
    let l = length-append (flat_map f (take i xs)) (f (get_or xs i d)) in
    omega (arith, l, ap length (texts_more f xs i d below), texts_front f xs (i + 1))

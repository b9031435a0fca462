-- Lists of what is made, one after the other: a law of each item, and what they become as JSON items.
use Rattle.std.proofs.Common.{◌≡◌, ℕ, zero, suc, ◌+◌, ◌<◌, ◌≤◌, List, [], ◌∷◌, ◌++◌, length, map, take, get_or, Vec, Global, refl, sym, ap, ◌∙◌, arith, add-one}
use Rattle.std.proofs.lemmas.List.{map-append, length-append, take_more, take_all}
use Rattle.std.proofs.lemmas.Bool.{le-leb}
use Rattle.serde_json.specs.Data.{Data, array, Items, item}
use Rattle.serde_json.specs.Events.{items_len}
use Rattle.serde_json.specs.View.{view, items_view}
use Rattle.serde_json.specs.declared.value.Value.{Value, Array}
use Rattle.serde_json.proofs.Views.{view-Array}
use Rattle.scenario_read.specs.Paths.{Step, then_item}
use Rattle.scenario_read.specs.Kinds.{Kind, Fits, within, each}
use Rattle.scenario_read.specs.Content.{each_of}
use Rattle.gen_arterial.specs.Generated.{each_below}
use Rattle.gen_arterial.specs.Written.{items_from}

-- the law holds of each item
abbrev pub EachIs : {A : Type 0} → (A → Type 0) → List A → Type 0
EachIs P [] = Unit {0}
EachIs P (x ∷ xs) = P x × EachIs P xs

pub each-append : {A : Type 0} (P : A → Type 0) (xs ys : List A) → EachIs P xs → EachIs P ys → EachIs P (xs ++ ys)
each-append P [] ys h k = k
each-append P (x ∷ xs) ys h k = (h.0, each-append P xs ys h.1 k)

pub each-any : {A : Type 0} (xs : List A) → EachIs (λ _. Unit {0}) xs
each-any [] = tt
each-any (x ∷ xs) = (tt, each-any xs)

pub each-map : {A B : Type 0} (f : A → B) (Q : A → Type 0) (P : B → Type 0) → ((a : A) → Q a → P (f a)) → (xs : List A) → EachIs Q xs → EachIs P (map f xs)
each-map f Q P step [] h = tt
each-map f Q P step (x ∷ xs) h = (step x h.0, each-map f Q P step xs h.1)

pub each-below : {A : Type 0} (f : ℕ → A) (P : A → Type 0) (n : ℕ) → ((i : ℕ) → i < n → P (f i)) → EachIs P (each_below f n)
each-below f P zero h = tt
each-below f P (suc n) h =
    let before : (i : ℕ) → i < n → P (f i) = λ i l. h i (omega arith) in
    let last : P (f n) = h n (omega arith) in
    each-append P (each_below f n) (f n ∷ []) (each-below f P n before) (last, tt)

pub below-map : {A B : Type 0} (f : ℕ → A) (g : A → B) (n : ℕ) → map g (each_below f n) ≡ each_below (λ i. g (f i)) n
below-map f g zero = refl
below-map f g (suc n) = map-append g (each_below f n) (f n ∷ []) ∙ ap (λ rest. rest ++ g (f n) ∷ []) (below-map f g n)

pub below-length : {A : Type 0} (f : ℕ → A) (n : ℕ) → length (each_below f n) ≡ n
below-length f zero = refl
below-length f (suc n) = length-append (each_below f n) (f n ∷ []) ∙ ap (λ k. k + 1) (below-length f n) ∙ add-one n

-- what is pushed is one more
pub below-more : {A : Type 0} (f : ℕ → A) (n : ℕ) (xs : List A) (x : A) → xs ≡ each_below f n → x ≡ f n → xs ++ x ∷ [] ≡ each_below f (n + 1)
below-more f n xs x e k = rw (e, k, add-one) refl

pub map-same : {A : Type 0} (f : A → A) (P : A → Type 0) → ((a : A) → P a → f a ≡ a) → (xs : List A) → EachIs P xs → map f xs ≡ xs
map-same f P same [] h = refl
map-same f P same (x ∷ xs) h = rw (same x h.0, map-same f P same xs h.1) refl

pub map-map : {A B C : Type 0} (f : A → B) (g : B → C) (xs : List A) → map g (map f xs) ≡ map (λ a. g (f a)) xs
map-map f g [] = refl
map-map f g (x ∷ xs) = ap (λ rest. g (f x) ∷ rest) (map-map f g xs)

-- as JSON items
pub from-length : (ds : List Data) → items_len (items_from ds) ≡ length ds
from-length [] = refl
from-length (d ∷ ds) = ap suc (from-length ds)

pub from-each : {A : Type 0} (f : Data → A) (ds : List Data) → each_of f (items_from ds) ≡ map f ds
from-each f [] = refl
from-each f (d ∷ ds) = ap (λ rest. f d ∷ rest) (from-each f ds)

pub view-from : (vs : List Value) → items_view vs ≡ items_from (map view vs)
view-from [] = refl
view-from (v ∷ vs) = ap (λ rest. item (view v) rest) (view-from vs)

pub from-none : (kind : Kind) (path : List Step) (place : ℕ) (ds : List Data) → EachIs (λ d. (steps : List Step) → kind steps d ≡ []) ds → each kind path place (items_from ds) ≡ []
from-none kind path place [] clean = refl
from-none kind path place (d ∷ ds) clean = rw (clean.0 (then_item path place), from-none kind path (place + 1) ds clean.1) refl

pub fits : (least most n : ℕ) → least ≤ n → n ≤ most → within least most n ≡ Fits
fits least most n h k = rw (le-leb least n h, le-leb n most k) refl

-- a list of values that grows with the list that it is made for
pub pushed : {A B C : Type 0} (f : A → C) (g : B → C) (xs : List A) (ys : List B) (i : ℕ) (d : A) (y : B) → i < length xs → map g ys ≡ map f (take i xs) → g y ≡ f (get_or xs i d)
    → map g (ys ++ y ∷ []) ≡ map f (take (i + 1) xs)
pushed f g xs ys i d y below so_far own =
    map-append g ys (y ∷ []) ∙ ap (λ (zs : List _). zs ++ g y ∷ []) so_far ∙ ap (λ (z : _). map f (take i xs) ++ z ∷ []) own
    ∙ sym (map-append f (take i xs) (get_or xs i d ∷ [])) ∙ ap (λ (zs : List _). map f zs) (sym (take_more xs i d below))

pub all-pushed : {A B C : Type 0} (f : A → C) (g : B → C) (xs : List A) (ys : List B) (i : ℕ) → length xs ≤ i → map g ys ≡ map f (take i xs) → map g ys ≡ map f xs
all-pushed f g xs ys i all so_far = so_far ∙ ap (λ (zs : List _). map f zs) (take_all i xs all)

-- an array of values
pub array-from : (v : Vec Value Global) (ds : List Data) → map view v.items ≡ ds → view (Array v) ≡ array (items_from ds)
array-from v ds e = view-Array v ∙ ap (λ (is : Items). array is) (view-from v.items) ∙ ap (λ (es : List Data). array (items_from es)) e

-- Sorted lists: how far one is below an element, and where those are that tie with it.
use Rattle.std.proofs.Common.{◌≡◌, ◌≤◌, ◌<◌, ◌+◌, ◌&&◌, ℕ, zero, suc, Bool, true, false, not, cond, List, [], ◌∷◌, length, take, drop, filter, get_or, Option, Some, None, Ordering, Less, Equal, Greater, refl, sym, ap, ◌∙◌, arith}
use Rattle.std.specs.List.{find}
use Rattle.std.specs.Cmp.{IsTotalOrder}
use Rattle.std.specs.Ordering.{is_lt, is_eq, is_gt, ordering_reverse, ordering_then}
use Rattle.std.specs.List.Sorted.{IsSorted, ties}
use Rattle.std.proofs.lemmas.Bool.{false≢true}
use Rattle.std.proofs.lemmas.List.Sorted.{ranks_by, sorted_far}

-- ---- any order

-- neither is before the other where they are equal
pub tied : {A : Type 0} {cmp : A → A → Ordering} → IsTotalOrder cmp → (x y : A) → ties (λ a b. is_lt (cmp a b)) x y ≡ is_eq (cmp y x)
tied {A} {cmp} o x y = ap (λ r. not (is_lt r) && not (is_lt (cmp y x))) (o.antisymm x y) ∙ split (cmp y x)
  where
    split : (r : Ordering) → (not (is_lt (ordering_reverse r)) && not (is_lt r)) ≡ is_eq r
    split Less = refl
    split Equal = refl
    split Greater = refl

-- what is not before an element that follows a third is not before this
pub no_lower : {A : Type 0} {cmp : A → A → Ordering} → IsTotalOrder cmp → (x y t : A) → is_lt (cmp y x) ≡ false → is_gt (cmp x t) ≡ true → is_gt (cmp y t) ≡ true
no_lower {A} {cmp} o x y t low high = split (cmp y t) (cmp y x) refl refl low
  where
    above : cmp t x ≡ Less
    above = turn (cmp x t) (o.antisymm t x) high
      where
        turn : (r : Ordering) → cmp t x ≡ ordering_reverse r → is_gt r ≡ true → cmp t x ≡ Less
        turn Less e h = absurd (false≢true h)
        turn Equal e h = absurd (false≢true h)
        turn Greater e h = e

    lt : (r : Ordering) → r ≡ Less → is_lt r ≡ true
    lt r e = ap is_lt e

    split : (a b : Ordering) → cmp y t ≡ a → cmp y x ≡ b → is_lt b ≡ false → is_gt (cmp y t) ≡ true
    split Greater b e f h = ap is_gt e
    split Less b e f h = absurd (false≢true (sym h ∙ ap is_lt (sym f ∙ o.trans y t x e above)))
    split Equal b e f h = absurd (false≢true (sym h ∙ ap is_lt (sym f ∙ (o.congr y t x e ∙ above))))

-- ---- lists

-- no element passes the test
pub none_found : {A : Type 0} (p : A → Bool) (d : A) (xs : List A) → ((k : ℕ) → k < length xs → p (get_or xs k d) ≡ false) → find p xs ≡ None
none_found p d [] none = refl
none_found p d (x ∷ xs) none = rw (none 0 (omega arith)) (none_found p d xs (λ k below. none (suc k) (omega (arith, below))))

-- the first that passes the test is at this place
pub found_at : {A : Type 0} (p : A → Bool) (d : A) (at : ℕ) (xs : List A) → at < length xs → ((k : ℕ) → k < at → p (get_or xs k d) ≡ false)
    → p (get_or xs at d) ≡ true → find p xs ≡ Some (get_or xs at d)
found_at p d at [] below none here = absurd (omega (arith, below))
found_at p d zero (x ∷ xs) below none here = rw here refl
found_at p d (suc at) (x ∷ xs) below none here =
    rw (none 0 (omega arith)) (found_at p d at xs (omega (arith, below)) (λ k low. none (suc k) (omega (arith, low))) here)

-- lists of which a test keeps the same have the same first
abbrev first_of : {A : Type 0} → List A → Option A
first_of [] = None
first_of (x ∷ xs) = Some x

find_is : {A : Type 0} (p : A → Bool) (xs : List A) → find p xs ≡ first_of (filter p xs)
find_is p [] = refl
find_is {A} p (x ∷ xs) = split (p x) (find_is p xs)
  where
    split : (b : Bool) → find p xs ≡ first_of (filter p xs) → cond b (Some x) (find p xs) ≡ first_of (cond b (x ∷ filter p xs) (filter p xs))
    split true ih = refl
    split false ih = ih

pub same_first : {A : Type 0} (p : A → Bool) (xs ys : List A) → filter p xs ≡ filter p ys → find p xs ≡ find p ys
same_first p xs ys e = find_is p xs ∙ ap first_of e ∙ sym (find_is p ys)

-- in a sorted list, if an element is less than a value, everything before it is less as well
pub parted : {A : Type 0} {cmp : A → A → Ordering} → IsTotalOrder cmp → (sorted : List A) → IsSorted cmp sorted → (t : A) → (i j : ℕ) (d : A) → i ≤ j → j < length sorted
    → is_lt (cmp (get_or sorted j d) t) ≡ true → is_lt (cmp (get_or sorted i d) t) ≡ true
parted {A} {cmp} o sorted up t i j d le below early =
    lower (get_or sorted i d) (get_or sorted j d) (sorted_far (λ x y. is_lt (cmp x y)) (ranks_by o (λ x. x)) sorted up i j d le below) early
  where
    lower : (x y : A) → is_lt (cmp y x) ≡ false → is_lt (cmp y t) ≡ true → is_lt (cmp x t) ≡ true
    lower x y far less = split (cmp y t) (cmp x y) refl refl less
      where
        split : (a c : Ordering) → cmp y t ≡ a → cmp x y ≡ c → is_lt a ≡ true → is_lt (cmp x t) ≡ true
        split Equal c e g h = absurd (false≢true h)
        split Greater c e g h = absurd (false≢true h)
        split Less Less e g h = ap is_lt (o.trans x y t g e)
        split Less Equal e g h = ap is_lt (o.congr x y t g ∙ e)
        split Less Greater e g h = absurd (false≢true (sym far ∙ ap is_lt (o.antisymm y x ∙ ap ordering_reverse g)))

-- after an element that is neither less than another nor ties with it, nothing ties with that
pub none_behind : {A : Type 0} {cmp : A → A → Ordering} → IsTotalOrder cmp → (sorted : List A) → IsSorted cmp sorted → (t : A) → (at : ℕ) (d : A) → at < length sorted
    → is_lt (cmp (get_or sorted at d) t) ≡ false → is_eq (cmp (get_or sorted at d) t) ≡ false
    → (k : ℕ) → at ≤ k → k < length sorted → is_eq (cmp (get_or sorted k d) t) ≡ false
none_behind {A} {cmp} o sorted up t at d within low other k high below =
    more (cmp (get_or sorted k d) t)
    (no_lower o (get_or sorted at d) (get_or sorted k d) t
    (sorted_far (λ x y. is_lt (cmp x y)) (ranks_by o (λ x. x)) sorted up at k d high below)
    (above (cmp (get_or sorted at d) t) low other))
  where
    more : (r : Ordering) → is_gt r ≡ true → is_eq r ≡ false
    more Less h = absurd (false≢true h)
    more Equal h = absurd (false≢true h)
    more Greater h = refl

    above : (r : Ordering) → is_lt r ≡ false → is_eq r ≡ false → is_gt r ≡ true
    above Less h e = absurd (false≢true (sym h))
    above Equal h e = absurd (false≢true (sym e))
    above Greater h e = refl

-- what is less does not tie
pub less_differs : (r : Ordering) → is_lt r ≡ true → is_eq r ≡ false
less_differs Less h = refl
less_differs Equal h = absurd (false≢true h)
less_differs Greater h = absurd (false≢true h)

pub then_eq : (a b : Ordering) → is_eq (ordering_then a b) ≡ (is_eq a && is_eq b)
then_eq Less b = refl
then_eq Equal b = refl
then_eq Greater b = refl

-- the part from one place on of which all pass a test, where none before it and none after it does
pub part_kept : {A : Type 0} (q : A → Bool) (d : A) (from n : ℕ) (xs : List A) → from + n ≤ length xs
    → ((k : ℕ) → k < from → q (get_or xs k d) ≡ false) → ((k : ℕ) → from ≤ k → k < from + n → q (get_or xs k d) ≡ true)
    → ((k : ℕ) → from + n ≤ k → k < length xs → q (get_or xs k d) ≡ false) → take n (drop from xs) ≡ filter q xs
part_kept q d zero zero [] within before own behind = refl
part_kept q d zero zero (x ∷ xs) within before own behind =
    rw (behind 0 (omega arith) (omega arith)) (part_kept q d zero zero xs (omega arith) (λ k low. absurd (omega (arith, low))) (λ k low high. absurd (omega (arith, high))) (λ k high below. behind (suc k) (omega arith) (omega (arith, below))))
part_kept q d zero (suc n) [] within before own behind = absurd (omega (arith, within))
part_kept q d zero (suc n) (x ∷ xs) within before own behind =
    rw (own 0 (omega arith) (omega arith)) (ap (λ ys. x ∷ ys) (part_kept q d zero n xs (omega (arith, within)) (λ k low. absurd (omega (arith, low)))
    (λ k low high. own (suc k) (omega arith) (omega (arith, high))) (λ k high below. behind (suc k) (omega (arith, high)) (omega (arith, below)))))
part_kept q d (suc from) n [] within before own behind = absurd (omega (arith, within))
part_kept q d (suc from) n (x ∷ xs) within before own behind =
    rw (before 0 (omega arith)) (part_kept q d from n xs (omega (arith, within)) (λ k low. before (suc k) (omega (arith, low)))
    (λ k low high. own (suc k) (omega (arith, low)) (omega (arith, high))) (λ k high below. behind (suc k) (omega (arith, high)) (omega (arith, below))))

-- The first name after a given one, in a list of names with one prefix.
use Rattle.std.proofs.Common.{◌≡◌, ◌≢◌, ℕ, ◌<◌, Bool, true, false, cond, ltb, eqb, List, [], ◌∷◌, ◌++◌, map, Option, Some, None, refl, ap, ◌∙◌, arith, inl, inr}
use Rattle.std.specs.List.{find, AllByRecursion}
use Rattle.std.proofs.lemmas.Bool.{lt-ltb, le-ltb, eq-eqb, ne_eqb, cases_order}
use Rattle.oid_map.specs.Order.{is_before}
use Rattle.oid_map.specs.Steps.{rest_after}

pub before_less : (a b : ℕ) (m n : List ℕ) → a < b → is_before (a ∷ m) (b ∷ n) ≡ true
before_less a b m n h = rw (lt-ltb a b h) refl

pub before_same : (a : ℕ) (m n : List ℕ) → is_before (a ∷ m) (a ∷ n) ≡ is_before m n
before_same a m n = let l : ltb a a ≡ false = le-ltb a a (omega arith) in rw (l, eq-eqb a a refl) refl

pub before_more : (a b : ℕ) (m n : List ℕ) → b < a → is_before (a ∷ m) (b ∷ n) ≡ false
before_more a b m n h =
    let l : ltb a b ≡ false = le-ltb a b (omega arith) in
    let e : eqb a b ≡ false = ne_eqb a b (λ k. absurd (omega arith)) in
    rw (l, e) refl

pub before_prefix : (p m n : List ℕ) → is_before (p ++ m) (p ++ n) ≡ is_before m n
before_prefix [] m n = refl
before_prefix (a ∷ p) m n = before_same a (p ++ m) (p ++ n) ∙ before_prefix p m n

-- what was found, after a prefix
abbrev pub behind : List ℕ → Option (List ℕ) → Option (List ℕ)
behind p None = None
behind p (Some t) = Some (p ++ t)

-- what is at the front is not in the way
pub find_same : (a : ℕ) (n : List ℕ) (f : List ℕ → List ℕ) (xs : List (List ℕ))
    → find (is_before (a ∷ n)) (map (λ t. a ∷ f t) xs) ≡ behind (a ∷ []) (find (is_before n) (map f xs))
find_same a n f [] = refl
find_same a n f (x ∷ xs) = rw (before_same a n (f x)) (split (is_before n (f x)) (find_same a n f xs))
  where
    split : (b : Bool) → find (is_before (a ∷ n)) (map (λ t. a ∷ f t) xs) ≡ behind (a ∷ []) (find (is_before n) (map f xs))
        → cond b (Some (a ∷ f x)) (find (is_before (a ∷ n)) (map (λ t. a ∷ f t) xs)) ≡ behind (a ∷ []) (cond b (Some (f x)) (find (is_before n) (map f xs)))
    split true h = refl
    split false h = h

pub find_past : (a b : ℕ) (n : List ℕ) (f : List ℕ → List ℕ) (xs : List (List ℕ)) → b < a → find (is_before (a ∷ n)) (map (λ t. b ∷ f t) xs) ≡ None
find_past a b n f [] h = refl
find_past a b n f (x ∷ xs) h = rw (before_more a b n (f x) h) (find_past a b n f xs h)

-- each has an arc
abbrev pub Longer : List (List ℕ) → Type 0
Longer xs = AllByRecursion (λ t. t ≢ []) xs

before_longer : (t : List ℕ) → t ≢ [] → is_before [] t ≡ true
before_longer [] h = absurd (h refl)
before_longer (a ∷ t) h = refl

-- the rest of a name finds what the name finds
abbrev pub at_rest : List ℕ → Option (List ℕ) → List (List ℕ) → Option (List ℕ)
at_rest p None xs = None
at_rest p (Some rest) xs = behind p (find (is_before rest) xs)

pub find_rest : (p n : List ℕ) (xs : List (List ℕ)) → Longer xs → find (is_before n) (map (λ t. p ++ t) xs) ≡ at_rest p (rest_after p n) xs
find_rest [] n xs h = plain xs
  where
    plain : (ys : List (List ℕ)) → find (is_before n) (map (λ t. t) ys) ≡ behind [] (find (is_before n) ys)
    plain [] = refl
    plain (y ∷ ys) = split (is_before n y) (plain ys)
      where
        split : (b : Bool) → find (is_before n) (map (λ t. t) ys) ≡ behind [] (find (is_before n) ys)
            → cond b (Some y) (find (is_before n) (map (λ t. t) ys)) ≡ behind [] (cond b (Some y) (find (is_before n) ys))
        split true k = refl
        split false k = k
find_rest (a ∷ p) [] [] h = refl
find_rest (a ∷ p) [] (x ∷ xs) h = rw (before_longer x h.0) refl
find_rest (a ∷ p) (first ∷ n) xs h = elim (cases_order first a) [
  | inl same ↦ equal (find_rest p n xs h) same
  | inr (inl less) ↦ below less xs h
  | inr (inr more) ↦ above more
]
  where
    equal : find (is_before n) (map (λ t. p ++ t) xs) ≡ at_rest p (rest_after p n) xs → first ≡ a
        → find (is_before (first ∷ n)) (map (λ t. a ∷ (p ++ t)) xs) ≡ at_rest (a ∷ p) (rest_after (a ∷ p) (first ∷ n)) xs
    equal later e =
        let l : ltb first a ≡ false = le-ltb first a (omega arith) in
        let m : ltb a first ≡ false = le-ltb a first (omega arith) in
        rw (l, m, e) (find_same a n (λ t. p ++ t) xs ∙ ap (behind (a ∷ [])) later ∙ joined (rest_after p n))
      where
        joined : (o : Option (List ℕ)) → behind (a ∷ []) (at_rest p o xs) ≡ at_rest (a ∷ p) o xs
        joined None = refl
        joined (Some rest) = inner (find (is_before rest) xs)
          where
            inner : (f : Option (List ℕ)) → behind (a ∷ []) (behind p f) ≡ behind (a ∷ p) f
            inner None = refl
            inner (Some t) = refl

    below : first < a → (ys : List (List ℕ)) → Longer ys → find (is_before (first ∷ n)) (map (λ t. a ∷ (p ++ t)) ys) ≡ at_rest (a ∷ p) (rest_after (a ∷ p) (first ∷ n)) ys
    below l [] k = rw (lt-ltb first a l) refl
    below l (y ∷ ys) k = rw (lt-ltb first a l, before_longer y k.0) refl

    above : a < first → find (is_before (first ∷ n)) (map (λ t. a ∷ (p ++ t)) xs) ≡ at_rest (a ∷ p) (rest_after (a ∷ p) (first ∷ n)) xs
    above l =
        let m : ltb first a ≡ false = le-ltb first a (omega arith) in
        rw (m, lt-ltb a first l) (find_past first a n (λ t. p ++ t) xs l)

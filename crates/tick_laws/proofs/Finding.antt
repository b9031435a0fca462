-- Finding the one phase that passes a test.
use Rattle.std.proofs.Common.{◌≡◌, ◌⊎◌, inl, inr, ℕ, Bool, true, false, not, ◌==◌, List, [], ◌∷◌, ◌++◌, refl, sym, subst}
use Rattle.std.proofs.lemmas.Bool.{cases_Bool, both_ways, false≢true}
use Rattle.sig_types.specs.Phases.{is_in, some, those, first, or_else, after, up_to}
use Rattle.sig_types.proofs.Lists.{in-cons, in-head, in-tail}
use Rattle.sig_tables.specs.declared.tables.Tables.{Tables}
use Rattle.sig_tables.specs.Sides.{are_of_one_side, side_heads}
use Rattle.sig_tables.specs.Moves.{from_side}
use Rattle.sig_tables.specs.View.{later_in, earlier_in}

-- one that passes, in a list, is found where no other passes
pub finds-only : (test : ℕ → Bool) (xs : List ℕ) (q : ℕ) → is_in xs q ≡ true → test q ≡ true
    → ((x : ℕ) → is_in xs x ≡ true → test x ≡ true → x ≡ q) → is_in (first test xs) q ≡ true
finds-only test [] q h passes only = absurd (false≢true h)
finds-only test (x ∷ xs) q h passes only = elim (cases_Bool (test x)) [
  | inl e ↦ let same : x ≡ q = only x (in-head x xs) e in rw e (subst (λ (y : ℕ). is_in (x ∷ []) y ≡ true) same (in-head x []))
  | inr e ↦ elim (in-cons x xs q h) [
    | inl same ↦ absurd (both_ways (test x) e (subst (λ (y : ℕ). test y ≡ true) same passes))
    | inr rest ↦ rw e (finds-only test xs q rest passes (λ y i p. only y (in-tail x xs y i) p))
  ]
]

-- none is found where none passes
pub finds-none : (test : ℕ → Bool) (xs : List ℕ) → ((x : ℕ) → is_in xs x ≡ true → test x ≡ true → ⊥) → first test xs ≡ []
finds-none test [] none = refl
finds-none test (x ∷ xs) none = elim (cases_Bool (test x)) [
  | inl e ↦ absurd (none x (in-head x xs) e)
  | inr e ↦ rw e (finds-none test xs (λ y i p. none y (in-tail x xs y i) p))
]

-- some passes where one does, and none where none does
pub some-passes : (test : ℕ → Bool) (xs : List ℕ) (q : ℕ) → is_in xs q ≡ true → test q ≡ true → some test xs ≡ true
some-passes test [] q h passes = absurd (false≢true h)
some-passes test (x ∷ xs) q h passes = elim (cases_Bool (test x)) [
  | inl e ↦ rw e refl
  | inr e ↦ elim (in-cons x xs q h) [
    | inl same ↦ absurd (both_ways (test x) e (subst (λ (y : ℕ). test y ≡ true) same passes))
    | inr rest ↦ rw e (some-passes test xs q rest passes)
  ]
]

pub none-passes : (test : ℕ → Bool) (xs : List ℕ) → ((x : ℕ) → is_in xs x ≡ true → test x ≡ true → ⊥) → some test xs ≡ false
none-passes test [] none = refl
none-passes test (x ∷ xs) none = elim (cases_Bool (test x)) [
  | inl e ↦ absurd (none x (in-head x xs) e)
  | inr e ↦ rw e (none-passes test xs (λ y i p. none y (in-tail x xs y i) p))
]

pub passes-some : (test : ℕ → Bool) (xs : List ℕ) → some test xs ≡ true → (q : ℕ) × (is_in xs q ≡ true) × (test q ≡ true)
passes-some test [] h = absurd (false≢true h)
passes-some test (x ∷ xs) h = elim (cases_Bool (test x)) [
  | inl e ↦ (x, in-head x xs, e)
  | inr e ↦
      let rest : some test xs ≡ true = rw e at h in
      let r = passes-some test xs rest in
      (r.0, in-tail x xs r.0 r.1, r.2)
]

-- the first that passes is found where one does
pub finds-some : (test : ℕ → Bool) (xs : List ℕ) (q : ℕ) → is_in xs q ≡ true → test q ≡ true
    → (x : ℕ) × (first test xs ≡ x ∷ []) × (is_in xs x ≡ true) × (test x ≡ true)
finds-some test [] q h passes = absurd (false≢true h)
finds-some test (x ∷ xs) q h passes = elim (cases_Bool (test x)) [
  | inl e ↦ (x, rw e refl, in-head x xs, e)
  | inr e ↦ elim (in-cons x xs q h) [
    | inl same ↦ absurd (both_ways (test x) e (subst (λ (y : ℕ). test y ≡ true) same passes))
    | inr rest ↦
        let r = finds-some test xs q rest passes in
        (r.0, rw e r.1, in-tail x xs r.0 r.2, r.3)
  ]
]

-- what is in a list is in what it is made longer by
pub in-left : (xs ys : List ℕ) (q : ℕ) → is_in xs q ≡ true → is_in (xs ++ ys) q ≡ true
in-left [] ys q h = absurd (false≢true h)
in-left (x ∷ xs) ys q h = elim (in-cons x xs q h) [
  | inl same ↦ subst (λ (y : ℕ). is_in (x ∷ (xs ++ ys)) y ≡ true) (sym same) (in-head x (xs ++ ys))
  | inr rest ↦ in-tail x (xs ++ ys) q (in-left xs ys q rest)
]

pub in-right : (xs ys : List ℕ) (q : ℕ) → is_in ys q ≡ true → is_in (xs ++ ys) q ≡ true
in-right [] ys q h = h
in-right (x ∷ xs) ys q h = in-tail x (xs ++ ys) q (in-right xs ys q h)

pub in-those-of : (test : ℕ → Bool) (xs : List ℕ) (q : ℕ) → is_in xs q ≡ true → test q ≡ true → is_in (those test xs) q ≡ true
in-those-of test [] q h p = absurd (false≢true h)
in-those-of test (x ∷ xs) q h p = elim (in-cons x xs q h) [
  | inl same ↦ let e : test x ≡ true = subst (λ (y : ℕ). test y ≡ true) same p in
      rw e (subst (λ (y : ℕ). is_in (x ∷ those test xs) y ≡ true) (sym same) (in-head x (those test xs)))
  | inr rest ↦ elim (cases_Bool (test x)) [
    | inl e ↦ rw e (in-tail x (those test xs) q (in-those-of test xs q rest p))
    | inr e ↦ rw e (in-those-of test xs q rest p)
  ]
]

pub or_else-left : (xs ys : List ℕ) (q : ℕ) → is_in xs q ≡ true → is_in (or_else xs ys) q ≡ true
or_else-left [] ys q h = absurd (false≢true h)
or_else-left (x ∷ xs) ys q h = h

-- a list is what comes up to a place and what comes after it
pub up_to-or-after : (p : ℕ) (xs : List ℕ) (q : ℕ) → is_in xs q ≡ true → (is_in (after p xs) q ≡ true) ⊎ (is_in (up_to p xs) q ≡ true)
up_to-or-after p [] q h = absurd (false≢true h)
up_to-or-after p (x ∷ xs) q h = elim (cases_Bool (x == p)) [
  | inl e ↦ elim (in-cons x xs q h) [
    | inl same ↦ inr (rw e (subst (λ (y : ℕ). is_in (x ∷ []) y ≡ true) (sym same) (in-head x [])))
    | inr rest ↦ inl (rw e rest)
  ]
  | inr e ↦ elim (in-cons x xs q h) [
    | inl same ↦ inr (rw e (subst (λ (y : ℕ). is_in (x ∷ up_to p xs) y ≡ true) (sym same) (in-head x (up_to p xs))))
    | inr rest ↦ elim (up_to-or-after p xs q rest) [
      | inl k ↦ inl (rw e k)
      | inr k ↦ inr (rw e (in-tail x (up_to p xs) q k))
    ]
  ]
]

pub later-or-earlier : (phases : List ℕ) (last q : ℕ) → is_in phases q ≡ true
    → (is_in (later_in phases last) q ≡ true) ⊎ (is_in (earlier_in phases last) q ≡ true)
later-or-earlier phases last q h = elim (cases_Bool (is_in phases last)) [
  | inl e ↦ rw e (up_to-or-after last phases q h)
  | inr e ↦ inl (rw e h)
]

-- each phase of a list is of the side of one of its heads
pub heads-of : (t : Tables) (xs : List ℕ) (q : ℕ) → is_in xs q ≡ true → are_of_one_side t q q ≡ true
    → ((a b c : ℕ) → are_of_one_side t a b ≡ true → are_of_one_side t b c ≡ true → are_of_one_side t a c ≡ true)
    → (h : ℕ) × (is_in (side_heads t xs) h ≡ true) × (are_of_one_side t h q ≡ true)
heads-of t [] q i own joined = absurd (false≢true i)
heads-of t (x ∷ xs) q i own joined = elim (in-cons x xs q i) [
  | inl same ↦ (x, in-head x _, subst (λ (y : ℕ). are_of_one_side t y q ≡ true) same own)
  | inr rest ↦
      let r = heads-of t xs q rest own joined in
      elim (cases_Bool (are_of_one_side t x r.0)) [
        | inl e ↦ (x, in-head x _, joined x r.0 q e r.2)
        | inr e ↦ (r.0, in-tail x _ r.0 (in-those-of (λ s. not (are_of_one_side t x s)) (side_heads t xs) r.0 r.1 (rw e refl)), r.2)
      ]
]

-- the sides tried are all of them
pub in-from_side : (t : Tables) (s : ℕ) (qs before : List ℕ) (h : ℕ) → (is_in qs h ≡ true) ⊎ (is_in before h ≡ true) → is_in (from_side t s qs before) h ≡ true
in-from_side t s [] before h (inl i) = absurd (false≢true i)
in-from_side t s [] before h (inr i) = i
in-from_side t s (q ∷ qs) before h i = elim (cases_Bool (are_of_one_side t s q)) [
  | inl e ↦ rw e (whole i)
  | inr e ↦ rw e (in-from_side t s qs (before ++ q ∷ []) h (rest i))
]
  where
    whole : (is_in (q ∷ qs) h ≡ true) ⊎ (is_in before h ≡ true) → is_in (qs ++ (before ++ q ∷ [])) h ≡ true
    whole (inl i) = elim (in-cons q qs h i) [
      | inl same ↦ in-right qs (before ++ q ∷ []) h (in-right before (q ∷ []) h (subst (λ (y : ℕ). is_in (q ∷ []) y ≡ true) (sym same) (in-head q [])))
      | inr k ↦ in-left qs (before ++ q ∷ []) h k
    ]
    whole (inr i) = in-right qs (before ++ q ∷ []) h (in-left before (q ∷ []) h i)

    rest : (is_in (q ∷ qs) h ≡ true) ⊎ (is_in before h ≡ true) → (is_in qs h ≡ true) ⊎ (is_in (before ++ q ∷ []) h ≡ true)
    rest (inl i) = elim (in-cons q qs h i) [
      | inl same ↦ inr (in-right before (q ∷ []) h (subst (λ (y : ℕ). is_in (q ∷ []) y ≡ true) (sym same) (in-head q [])))
      | inr k ↦ inl k
    ]
    rest (inr i) = inr (in-left before (q ∷ []) h i)

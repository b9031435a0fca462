-- The order of names is strict, and the instances of the table are in it.
use Rattle.std.proofs.Common.{◌≡◌, ◌⊎◌, inl, inr, ℕ, zero, suc, ◌+◌, ◌-◌, ◌<◌, ◌≤◌, Bool, true, false, ltb, eqb, ◌&&◌, ◌||◌, List, [], ◌∷◌, ◌++◌, map, refl, ◌∙◌, arith}
use Rattle.std.specs.List.{flat_map, AllByRecursion}
use Rattle.std.proofs.lemmas.Bool.{ltb-true, eqb-true, and_parts, or_cases}
use Rattle.oid_map.specs.declared.objects.Range.{Range}
use Rattle.oid_map.specs.Order.{is_before, IsRising}
use Rattle.oid_map.specs.Objects.{Row, ◌to◌, counted, tuples, instances, objects, readable_rows, readable}
use Rattle.oid_map.proofs.Search.{before_less, before_same, before_more, before_prefix}
use Rattle.oid_map.proofs.Ranges.{turned}
use Rattle.oid_map.proofs.Rows.{all_append}

-- the first arcs differ, or the later ones decide
before_parts : (a b : ℕ) (m n : List ℕ) → is_before (a ∷ m) (b ∷ n) ≡ true → (a < b) ⊎ ((a ≡ b) × (is_before m n ≡ true))
before_parts a b m n h = elim (or_cases (ltb a b) (eqb a b && is_before m n) h) [
  | inl less ↦ inl (ltb-true a b less)
  | inr same ↦ let parts = and_parts (eqb a b) (is_before m n) same in inr (eqb-true a b parts.0, parts.1)
]

pub not_before_itself : (m : List ℕ) → is_before m m ≡ false
not_before_itself [] = refl
not_before_itself (a ∷ m) = before_same a m m ∙ not_before_itself m

pub not_both_ways : (m n : List ℕ) → is_before m n ≡ true → is_before n m ≡ false
not_both_ways [] [] h = refl
not_both_ways [] (b ∷ n) h = refl
not_both_ways (a ∷ m) [] h = absurd cc
not_both_ways (a ∷ m) (b ∷ n) h = elim (before_parts a b m n h) [
  | inl less ↦ before_more b a n m less
  | inr same ↦ rw (same.0) (before_same b n m ∙ not_both_ways m n same.1)
]

-- the arcs are in these ranges, one by one
abbrev pub Within : List Range → List ℕ → Type 0
Within [] [] = Unit {0}
Within [] (a ∷ arcs) = ⊥
Within (range ∷ ranges) [] = ⊥
Within (range ∷ ranges) (a ∷ arcs) = (range.least ≤ a) × (a ≤ range.most) × Within ranges arcs

-- all of an arc and of later ones
all_under : (a : ℕ) (r : Range) (rs : List Range) (ts : List (List ℕ)) → r.least ≤ a → a ≤ r.most → AllByRecursion (Within rs) ts
    → AllByRecursion (Within (r ∷ rs)) (map (λ t. a ∷ t) ts)
all_under a r rs [] low high h = tt
all_under a r rs (t ∷ ts) low high h = ((low, high, h.0), all_under a r rs ts low high h.1)

pub tuples_within : (ranges : List Range) → AllByRecursion (Within ranges) (tuples ranges)
tuples_within [] = (tt, tt)
tuples_within (r ∷ rs) = go (r.most + 1 - r.least) r.least (omega arith) (omega arith) (tuples_within rs)
  where
    go : (k first : ℕ) → r.least ≤ first → first + k ≤ r.least + (r.most + 1 - r.least) → AllByRecursion (Within rs) (tuples rs)
        → AllByRecursion (Within (r ∷ rs)) (turned (tuples rs) (counted k first))
    go zero first low end h = tt
    go (suc k) first low end h =
        all_append (Within (r ∷ rs)) (map (λ t. first ∷ t) (tuples rs)) (turned (tuples rs) (counted k (first + 1)))
        (all_under first r rs (tuples rs) low (omega arith) h) (go k (first + 1) (omega arith) (omega arith) h)

-- a row's arcs as ranges of one number
abbrev pub spans : Row → List Range
spans row = map (λ a. a to a) row.arcs ++ row.indices

pub all_spanned : (arcs : List ℕ) (ranges : List Range) (ts : List (List ℕ)) → AllByRecursion (Within ranges) ts
    → AllByRecursion (Within (map (λ a. a to a) arcs ++ ranges)) (map (λ t. arcs ++ t) ts)
all_spanned arcs ranges [] h = tt
all_spanned arcs ranges (t ∷ ts) h = (one arcs, all_spanned arcs ranges ts h.1)
  where
    one : (front : List ℕ) → Within (map (λ a. a to a) front ++ ranges) (front ++ t)
    one [] = h.0
    one (a ∷ front) = (omega arith, omega arith, one front)

-- the name comes before each of these
abbrev pub BeforeAll : List ℕ → List (List ℕ) → Type 0
BeforeAll name names = AllByRecursion (λ later. is_before name later ≡ true) names

-- two lists that rise, where each of the first comes before all of the second
rising_append : (xs ys : List (List ℕ)) → IsRising xs → IsRising ys → AllByRecursion (λ x. BeforeAll x ys) xs → IsRising (xs ++ ys)
rising_append [] ys hx hy h = hy
rising_append (x ∷ xs) ys hx hy h = (all_append (λ later. is_before x later ≡ true) xs ys hx.0 h.0, rising_append xs ys hx.1 hy h.1)

before_prefixed : (p x : List ℕ) (xs : List (List ℕ)) → BeforeAll x xs → BeforeAll (p ++ x) (map (λ t. p ++ t) xs)
before_prefixed p x [] h = tt
before_prefixed p x (y ∷ ys) h = (before_prefix p x y ∙ h.0, before_prefixed p x ys h.1)

rising_prefixed : (p : List ℕ) (xs : List (List ℕ)) → IsRising xs → IsRising (map (λ t. p ++ t) xs)
rising_prefixed p [] h = tt
rising_prefixed p (x ∷ xs) h = (before_prefixed p x xs h.0, rising_prefixed p xs h.1)

-- a smaller arc at the front
before_greater : (a b : ℕ) (t : List ℕ) (xs : List (List ℕ)) → a < b → BeforeAll (a ∷ t) (map (λ later. b ∷ later) xs)
before_greater a b t [] h = tt
before_greater a b t (x ∷ xs) h = (before_less a b t x h, before_greater a b t xs h)

before_turned : (a : ℕ) (t : List ℕ) (inner : List (List ℕ)) (k first : ℕ) → a < first → BeforeAll (a ∷ t) (turned inner (counted k first))
before_turned a t inner zero first h = tt
before_turned a t inner (suc k) first h =
    all_append (λ later. is_before (a ∷ t) later ≡ true) (map (λ later. first ∷ later) inner) (turned inner (counted k (first + 1)))
    (before_greater a first t inner h) (before_turned a t inner k (first + 1) (omega arith))

rising_tuples : (ranges : List Range) → IsRising (tuples ranges)
rising_tuples [] = (tt, tt)
rising_tuples (r ∷ rs) = go (r.most + 1 - r.least) r.least (rising_tuples rs)
  where
    each : (a : ℕ) (ts : List (List ℕ)) (k : ℕ) → AllByRecursion (λ x. BeforeAll x (turned (tuples rs) (counted k (a + 1)))) (map (λ t. a ∷ t) ts)
    each a [] k = tt
    each a (t ∷ ts) k = (before_turned a t (tuples rs) k (a + 1) (omega arith), each a ts k)

    go : (k first : ℕ) → IsRising (tuples rs) → IsRising (turned (tuples rs) (counted k first))
    go zero first h = tt
    go (suc k) first h =
        rising_append (map (λ t. first ∷ t) (tuples rs)) (turned (tuples rs) (counted k (first + 1)))
        (rising_prefixed (first ∷ []) (tuples rs) h) (go k (first + 1) h) (each first (tuples rs) k)

-- all arcs in the first ranges come before all arcs in the second
abbrev precedes : List Range → List Range → Bool
precedes [] ss = false
precedes (r ∷ rs) [] = false
precedes (r ∷ rs) (s ∷ ss) = ltb r.most s.least || (eqb r.least r.most && (eqb s.least r.least && (eqb s.most r.least && precedes rs ss)))

preceding : (rs ss : List Range) (m n : List ℕ) → precedes rs ss ≡ true → Within rs m → Within ss n → is_before m n ≡ true
preceding [] ss m n h wm wn = absurd cc
preceding (r ∷ rs) [] m n h wm wn = absurd cc
preceding (r ∷ rs) (s ∷ ss) [] n h wm wn = absurd wm
preceding (r ∷ rs) (s ∷ ss) (a ∷ m) [] h wm wn = absurd wn
preceding (r ∷ rs) (s ∷ ss) (a ∷ m) (b ∷ n) h wm wn =
    elim (or_cases (ltb r.most s.least) (eqb r.least r.most && (eqb s.least r.least && (eqb s.most r.least && precedes rs ss))) h) [
      | inl less ↦ let l : r.most < s.least = ltb-true r.most s.least less in before_less a b m n (omega (arith, wm.1, wn.0))
      | inr same ↦
          let p = and_parts (eqb r.least r.most) (eqb s.least r.least && (eqb s.most r.least && precedes rs ss)) same in
          let q = and_parts (eqb s.least r.least) (eqb s.most r.least && precedes rs ss) p.1 in
          let t = and_parts (eqb s.most r.least) (precedes rs ss) q.1 in
          let e : a ≡ b = omega (arith, wm.0, wm.1, wn.0, wn.1, eqb-true r.least r.most p.0, eqb-true s.least r.least q.0, eqb-true s.most r.least t.0) in
          rw e (before_same b m n ∙ preceding rs ss m n t.1 wm.2 wn.2)
    ]

-- the row's names come before those of all these rows
abbrev precedes_all : Row → List Row → Bool
precedes_all row [] = true
precedes_all row (other ∷ rows) = precedes (spans row) (spans other) && precedes_all row rows

abbrev in_order : List Row → Bool
in_order [] = true
in_order (row ∷ rows) = precedes_all row rows && in_order rows

before_rows : (row : Row) (rows : List Row) (x : List ℕ) → Within (spans row) x → precedes_all row rows ≡ true → BeforeAll x (flat_map instances rows)
before_rows row [] x w h = tt
before_rows row (other ∷ rows) x w h =
    let p = and_parts (precedes (spans row) (spans other)) (precedes_all row rows) h in
    all_append (λ later. is_before x later ≡ true) (instances other) (flat_map instances rows)
    (these (instances other) p.0 (all_spanned other.arcs other.indices (tuples other.indices) (tuples_within other.indices)))
    (before_rows row rows x w p.1)
  where
    these : (ys : List (List ℕ)) → precedes (spans row) (spans other) ≡ true → AllByRecursion (Within (spans other)) ys → BeforeAll x ys
    these [] k all = tt
    these (y ∷ ys) k all = (preceding (spans row) (spans other) x y k w all.0, these ys k all.1)

rising_rows : (rows : List Row) → in_order rows ≡ true → IsRising (flat_map instances rows)
rising_rows [] h = tt
rising_rows (row ∷ rows) h =
    let p = and_parts (precedes_all row rows) (in_order rows) h in
    rising_append (instances row) (flat_map instances rows) (rising_prefixed row.arcs (tuples row.indices) (rising_tuples row.indices)) (rising_rows rows p.1)
    (these (instances row) p.0 (all_spanned row.arcs row.indices (tuples row.indices) (tuples_within row.indices)))
  where
    these : (xs : List (List ℕ)) → precedes_all row rows ≡ true → AllByRecursion (Within (spans row)) xs → AllByRecursion (λ x. BeforeAll x (flat_map instances rows)) xs
    these [] k all = tt
    these (x ∷ xs) k all = (before_rows row rows x all.0 k, these xs k all.1)

table_in_order : in_order readable_rows ≡ true
unfolding objects
table_in_order = refl

pub readable_rises : IsRising readable
unfolding readable
readable_rises = rising_rows readable_rows table_in_order

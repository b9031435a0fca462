-- The first indices after given ones, in the list of all indices in some ranges.
use Rattle.std.proofs.Common.{◌≡◌, ℕ, zero, suc, ◌+◌, ◌-◌, ◌<◌, ◌≤◌, true, false, cond, ltb, List, [], ◌∷◌, ◌++◌, map, get_or, length, take, drop, Option, Some, None, refl, sym, ap, subst, ◌∙◌, arith, inl, inr}
use Rattle.std.specs.List.{find, flat_map}
use Rattle.std.specs.Option.{option_or}
use Rattle.std.proofs.lemmas.Bool.{lt-ltb, le-ltb, cases_order}
use Rattle.std.proofs.lemmas.List.{take_at, take_all, append_assoc, map-id}
use Rattle.std.proofs.lemmas.List.Folds.{find-append}
use Rattle.oid_map.specs.declared.objects.Range.{Range}
use Rattle.oid_map.specs.Order.{is_before}
use Rattle.oid_map.specs.Objects.{counted, numbers, tuples}
use Rattle.oid_map.specs.Steps.{AreRanges, Continues}
use Rattle.oid_map.proofs.Search.{before_less, behind, find_same, find_past}

-- the least of each range
abbrev pub least_of : List Range → List ℕ
least_of ranges = map (λ range. range.least) ranges

-- each of the numbers, before each of the tuples
abbrev pub turned : List (List ℕ) → List ℕ → List (List ℕ)
turned inner numbers = flat_map (λ index. map (λ later. index ∷ later) inner) numbers

-- some numbers
some_of : (r : Range) → r.least ≤ r.most → r.most + 1 - r.least ≡ suc (r.most - r.least)
some_of r h = omega arith

-- the least of each range are first
pub leads : (ranges : List Range) → AreRanges ranges → (more : List (List ℕ)) × (tuples ranges ≡ least_of ranges ∷ more)
leads [] h = ([], refl)
leads (r ∷ rs) h =
    let inner = leads rs h.1 in (
      map (λ later. r.least ∷ later) inner.0 ++ turned (tuples rs) (counted (r.most - r.least) (r.least + 1)),
      rw (some_of r h.0) (ap (λ (ts : List (List ℕ)). map (λ later. r.least ∷ later) ts ++ turned (tuples rs) (counted (r.most - r.least) (r.least + 1))) inner.1),
    )

first_turned : (inner more : List (List ℕ)) (head n : List ℕ) (k first a : ℕ) → inner ≡ head ∷ more → a < first
    → find (is_before (a ∷ n)) (turned inner (counted (suc k) first)) ≡ Some (first ∷ head)
first_turned inner more head n k first a e h = rw (e, before_less a first n head h) refl

past_turned : (inner : List (List ℕ)) (n : List ℕ) (k first a : ℕ) → first + k ≤ a → find (is_before (a ∷ n)) (turned inner (counted k first)) ≡ None
past_turned inner n zero first a h = refl
past_turned inner n (suc k) first a h =
    find-append (is_before (a ∷ n)) (map (λ later. first ∷ later) inner) (turned inner (counted k (first + 1)))
    ∙ rw (find_past a first n (λ t. t) inner (omega arith)) (past_turned inner n k (first + 1) a (omega arith))

-- after a number: with the same number, or else with the next one
pub at_turned : (inner more : List (List ℕ)) (head n : List ℕ) (k first a : ℕ) → inner ≡ head ∷ more → first ≤ a → a < first + k
    → find (is_before (a ∷ n)) (turned inner (counted k first))
    ≡ option_or (behind (a ∷ []) (find (is_before n) (map (λ t. t) inner))) (cond (ltb (a + 1) (first + k)) (Some ((a + 1) ∷ head)) None)
at_turned inner more head n zero first a e low high = absurd (omega arith)
at_turned inner more head n (suc k) first a e low high =
    find-append (is_before (a ∷ n)) (map (λ later. first ∷ later) inner) (turned inner (counted k (first + 1)))
    ∙ elim (cases_order a first) [
      | inl same ↦ here k same
      | inr (inl less) ↦ absurd (omega arith)
      | inr (inr above) ↦ rw (find_past a first n (λ t. t) inner above) (
          at_turned inner more head n k (first + 1) a e (omega arith) (omega arith)
          ∙ ap (λ (end : ℕ). option_or (behind (a ∷ []) (find (is_before n) (map (λ t. t) inner))) (cond (ltb (a + 1) end) (Some ((a + 1) ∷ head)) None)) (omega arith))
    ]
  where
    here : (j : ℕ) → a ≡ first
        → option_or (find (is_before (a ∷ n)) (map (λ later. first ∷ later) inner)) (find (is_before (a ∷ n)) (turned inner (counted j (first + 1))))
        ≡ option_or (behind (a ∷ []) (find (is_before n) (map (λ t. t) inner))) (cond (ltb (a + 1) (first + suc j)) (Some ((a + 1) ∷ head)) None)
    here zero same =
        let last : ltb (a + 1) (first + 1) ≡ false = le-ltb (a + 1) (first + 1) (omega arith) in
        rw (last, ← same, find_same a n (λ t. t) inner) refl
    here (suc j) same =
        let more_left : ltb (a + 1) (first + suc (suc j)) ≡ true = lt-ltb (a + 1) (first + suc (suc j)) (omega arith) in
        rw (more_left, ← same, find_same a n (λ t. t) inner, first_turned inner more head n j (a + 1) a e (omega arith)) refl

-- a list with a first element
pub front_is : {A : Type 0} (xs : List A) (d : A) → 1 ≤ length xs → xs ≡ get_or xs 0 d ∷ take (length xs - 1) (drop 1 xs)
front_is {A = A} [] d h = absurd (omega arith)
front_is {A = A} (x ∷ xs) d h = ap (λ (ys : List A). x ∷ ys) (sym (take_all (length (x ∷ xs) - 1) xs (omega arith)))

-- without ranges there is one tuple, and it has no arc
pub none_after : (old : List ℕ) (ranges : List Range) (name : List ℕ) → length ranges < 1 → Continues old old false (find (is_before name) (tuples ranges))
none_after old [] [] h = refl
none_after old [] (a ∷ n) h = refl
none_after old (r ∷ rs) name h = absurd (omega arith)

-- a name without arcs
pub least_after_nothing : (old new : List ℕ) (ranges : List Range) (name : List ℕ) → 1 ≤ length ranges → length name < 1 → AreRanges ranges → new ≡ old ++ least_of ranges
    → Continues old new true (find (is_before name) (tuples ranges))
least_after_nothing old new [] name some none h e = absurd (omega arith)
least_after_nothing old new (r ∷ rs) (a ∷ n) some none h e = absurd (omega arith)
least_after_nothing old new (r ∷ rs) [] some none h e = let first = leads (r ∷ rs) h in rw (first.1) e

-- a number below the first range
pub least_after : (old new : List ℕ) (ranges rs : List Range) (name n : List ℕ) (r : Range) (a : ℕ) → ranges ≡ r ∷ rs → name ≡ a ∷ n → AreRanges ranges → a < r.least
    → new ≡ old ++ least_of ranges → Continues old new true (find (is_before name) (tuples ranges))
least_after old new ranges rs name n r a er en h below e =
    let first = leads ranges h in
    let starts : least_of ranges ≡ r.least ∷ least_of rs = ap least_of er in
    let before : is_before name (least_of ranges) ≡ true = rw (en, starts) (before_less a r.least n (least_of rs) below) in
    rw (first.1, before) e

-- a number above the first range
pub none_above : (old : List ℕ) (ranges rs : List Range) (name n : List ℕ) (r : Range) (a : ℕ) → ranges ≡ r ∷ rs → name ≡ a ∷ n → AreRanges ranges → r.most < a
    → Continues old old false (find (is_before name) (tuples ranges))
none_above old ranges rs name n r a er en h above =
    let ok : r.least ≤ r.most = (subst AreRanges er h).0 in
    let none : find (is_before (a ∷ n)) (tuples (r ∷ rs)) ≡ None = past_turned (tuples rs) n (r.most + 1 - r.least) r.least a (omega arith) in
    rw (er, en, none) refl

-- what is found after a number within the first range
abbrev found_within : Range → List Range → ℕ → List ℕ → Option (List ℕ)
found_within r rs a n = option_or (behind (a ∷ []) (find (is_before n) (tuples rs))) (cond (ltb (a + 1) (r.most + 1)) (Some ((a + 1) ∷ least_of rs)) None)

within : (ranges rs : List Range) (name n : List ℕ) (r : Range) (a : ℕ) → ranges ≡ r ∷ rs → name ≡ a ∷ n → AreRanges ranges → r.least ≤ a → a ≤ r.most
    → find (is_before name) (tuples ranges) ≡ found_within r rs a n
within ranges rs name n r a er en h low high =
    let ok : AreRanges (r ∷ rs) = subst AreRanges er h in
    let first = leads rs ok.1 in
    let end : r.least + (r.most + 1 - r.least) ≡ r.most + 1 = omega arith in
    let found = at_turned (tuples rs) first.0 (least_of rs) n (r.most + 1 - r.least) r.least a first.1 low (omega arith) in
    let plain : map (λ (t : List ℕ). t) (tuples rs) ≡ tuples rs = map-id (tuples rs) in
    rw (er, en) (found ∙ rw (plain, end) refl)

-- within the range: the later indices continue
pub later_after : (old mid new : List ℕ) (ranges rs : List Range) (name n : List ℕ) (r : Range) (a : ℕ) → ranges ≡ r ∷ rs → name ≡ a ∷ n → AreRanges ranges
    → r.least ≤ a → a ≤ r.most → mid ≡ old ++ a ∷ [] → Continues mid new true (find (is_before n) (tuples rs))
    → Continues old new true (find (is_before name) (tuples ranges))
later_after old mid new ranges rs name n r a er en h low high em k = rw (within ranges rs name n r a er en h low high) (split (find (is_before n) (tuples rs)) k)
  where
    split : (o : Option (List ℕ)) → Continues mid new true o
        → Continues old new true (option_or (behind (a ∷ []) o) (cond (ltb (a + 1) (r.most + 1)) (Some ((a + 1) ∷ least_of rs)) None))
    split None j = absurd j
    split (Some t) j = j ∙ rw em (append_assoc old (a ∷ []) t)

-- within the range: the later indices end, and so does this one
pub none_later : (old mid cut new : List ℕ) (ranges rs : List Range) (name n : List ℕ) (r : Range) (a : ℕ) → ranges ≡ r ∷ rs → name ≡ a ∷ n → AreRanges ranges
    → r.least ≤ a → a ≡ r.most → mid ≡ old ++ a ∷ [] → Continues mid new false (find (is_before n) (tuples rs)) → cut ≡ take (length old) new
    → Continues old cut false (find (is_before name) (tuples ranges))
none_later old mid cut new ranges rs name n r a er en h low high em k ec = rw (within ranges rs name n r a er en h low (omega arith)) (split (find (is_before n) (tuples rs)) k)
  where
    split : (o : Option (List ℕ)) → Continues mid new false o
        → Continues old cut false (option_or (behind (a ∷ []) o) (cond (ltb (a + 1) (r.most + 1)) (Some ((a + 1) ∷ least_of rs)) None))
    split None j =
        let last : ltb (a + 1) (r.most + 1) ≡ false = le-ltb (a + 1) (r.most + 1) (omega arith) in
        rw last (ec ∙ rw (j, em) (take_at old (a ∷ []) (length old) refl))
    split (Some t) j = absurd j

-- within the range: the later indices end, and the next number follows
pub next_after : (old mid cut up new last : List ℕ) (ranges rs : List Range) (name n : List ℕ) (r : Range) (a : ℕ) → ranges ≡ r ∷ rs → name ≡ a ∷ n → AreRanges ranges
    → r.least ≤ a → a < r.most → mid ≡ old ++ a ∷ [] → Continues mid new false (find (is_before n) (tuples rs)) → cut ≡ take (length old) new
    → up ≡ cut ++ (a + 1) ∷ [] → last ≡ up ++ least_of rs → Continues old last true (find (is_before name) (tuples ranges))
next_after old mid cut up new last ranges rs name n r a er en h low high em k ec eu el = rw (within ranges rs name n r a er en h low (omega arith)) (split (find (is_before n) (tuples rs)) k)
  where
    split : (o : Option (List ℕ)) → Continues mid new false o
        → Continues old last true (option_or (behind (a ∷ []) o) (cond (ltb (a + 1) (r.most + 1)) (Some ((a + 1) ∷ least_of rs)) None))
    split None j =
        let more : ltb (a + 1) (r.most + 1) ≡ true = lt-ltb (a + 1) (r.most + 1) (omega arith) in
        let back : cut ≡ old = ec ∙ rw (j, em) (take_at old (a ∷ []) (length old) refl) in
        rw more (el ∙ rw (eu, back) (append_assoc old ((a + 1) ∷ []) (least_of rs)))
    split (Some t) j = absurd j

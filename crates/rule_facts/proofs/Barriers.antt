-- Both rings cross each barrier at one moment of the cycle.
use Rattle.std.proofs.Common.{◌≡◌, ◌⊎◌, inl, inr, ℕ, zero, suc, ◌+◌, ◌<◌, ◌≤◌, Bool, true, false, not, ◌&&◌, ◌||◌, if◌then◌else◌, ◌==◌, List, [], ◌∷◌, refl, sym, ◌∙◌, ap, subst, arith}
use Rattle.std.proofs.lemmas.Bool.{cases_Bool, and_parts, and_from, false≢true, both_ways}
use Rattle.std.proofs.lemmas.Bool.Decides.{Decides-eqb, eqb_tells}
use Rattle.std.proofs.Math.Nat.{le_trans, max-le}
use Rattle.sig_types.specs.Phases.{all_phases, is_in, those}
use Rattle.sig_types.proofs.Lists.{eq-true, in-head, in-tail, in-those}
use Rattle.sig_types.proofs.Sets.{every-phase, those-same, in-those-is}
use Rattle.sig_tables.specs.declared.tables.Tables.{Tables}
use Rattle.sig_tables.specs.Tables.{ring_of, is_enabled, order_of}
use Rattle.sig_tables.specs.Sides.{are_of_one_side}
use Rattle.sig_tables.specs.Sums.{every, sum_of, greatest, before}
use Rattle.sig_tables.specs.Cells.{pattern_of}
use Rattle.sig_tables.specs.Slots.{cycle_time, pattern_order, split_time, slot_start, slot_end, side_of, side_end}
use Rattle.sig_tables.proofs.Below.{enabled-phase}
use Rattle.rule_book.specs.Patterns.{fills_cycle, side_time}
use Rattle.tick_laws.proofs.OneSide.{side-enabled, own, side-mutual}
use Rattle.rule_facts.specs.Rules.{KeepsRules}
use Rattle.rule_facts.specs.Sequences.{earlier_sides}
use Rattle.rule_facts.proofs.Kept.{none-listed}
use Rattle.rule_facts.proofs.Members.{under, same-answer}
use Rattle.rule_facts.proofs.RingLayout.{in-ring}
use Rattle.rule_facts.proofs.Sides.{side-joined, sides-hold}
use Rattle.rule_facts.proofs.Orders.{before-head, before-tail, in-rest, sum-within, in-before, one-before, before-before}
use Rattle.rule_facts.proofs.Sequences.{InUse, serves, in-own-ring, before-comes, ordered, both-rings, other-mutual, is_earlier, earlier-before, same-test, before-side}

-- what passes one test is cut in two by another
split-sum : (f : ℕ → ℕ) (test side : ℕ → Bool) (xs : List ℕ)
    → sum_of f (those test xs) ≡ sum_of f (those (λ y. test y && side y) xs) + sum_of f (those (λ y. test y && not (side y)) xs)
split-sum f test side [] = refl
split-sum f test side (x ∷ xs) = split (test x) (side x) (split-sum f test side xs)
  where
    split : (a b : Bool) → sum_of f (those test xs) ≡ sum_of f (those (λ y. test y && side y) xs) + sum_of f (those (λ y. test y && not (side y)) xs)
        → sum_of f (if a then x ∷ those test xs else those test xs)
        ≡ sum_of f (if a && b then x ∷ those (λ y. test y && side y) xs else those (λ y. test y && side y) xs)
        + sum_of f (if a && not b then x ∷ those (λ y. test y && not (side y)) xs else those (λ y. test y && not (side y)) xs)
    split true true ih = omega (arith, ih)
    split true false ih = omega (arith, ih)
    split false b ih = ih

-- what comes up to a member that passes, as all before it do, is no more than all that pass
front-passes : (f : ℕ → ℕ) (test : ℕ → Bool) (xs : List ℕ) (z : ℕ) → is_in xs z ≡ true
    → ((w : ℕ) → is_in (before z xs) w ≡ true → test w ≡ true) → test z ≡ true → sum_of f (before z xs) + f z ≤ sum_of f (those test xs)
front-passes f test [] z h all k = absurd (false≢true h)
front-passes f test (x ∷ xs) z h all k = elim (eqb_tells x z) [
  | inl (t, e) ↦ head e
  | inr (t, ne) ↦
      let cut : before z (x ∷ xs) ≡ x ∷ before z xs = before-tail z x xs ne in
      tail cut (all x (subst (λ (ys : List ℕ). is_in ys x ≡ true) (sym cut) (in-head x (before z xs))))
      (front-passes f test xs z (in-rest z x xs h ne) (λ w i. all w (subst (λ (ys : List ℕ). is_in ys w ≡ true) (sym cut) (in-tail x (before z xs) w i))) k)
]
  where
    head : x ≡ z → sum_of f (before z (x ∷ xs)) + f z ≤ sum_of f (if test x then x ∷ those test xs else those test xs)
    head e =
        let none : sum_of f (before z (x ∷ xs)) ≡ 0 = ap (sum_of f) (subst (λ (y : ℕ). before y (x ∷ xs) ≡ []) e (before-head x xs)) in
        let passes : test x ≡ true = ap test e ∙ k in
        let all_of : sum_of f (if test x then x ∷ those test xs else those test xs) ≡ f x + sum_of f (those test xs) = rw passes refl in
        let same : f x ≡ f z = ap f e in
        omega (arith, none, all_of, same)

    tail : before z (x ∷ xs) ≡ x ∷ before z xs → test x ≡ true → sum_of f (before z xs) + f z ≤ sum_of f (those test xs)
        → sum_of f (before z (x ∷ xs)) + f z ≤ sum_of f (if test x then x ∷ those test xs else those test xs)
    tail cut passes ih =
        let more : sum_of f (before z (x ∷ xs)) ≡ f x + sum_of f (before z xs) = ap (sum_of f) cut in
        let all_of : sum_of f (if test x then x ∷ those test xs else those test xs) ≡ f x + sum_of f (those test xs) = rw passes refl in
        omega (arith, more, all_of, ih)

part-within : (f : ℕ → ℕ) (test : ℕ → Bool) (xs : List ℕ) → sum_of f (those test xs) ≤ sum_of f xs
part-within f test [] = omega arith
part-within f test (x ∷ xs) = split (test x) (part-within f test xs)
  where
    split : (b : Bool) → sum_of f (those test xs) ≤ sum_of f xs → sum_of f (if b then x ∷ those test xs else those test xs) ≤ f x + sum_of f xs
    split true ih = omega (arith, ih)
    split false ih = omega (arith, ih)

greatest-within : (f : ℕ → ℕ) (xs : List ℕ) (most : ℕ) → ((x : ℕ) → is_in xs x ≡ true → f x ≤ most) → greatest f xs ≤ most
greatest-within f [] most h = omega arith
greatest-within f (x ∷ xs) most h = max-le (h x (in-head x xs)) (greatest-within f xs most (λ y i. h y (in-tail x xs y i)))

-- a defined pattern of tables that keep the rules, and its sequence
pub record Laid (t : Tables) (n : ℕ) : Type 0 where
  pub use_of : InUse t (pattern_of t n).sequence
  pub times : fills_cycle t n ≡ true

-- a side is as long in both rings
side-times : (t : Tables) (n p : ℕ) → Laid t n → is_enabled t p ≡ true → side_time t n p 1 ≡ side_time t n p 2
side-times t n p k e =
    let a = and_parts (sum_of (split_time t n) (pattern_order t n 1) == cycle_time t n && sum_of (split_time t n) (pattern_order t n 2) == cycle_time t n)
    (every (λ x. not (is_enabled t x) || side_time t n x 1 == side_time t n x 2) all_phases) k.times in
    eq-true _ _ (under (is_enabled t p) (side_time t n p 1 == side_time t n p 2)
    (every-phase (λ x. not (is_enabled t x) || side_time t n x 1 == side_time t n x 2) a.1 p (enabled-phase t p e)) e)

-- a test that is one for each side
abbrev OfSides : Tables → (ℕ → Bool) → Type 0
OfSides t test = (a b : ℕ) → are_of_one_side t a b ≡ true → test a ≡ test b

-- of a side that passes, all of ring r passes
side-part : (t : Tables) (n x r : ℕ) (test : ℕ → Bool) → Laid t n → (r ≡ 1) ⊎ (r ≡ 2) → OfSides t test → test x ≡ true
    → sum_of (split_time t n) (those (λ y. test y && are_of_one_side t x y) (pattern_order t n r)) ≡ side_time t n x r
side-part t n x r test k which closed passes =
    ap (sum_of (split_time t n))
    (those-same (λ y. test y && are_of_one_side t x y) (λ y. ring_of t y == r && are_of_one_side t x y) (pattern_order t n r)
    (λ y i. same (test y) (ring_of t y == r) (are_of_one_side t x y)
    ((Decides-eqb _ _).1 ((serves t (pattern_of t n).sequence r k.use_of.kept which).nothing_else y i).1)
    (λ side. sym (closed x y side) ∙ passes)))
  where
    same : (a b c : Bool) → b ≡ true → (c ≡ true → a ≡ true) → (a && c) ≡ (b && c)
    same true true c e h = refl
    same false true true e h = h refl
    same false true false e h = refl
    same a false c e h = absurd (false≢true e)

-- the slots of what passes are as long in both rings
abbrev Balanced : Tables → ℕ → (ℕ → Bool) → Type 0
Balanced t n test = sum_of (split_time t n) (those test (pattern_order t n 1)) ≡ sum_of (split_time t n) (those test (pattern_order t n 2))

-- how many of the first ring pass
abbrev passing : Tables → ℕ → (ℕ → Bool) → ℕ
passing t n test = sum_of (λ _. 1) (those test (pattern_order t n 1))

-- where none of the first ring passes, none of the second does
none-balanced : (t : Tables) (n : ℕ) (test : ℕ → Bool) → Laid t n → OfSides t test → those test (pattern_order t n 1) ≡ [] → Balanced t n test
none-balanced t n test k closed none = ap (sum_of (split_time t n)) (none ∙ sym (none-listed test (pattern_order t n 2) fails))
  where
    fails : (y : ℕ) → is_in (pattern_order t n 2) y ≡ true → test y ≡ false
    fails y i = elim (cases_Bool (test y)) [
      | inl passes ↦
          let e : is_enabled t y ≡ true = ((serves t (pattern_of t n).sequence 2 k.use_of.kept (inr refl)).nothing_else y i).0 in
          let x = (sides-hold t k.use_of.rules).both_rings y 1 e (inl refl) in
          let there : is_in (pattern_order t n 1) x.0 ≡ true
          = (serves t (pattern_of t n).sequence 1 k.use_of.kept (inl refl)).listed x.0 (side-enabled t y x.0 x.1).1 x.2 in
          let found : is_in (those test (pattern_order t n 1)) x.0 ≡ true
          = in-those-is test (pattern_order t n 1) x.0 ∙ and_from (test x.0) _ (sym (closed y x.0 x.1) ∙ passes) there in
          absurd (false≢true (subst (λ (ys : List ℕ). is_in ys x.0 ≡ true) none found))
      | inr no_more ↦ no_more
    ]

-- a side fewer
without-side : (t : Tables) (x : ℕ) (test : ℕ → Bool) → KeepsRules t → OfSides t test → OfSides t (λ y. test y && not (are_of_one_side t x y))
without-side t x test k closed a b h =
    both (test a) (test b) (are_of_one_side t x a) (are_of_one_side t x b) (closed a b h)
    (same-answer _ _ (λ m. side-joined t x a b k m h) (λ m. side-joined t x b a k m (side-mutual t a b h)))
  where
    both : (a b c d : Bool) → a ≡ b → c ≡ d → (a && not c) ≡ (b && not d)
    both a b c d e f = rw (e, f) refl

-- the tests of fewer phases are balanced
abbrev EachBelow : Tables → ℕ → ℕ → Type 0
EachBelow t n most = (test : ℕ → Bool) → OfSides t test → passing t n test < most → Balanced t n test

side-more : (t : Tables) (n most : ℕ) (test : ℕ → Bool) (x : ℕ) → Laid t n → OfSides t test → EachBelow t n most → passing t n test < suc most
    → is_in (those test (pattern_order t n 1)) x ≡ true → Balanced t n test
side-more t n most test x k closed fewer few i =
    split-sum (split_time t n) test (are_of_one_side t x) (pattern_order t n 1)
    ∙ both _ _ _ _
    (side-part t n x 1 test k (inl refl) closed passes.0 ∙ side-times t n x k e ∙ sym (side-part t n x 2 test k (inr refl) closed passes.0))
    (fewer (λ y. test y && not (are_of_one_side t x y)) (without-side t x test k.use_of.rules closed)
    (less (passing t n test) (passing t n (λ y. test y && are_of_one_side t x y)) (passing t n (λ y. test y && not (are_of_one_side t x y))) most
    (split-sum (λ _. 1) test (are_of_one_side t x) (pattern_order t n 1)) some few))
    ∙ sym (split-sum (split_time t n) test (are_of_one_side t x) (pattern_order t n 2))
  where
    passes : (test x ≡ true) × (is_in (pattern_order t n 1) x ≡ true)
    passes = in-those test (pattern_order t n 1) x i

    e : is_enabled t x ≡ true
    e = ((serves t (pattern_of t n).sequence 1 k.use_of.kept (inl refl)).nothing_else x passes.1).0

    both : (a b c d : ℕ) → a ≡ b → c ≡ d → a + c ≡ b + d
    both a b c d f g = omega (arith, f, g)

    one-more : (a b : ℕ) → a + 1 ≤ b → 1 ≤ b
    one-more a b h = omega arith

    some : 1 ≤ passing t n (λ y. test y && are_of_one_side t x y)
    some =
        one-more _ _ (sum-within (λ _. 1) (those (λ y. test y && are_of_one_side t x y) (pattern_order t n 1)) x
        (in-those-is (λ y. test y && are_of_one_side t x y) (pattern_order t n 1) x
        ∙ and_from (test x && are_of_one_side t x x) _ (and_from (test x) _ passes.0 (own t x e)) passes.1))

    less : (all side rest most : ℕ) → all ≡ side + rest → 1 ≤ side → all < suc most → rest < most
    less all side rest most f g h = omega (arith, f, g, h)

balanced : (t : Tables) (n most : ℕ) → Laid t n → EachBelow t n most
balanced t n zero k test closed few = absurd (omega arith)
balanced t n (suc most) k test closed few = start (those test (pattern_order t n 1)) refl (balanced t n most k)
  where
    start : (xs : List ℕ) → those test (pattern_order t n 1) ≡ xs → EachBelow t n most → Balanced t n test
    start [] e fewer = none-balanced t n test k closed e
    start (x ∷ xs) e fewer = side-more t n most test x k closed fewer few (subst (λ (ys : List ℕ). is_in ys x ≡ true) (sym e) (in-head x xs))

-- the slots of the earlier sides are as long in both rings
earlier-balanced : (t : Tables) (n p r : ℕ) → Laid t n → (r ≡ 1) ⊎ (r ≡ 2) → is_enabled t p ≡ true
    → sum_of (split_time t n) (earlier_sides t (pattern_of t n).sequence p r)
    ≡ sum_of (split_time t n) (earlier_sides t (pattern_of t n).sequence p (ring_of t p))
earlier-balanced t n p r k which e = to-first r which ∙ sym (to-first (ring_of t p) (in-ring t p k.use_of.rules e))
  where
    s : ℕ
    s = (pattern_of t n).sequence

    even : Balanced t n (is_earlier t s p)
    even = balanced t n (suc (passing t n (is_earlier t s p))) k (is_earlier t s p) (λ a b h. same-test t s p p a b k.use_of (own t p e) h) (omega arith)

    to-first : (r : ℕ) → (r ≡ 1) ⊎ (r ≡ 2) → sum_of (split_time t n) (earlier_sides t s p r) ≡ sum_of (split_time t n) (earlier_sides t s p 1)
    to-first r (inl f) = ap (λ (x : ℕ). sum_of (split_time t n) (earlier_sides t s p x)) f
    to-first r (inr f) = ap (λ (x : ℕ). sum_of (split_time t n) (earlier_sides t s p x)) f ∙ sym even

-- the slot of z ends before that of q starts, where the side of z comes before that of q in the ring of z
ends-before : (t : Tables) (n z q a : ℕ) → Laid t n → is_enabled t q ≡ true → are_of_one_side t q a ≡ true → are_of_one_side t q z ≡ false
    → ring_of t a ≡ ring_of t z → is_in (before a (pattern_order t n (ring_of t z))) z ≡ true → slot_end t n z ≤ slot_start t n q
ends-before t n z q a k eq side other same h =
    le_trans
    (front-passes (split_time t n) (is_earlier t s q) (pattern_order t n (ring_of t z)) z (in-own-ring t s z k.use_of ez) each here)
    (le_trans (at-most (earlier-balanced t n q (ring_of t z) k (in-ring t z k.use_of.rules ez) eq))
    (le_trans (at-most (ap (sum_of (split_time t n)) (sym (before-side t s q k.use_of eq))))
    (part-within (split_time t n) (λ x. not (are_of_one_side t q x)) (before q (pattern_order t n (ring_of t q))))))
  where
    s : ℕ
    s = (pattern_of t n).sequence

    ea : is_enabled t a ≡ true
    ea = (side-enabled t q a side).1

    at-most : {x y : ℕ} → x ≡ y → x ≤ y
    at-most e = omega (arith, e)

    in-mine : is_in (before a (order_of t s (ring_of t a))) z ≡ true
    in-mine = subst (λ (r : ℕ). is_in (before a (order_of t s r)) z ≡ true) (sym same) h

    ez : is_enabled t z ≡ true
    ez = ((serves t s (ring_of t a) k.use_of.kept (in-ring t a k.use_of.rules ea)).nothing_else z (in-before a (order_of t s (ring_of t a)) z in-mine)).0

    apart : are_of_one_side t a z ≡ false
    apart = elim (cases_Bool (are_of_one_side t a z)) [
      | inl m ↦ absurd (both_ways _ other (side-joined t q a z k.use_of.rules side m))
      | inr m ↦ m
    ]

    passes : (w : ℕ) → are_of_one_side t w w ≡ true → is_in (before a (order_of t s (ring_of t a))) w ≡ true → are_of_one_side t a w ≡ false
        → is_earlier t s q w ≡ true
    passes w ww i no_side =
        same-test t s q a w w k.use_of side ww ∙ sym (earlier-before t s a w k.use_of ea i) ∙ rw no_side refl

    here : is_earlier t s q z ≡ true
    here = passes z (own t z ez) in-mine apart

    each : (w : ℕ) → is_in (before z (pattern_order t n (ring_of t z))) w ≡ true → is_earlier t s q w ≡ true
    each w i =
        let up : is_in (before a (order_of t s (ring_of t z))) w ≡ true = before-before (order_of t s (ring_of t z)) a z w h i in
        let served = serves t s (ring_of t z) k.use_of.kept (in-ring t z k.use_of.rules ez) in
        let ew : is_enabled t w ≡ true = (served.nothing_else w (in-before z (order_of t s (ring_of t z)) w i)).0 in
        let between : are_of_one_side t a w ≡ false = elim (cases_Bool (are_of_one_side t a w)) [
          | inl m ↦
              absurd (both_ways _ (ordered t s w z a z k.use_of (not-with w m) (before-comes t s z w k.use_of ez i) (side-mutual t a w m) (own t z ez))
              (before-comes t s a z k.use_of ea in-mine))
          | inr m ↦ m
        ] in
        passes w (own t w ew) (subst (λ (r : ℕ). is_in (before a (order_of t s r)) w ≡ true) (sym same) up) between
      where
        not-with : (w : ℕ) → are_of_one_side t a w ≡ true → are_of_one_side t w z ≡ false
        not-with w m = elim (cases_Bool (are_of_one_side t w z)) [
          | inl o ↦ absurd (both_ways _ apart (side-joined t a w z k.use_of.rules m o))
          | inr o ↦ o
        ]

-- where p comes before a phase of the side of q in its ring, its side ends in both rings before the slot of q starts
side-ends-before : (t : Tables) (n p q a : ℕ) → Laid t n → is_enabled t q ≡ true → are_of_one_side t q a ≡ true → are_of_one_side t q p ≡ false
    → is_in (before a (pattern_order t n (ring_of t a))) p ≡ true → side_end t n p ≤ slot_start t n q
side-ends-before t n p q a k eq side other h =
    greatest-within (slot_end t n) (side_of t p) (slot_start t n q) (λ z i.
    let pz : are_of_one_side t p z ≡ true = (in-those (are_of_one_side t p) all_phases z i).0 in
    let b = (sides-hold t k.use_of.rules).both_rings q (ring_of t z) eq (in-ring t z k.use_of.rules (side-enabled t p z pz).1) in
    let ab : are_of_one_side t a b.0 ≡ true = side-joined t a q b.0 k.use_of.rules (side-mutual t q a side) b.1 in
    ends-before t n z q b.0 k eq b.1 (other-mutual t z q (out z pz)) b.2
    (subst (λ (r : ℕ). is_in (before b.0 (order_of t (pattern_of t n).sequence r)) z ≡ true) b.2
    (both-rings t (pattern_of t n).sequence a p b.0 z k.use_of (out-of-a) h ab pz b.2)))
  where
    out : (z : ℕ) → are_of_one_side t p z ≡ true → are_of_one_side t z q ≡ false
    out z pz = elim (cases_Bool (are_of_one_side t z q)) [
      | inl m ↦ absurd (both_ways _ other (side-mutual t p q (side-joined t p z q k.use_of.rules pz m)))
      | inr m ↦ m
    ]

    out-of-a : are_of_one_side t a p ≡ false
    out-of-a = elim (cases_Bool (are_of_one_side t a p)) [
      | inl m ↦ absurd (both_ways _ other (side-joined t q a p k.use_of.rules side m))
      | inr m ↦ m
    ]

-- a side ends for each of its phases at one moment
pub same-end : (t : Tables) (n p q : ℕ) → KeepsRules t → are_of_one_side t p q ≡ true → side_end t n p ≡ side_end t n q
same-end t n p q k h =
    ap (greatest (slot_end t n))
    (those-same (are_of_one_side t p) (are_of_one_side t q) all_phases (λ x i.
    same-answer _ _ (λ m. side-joined t q p x k (side-mutual t p q h) m) (λ m. side-joined t p q x k h m)))

-- of two sides one ends in both rings before a slot of the other starts
pub sides-apart : (t : Tables) (n p q : ℕ) → Laid t n → is_enabled t p ≡ true → is_enabled t q ≡ true → are_of_one_side t p q ≡ false
    → (side_end t n p ≤ slot_start t n q) ⊎ (side_end t n q ≤ slot_start t n p)
sides-apart t n p q k ep eq other =
    elim (one-before (order_of t s (ring_of t p)) p a.0 (in-own-ring t s p k.use_of ep)
    (subst (λ (r : ℕ). is_in (order_of t s r) a.0 ≡ true) a.2 (in-own-ring t s a.0 k.use_of (side-enabled t q a.0 a.1).1))
    (λ e. both_ways _ other (side-mutual t q p (subst (λ (x : ℕ). are_of_one_side t q x ≡ true) (sym e) a.1)))) [
      | inl h ↦
          inl (side-ends-before t n p q a.0 k eq a.1 (other-mutual t p q other)
          (subst (λ (r : ℕ). is_in (before a.0 (order_of t s r)) p ≡ true) (sym a.2) h))
      | inr h ↦
          let back : side_end t n a.0 ≤ slot_start t n p = side-ends-before t n a.0 p p k ep (own t p ep) away h in
          inr (subst (λ (x : ℕ). x ≤ slot_start t n p) (same-end t n a.0 q k.use_of.rules (side-mutual t q a.0 a.1)) back)
    ]
  where
    s : ℕ
    s = (pattern_of t n).sequence

    a : (x : ℕ) × (are_of_one_side t q x ≡ true) × (ring_of t x ≡ ring_of t p)
    a = (sides-hold t k.use_of.rules).both_rings q (ring_of t p) eq (in-ring t p k.use_of.rules ep)

    away : are_of_one_side t p a.0 ≡ false
    away = elim (cases_Bool (are_of_one_side t p a.0)) [
      | inl m ↦ absurd (both_ways _ other (side-joined t p a.0 q k.use_of.rules m (side-mutual t q a.0 a.1)))
      | inr m ↦ m
    ]

-- The sequences in use serve each phase once, side by side.
use Rattle.std.proofs.Common.{◌≡◌, ◌⊎◌, inl, inr, ℕ, Bool, true, false, not, ◌&&◌, ◌||◌, ◌==◌, List, [], ◌∷◌, ◌++◌, refl, sym, ◌∙◌, ap, subst}
use Rattle.std.proofs.lemmas.Bool.Decides.{Decides-eqb}
use Rattle.std.proofs.lemmas.Bool.{cases_Bool, and_parts, and_from, or_cases, or_left, or_right, false≢true, both_ways, not-true}
use Rattle.std.proofs.lemmas.List.{append-nil}
use Rattle.sig_types.specs.Phases.{all_phases, is_in, some, those, after}
use Rattle.sig_types.proofs.Lists.{eq-true, in-cons, in-after, phase-listed}
use Rattle.sig_types.proofs.Sets.{in-every, every-phase, those-same, found-some}
use Rattle.sig_tables.specs.declared.tables.Tables.{Tables}
use Rattle.sig_tables.specs.Tables.{ring_of, is_enabled, order_of}
use Rattle.sig_tables.specs.Sides.{are_of_one_side}
use Rattle.sig_tables.specs.Sums.{times_in, every, before}
use Rattle.sig_tables.proofs.Below.{enabled-phase}
use Rattle.rule_book.specs.RingLayout.{serves_ring, is_of_ring, comes_after, side_comes_before}
use Rattle.tick_laws.proofs.OneSide.{side-enabled, own, side-mutual}
use Rattle.rule_facts.specs.Rules.{SequenceRules, KeepsRules}
use Rattle.rule_facts.specs.Sequences.{RingServed, earlier_sides, SequenceServes}
use Rattle.rule_facts.proofs.Kept.{none-listed}
use Rattle.rule_facts.proofs.Members.{Found, some-found, counted-member, under, same-answer}
use Rattle.rule_facts.proofs.RingLayout.{in-ring}
use Rattle.rule_facts.proofs.Sides.{side-joined}
use Rattle.rule_facts.proofs.Orders.{cut-at, in-before, one-before, before-after, those-append}

-- ring r of a sequence in use
pub ring-served : (t : Tables) (s r : ℕ) → SequenceRules t s → (r ≡ 1) ⊎ (r ≡ 2) → serves_ring t s r ≡ true
ring-served t s r k which =
    let both = and_parts (serves_ring t s 1) (serves_ring t s 2) k.rings in
    elim which [
      | inl e ↦ subst (λ (x : ℕ). serves_ring t s x ≡ true) (sym e) both.0
      | inr e ↦ subst (λ (x : ℕ). serves_ring t s x ≡ true) (sym e) both.1
    ]

-- each enabled phase of the ring is in it once
pub listed-once : (t : Tables) (s r p : ℕ) → SequenceRules t s → (r ≡ 1) ⊎ (r ≡ 2) → is_enabled t p ≡ true → ring_of t p ≡ r
    → times_in (order_of t s r) p ≡ 1
listed-once t s r p k which e at =
    let both = and_parts (every (is_of_ring t r) (order_of t s r)) (every (λ x. not (is_of_ring t r x) || times_in (order_of t s r) x == 1) all_phases)
    (ring-served t s r k which) in
    let here : is_of_ring t r p ≡ true = and_from (is_enabled t p) (ring_of t p == r) e ((Decides-eqb _ _).1 at) in
    eq-true _ _ (under (is_of_ring t r p) (times_in (order_of t s r) p == 1)
    (every-phase (λ x. not (is_of_ring t r x) || times_in (order_of t s r) x == 1) both.1 p (enabled-phase t p e)) here)

-- a sequence in use of tables that keep the rules
pub record InUse (t : Tables) (s : ℕ) : Type 0 where
  pub rules : KeepsRules t
  pub kept : SequenceRules t s

pub serves : (t : Tables) (s r : ℕ) → SequenceRules t s → (r ≡ 1) ⊎ (r ≡ 2) → RingServed t s r
serves t s r k which = record {
  once = λ p e at. listed-once t s r p k which e at;
  listed = λ p e at. counted-member (order_of t s r) p (listed-once t s r p k which e at);
  nothing_else = λ p i.
      let both = and_parts (every (is_of_ring t r) (order_of t s r)) _ (ring-served t s r k which) in
      let c = and_parts (is_enabled t p) (ring_of t p == r) (in-every (is_of_ring t r) (order_of t s r) p both.0 i) in
      (c.0, eq-true _ _ c.1);
}

-- an enabled phase is in its ring
pub in-own-ring : (t : Tables) (s p : ℕ) → InUse t s → is_enabled t p ≡ true → is_in (order_of t s (ring_of t p)) p ≡ true
in-own-ring t s p k e = (serves t s (ring_of t p) k.kept (in-ring t p k.rules e)).listed p e refl

-- what comes after p in a ring comes after it in the sequence
in-ring-after : (t : Tables) (s r p q : ℕ) → (r ≡ 1) ⊎ (r ≡ 2) → is_in (after p (order_of t s r)) q ≡ true → comes_after t s p q ≡ true
in-ring-after t s r p q (inl e) h = or_left (is_in (after p (order_of t s 1)) q) _ (subst (λ (x : ℕ). is_in (after p (order_of t s x)) q ≡ true) e h)
in-ring-after t s r p q (inr e) h = or_right _ (is_in (after p (order_of t s 2)) q) (subst (λ (x : ℕ). is_in (after p (order_of t s x)) q ≡ true) e h)

-- and it is an enabled phase
after-enabled : (t : Tables) (s p q : ℕ) → InUse t s → comes_after t s p q ≡ true → is_enabled t q ≡ true
after-enabled t s p q k h = elim (or_cases (is_in (after p (order_of t s 1)) q) (is_in (after p (order_of t s 2)) q) h) [
  | inl a ↦ ((serves t s 1 k.kept (inl refl)).nothing_else q (in-after p (order_of t s 1) q a)).0
  | inr b ↦ ((serves t s 2 k.kept (inr refl)).nothing_else q (in-after p (order_of t s 2) q b)).0
]

-- what comes before a phase in its ring is followed by it
pub before-comes : (t : Tables) (s p x : ℕ) → InUse t s → is_enabled t p ≡ true → is_in (before p (order_of t s (ring_of t p))) x ≡ true
    → comes_after t s x p ≡ true
before-comes t s p x k e h =
    in-ring-after t s (ring_of t p) x p (in-ring t p k.rules e) (before-after (order_of t s (ring_of t p)) p x (in-own-ring t s p k e) h)

-- a side that has a phase before one of another comes before that one
pub shows-before : (t : Tables) (s q p b a : ℕ) → are_of_one_side t q b ≡ true → are_of_one_side t p a ≡ true → comes_after t s b a ≡ true
    → side_comes_before t s q p ≡ true
shows-before t s q p b a hb ha c =
    let eb : is_enabled t b ≡ true = (side-enabled t q b hb).1 in
    let ea : is_enabled t a ≡ true = (side-enabled t p a ha).1 in
    found-some (λ y. are_of_one_side t q y && some (λ x. are_of_one_side t p x && comes_after t s y x) all_phases) all_phases b
    (phase-listed b (enabled-phase t b eb))
    (and_from (are_of_one_side t q b) (some (λ x. are_of_one_side t p x && comes_after t s b x) all_phases) hb
    (found-some (λ x. are_of_one_side t p x && comes_after t s b x) all_phases a (phase-listed a (enabled-phase t a ea))
    (and_from (are_of_one_side t p a) (comes_after t s b a) ha c)))

-- two phases that show it
record Shown (t : Tables) (s q p : ℕ) : Type 0 where
  first : ℕ
  second : ℕ
  front : are_of_one_side t q first ≡ true
  back : are_of_one_side t p second ≡ true
  follows : comes_after t s first second ≡ true

shown : (t : Tables) (s q p : ℕ) → side_comes_before t s q p ≡ true → Shown t s q p
shown t s q p h =
    let f : Found (λ y. are_of_one_side t q y && some (λ x. are_of_one_side t p x && comes_after t s y x) all_phases) all_phases = some-found _ all_phases h in
    let a = and_parts (are_of_one_side t q f.member) (some (λ x. are_of_one_side t p x && comes_after t s f.member x) all_phases) f.passes in
    let g : Found (λ x. are_of_one_side t p x && comes_after t s f.member x) all_phases = some-found _ all_phases a.1 in
    let b = and_parts (are_of_one_side t p g.member) (comes_after t s f.member g.member) g.passes in
    record { first = f.member; second = g.member; front = a.0; back = b.0; follows = b.1 }

-- where q comes after p, of another side, its side does not come before that of p
not-before : (t : Tables) (s p q : ℕ) → InUse t s → is_enabled t p ≡ true → are_of_one_side t p q ≡ false → comes_after t s p q ≡ true
    → side_comes_before t s q p ≡ false
not-before t s p q k e other c =
    last (are_of_one_side t p q) (comes_after t s p q) (side_comes_before t s q p) other c
    (every-phase (λ y. are_of_one_side t p y || not (comes_after t s p y) || not (side_comes_before t s y p))
    (every-phase (λ x. every (λ y. are_of_one_side t x y || not (comes_after t s x y) || not (side_comes_before t s y x)) all_phases)
    k.kept.sides p (enabled-phase t p e))
    q (enabled-phase t q (after-enabled t s p q k c)))
  where
    last : (a b c : Bool) → a ≡ false → b ≡ true → (a || not b || not c) ≡ true → c ≡ false
    last false true c e f h = not-true c h
    last true b c e f h = absurd (false≢true (sym e))
    last false false c e f h = absurd (false≢true f)

pub ordered : (t : Tables) (s p q a b : ℕ) → InUse t s → are_of_one_side t p q ≡ false → comes_after t s p q ≡ true → are_of_one_side t p a ≡ true
    → are_of_one_side t q b ≡ true → comes_after t s b a ≡ false
ordered t s p q a b k other c ha hb = elim (cases_Bool (comes_after t s b a)) [
  | inl d ↦ absurd (both_ways _ (not-before t s p q k (side-enabled t p a ha).0 other c) (shows-before t s q p b a hb ha d))
  | inr n ↦ n
]

-- to be of another side goes both ways, and holds of each phase of the two
pub other-mutual : (t : Tables) (p q : ℕ) → are_of_one_side t p q ≡ false → are_of_one_side t q p ≡ false
other-mutual t p q h = elim (cases_Bool (are_of_one_side t q p)) [
  | inl k ↦ absurd (both_ways _ h (side-mutual t q p k))
  | inr n ↦ n
]

other-sides : (t : Tables) (p q a b : ℕ) → KeepsRules t → are_of_one_side t p q ≡ false → are_of_one_side t p a ≡ true → are_of_one_side t q b ≡ true
    → are_of_one_side t a b ≡ false
other-sides t p q a b k other ha hb = elim (cases_Bool (are_of_one_side t a b)) [
  | inl h ↦ absurd (both_ways _ other (side-joined t p a q k ha (side-joined t a b q k h (side-mutual t q b hb))))
  | inr n ↦ n
]

pub both-rings : (t : Tables) (s p x a b : ℕ) → InUse t s → are_of_one_side t p x ≡ false → is_in (before p (order_of t s (ring_of t p))) x ≡ true
    → are_of_one_side t p a ≡ true → are_of_one_side t x b ≡ true → ring_of t a ≡ ring_of t b
    → is_in (before a (order_of t s (ring_of t a))) b ≡ true
both-rings t s p x a b k other h ha hb same =
    let ep : is_enabled t p ≡ true = (side-enabled t p a ha).0 in
    let ea : is_enabled t a ≡ true = (side-enabled t p a ha).1 in
    let eb : is_enabled t b ≡ true = (side-enabled t x b hb).1 in
    let apart : are_of_one_side t a b ≡ false = other-sides t p x a b k.rules other ha hb in
    elim (one-before (order_of t s (ring_of t a)) b a
    (subst (λ (r : ℕ). is_in (order_of t s r) b ≡ true) (sym same) (in-own-ring t s b k eb)) (in-own-ring t s a k ea)
    (λ e. both_ways _ apart (subst (λ (y : ℕ). are_of_one_side t a y ≡ true) (sym e) (own t a ea)))) [
      | inl here ↦ here
      | inr wrong ↦
          let follows : comes_after t s a b ≡ true
          = before-comes t s b a k eb (subst (λ (r : ℕ). is_in (before b (order_of t s r)) a ≡ true) same wrong) in
          absurd (both_ways _ (ordered t s x p b a k (other-mutual t p x other) (before-comes t s p x k ep h) hb ha) follows)
    ]

-- the test of the earlier sides
abbrev pub is_earlier : Tables → ℕ → ℕ → ℕ → Bool
is_earlier t s p x = not (are_of_one_side t p x) && side_comes_before t s x p

-- before p it says of another side
pub earlier-before : (t : Tables) (s p x : ℕ) → InUse t s → is_enabled t p ≡ true → is_in (before p (order_of t s (ring_of t p))) x ≡ true
    → not (are_of_one_side t p x) ≡ is_earlier t s p x
earlier-before t s p x k e h =
    let ring : (ring_of t p ≡ 1) ⊎ (ring_of t p ≡ 2) = in-ring t p k.rules e in
    let ex : is_enabled t x ≡ true = ((serves t s (ring_of t p) k.kept ring).nothing_else x (in-before p (order_of t s (ring_of t p)) x h)).0 in
    same (not (are_of_one_side t p x)) (side_comes_before t s x p) (shows-before t s x p x p (own t x ex) (own t p e) (before-comes t s p x k e h))
  where
    same : (a b : Bool) → b ≡ true → a ≡ (a && b)
    same true true h = refl
    same true false h = absurd (false≢true h)
    same false b h = refl

-- from p on it says of none
earlier-none : (t : Tables) (s p x : ℕ) → InUse t s → is_enabled t p ≡ true → is_in (p ∷ after p (order_of t s (ring_of t p))) x ≡ true
    → is_earlier t s p x ≡ false
earlier-none t s p x k e h = elim (cases_Bool (are_of_one_side t p x)) [
  | inl side ↦ rw side refl
  | inr other ↦ elim (in-cons p (after p (order_of t s (ring_of t p))) x h) [
    | inl same ↦ absurd (both_ways _ other (subst (λ (y : ℕ). are_of_one_side t p y ≡ true) (sym same) (own t p e)))
    | inr r ↦
        let last : side_comes_before t s x p ≡ false = not-before t s p x k e other (in-ring-after t s (ring_of t p) p x (in-ring t p k.rules e) r) in
        rw (other, last) refl
  ]
]

pub before-side : (t : Tables) (s p : ℕ) → InUse t s → is_enabled t p ≡ true
    → those (λ x. not (are_of_one_side t p x)) (before p (order_of t s (ring_of t p))) ≡ earlier_sides t s p (ring_of t p)
before-side t s p k e =
    let order : List ℕ = order_of t s (ring_of t p) in
    let cut : those (is_earlier t s p) order ≡ those (is_earlier t s p) (before p order) ++ those (is_earlier t s p) (p ∷ after p order)
    = ap (those (is_earlier t s p)) (cut-at order p (in-own-ring t s p k e)) ∙ those-append (is_earlier t s p) (before p order) (p ∷ after p order) in
    let none : those (is_earlier t s p) (p ∷ after p order) ≡ [] = none-listed (is_earlier t s p) (p ∷ after p order) (λ x h. earlier-none t s p x k e h) in
    those-same (λ x. not (are_of_one_side t p x)) (is_earlier t s p) (before p order) (λ x h. earlier-before t s p x k e h)
    ∙ sym (cut ∙ ap (λ (ys : List ℕ). those (is_earlier t s p) (before p order) ++ ys) none ∙ append-nil (those (is_earlier t s p) (before p order)))

-- the test is one for each side, both of those that come before and of that before which they come
pub same-test : (t : Tables) (s p q x y : ℕ) → InUse t s → are_of_one_side t p q ≡ true → are_of_one_side t x y ≡ true
    → is_earlier t s p x ≡ is_earlier t s q y
same-test t s p q x y k h g =
    both (are_of_one_side t p x) (are_of_one_side t q y) (side_comes_before t s x p) (side_comes_before t s y q)
    (same-answer _ _ (λ m. side-joined t q p y k.rules (side-mutual t p q h) (side-joined t p x y k.rules m g))
    (λ m. side-joined t p q x k.rules h (side-joined t q y x k.rules m (side-mutual t x y g))))
    (same-answer _ _ (moves p q x y h g) (moves q p y x (side-mutual t p q h) (side-mutual t x y g)))
  where
    both : (a b c d : Bool) → a ≡ b → c ≡ d → (not a && c) ≡ (not b && d)
    both a b c d e f = rw (e, f) refl

    moves : (u v a b : ℕ) → are_of_one_side t u v ≡ true → are_of_one_side t a b ≡ true → side_comes_before t s a u ≡ true → side_comes_before t s b v ≡ true
    moves u v a b m o c =
        let w : Shown t s a u = shown t s a u c in
        shows-before t s b v w.first w.second (side-joined t b a w.first k.rules (side-mutual t a b o) w.front)
        (side-joined t v u w.second k.rules (side-mutual t u v m) w.back) w.follows

earlier-enabled : (t : Tables) (s p x : ℕ) → is_earlier t s p x ≡ true → is_enabled t x ≡ true
earlier-enabled t s p x h =
    let w : Shown t s x p = shown t s x p (and_parts (not (are_of_one_side t p x)) (side_comes_before t s x p) h).1 in
    (side-enabled t x w.first w.front).0

same-earlier : (t : Tables) (s p q r : ℕ) → InUse t s → are_of_one_side t p q ≡ true → earlier_sides t s p r ≡ earlier_sides t s q r
same-earlier t s p q r k h =
    those-same (is_earlier t s p) (is_earlier t s q) (order_of t s r) (λ x i. same-answer (is_earlier t s p x) (is_earlier t s q x)
    (λ m. sym (same-test t s p q x x k h (own t x (earlier-enabled t s p x m))) ∙ m)
    (λ m. same-test t s p q x x k h (own t x (earlier-enabled t s q x m)) ∙ m))

pub sequence-serves : (t : Tables) (s : ℕ) → KeepsRules t → SequenceRules t s → SequenceServes t s
sequence-serves t s rules kept =
    let k : InUse t s = record { rules = rules; kept = kept } in
    record {
      ring = λ r which. serves t s r kept which;
      sides = record {
        together = λ p x q h c d. elim (cases_Bool (are_of_one_side t p x)) [
          | inl side ↦ side
          | inr other ↦
              absurd (both_ways _ (ordered t s p x q x k other c h (own t x (after-enabled t s p x k c))) d)
        ];
        ordered = λ p q a b other c ha hb. ordered t s p q a b k other c ha hb;
        both_rings = λ p x a b other h ha hb same. both-rings t s p x a b k other h ha hb same;
        before_side = λ p e. before-side t s p k e;
        same_earlier = λ p q r h. same-earlier t s p q r k h;
      };
    }

-- The sides of the barrier cut the enabled phases, and what is of one side goes together.
use Rattle.std.proofs.Common.{◌≡◌, ◌≢◌, ◌⊎◌, inl, inr, ℕ, true, false, not, ◌&&◌, ◌||◌, ◌==◌, sym, ◌∙◌, ap, subst}
use Rattle.std.proofs.lemmas.Bool.{cases_Bool, and_parts, or_cases, both_ways, not-true}
use Rattle.std.proofs.lemmas.Bool.Decides.{eqb_tells}
use Rattle.sig_types.specs.Phases.{all_phases, is_in, some}
use Rattle.sig_types.proofs.Lists.{eq-true}
use Rattle.sig_types.proofs.Sets.{every-phase}
use Rattle.sig_tables.specs.declared.tables.Tables.{Tables}
use Rattle.sig_tables.specs.Tables.{ring_of, is_enabled, starts_up}
use Rattle.sig_tables.specs.Sides.{are_concurrent, are_incompatible, are_of_one_side}
use Rattle.sig_tables.proofs.Below.{enabled-phase}
use Rattle.rule_book.specs.RingLayout.{neighbours}
use Rattle.rule_facts.specs.Sides.{SidesCut, SidesHold}
use Rattle.rule_facts.specs.Rules.{KeepsRules}
use Rattle.rule_facts.proofs.Members.{Found, some-found, under}
use Rattle.tick_laws.proofs.OneSide.{Same, Beside, Through, one-side, concurrent-enabled, concurrent-mutual, side-enabled, own, beside, through, side-mutual}
use Rattle.rule_facts.proofs.RingLayout.{concurrent-neighbour, across, in-ring, third, in-common}

-- phases of one side and ring have the same concurrent phases; those of different rings are concurrent
alike : (t : Tables) (p q x : ℕ) → KeepsRules t → are_of_one_side t p q ≡ true → ring_of t p ≡ ring_of t q
    → are_concurrent t p x ≡ true → are_concurrent t q x ≡ true
alike t p q x k h same c = elim (one-side t p q h) [
  | Same e ↦ subst (λ (y : ℕ). are_concurrent t y x ≡ true) e c
  | Beside d ↦ absurd (across t p q k d same)
  | Through r d f ↦ in-common t p q r x k d (concurrent-mutual t r q f) c
]

pub side-across : (t : Tables) (p q : ℕ) → KeepsRules t → are_of_one_side t p q ≡ true → ring_of t p ≢ ring_of t q → are_concurrent t p q ≡ true
side-across t p q k h ne = elim (one-side t p q h) [
  | Same e ↦ absurd (ne (ap (ring_of t) e))
  | Beside d ↦ d
  | Through r d f ↦
      let e = concurrent-enabled t p r d in
      absurd (ne (third t p r q k e.0 e.1 (concurrent-enabled t r q f).1 (across t p r k d) (across t r q k f)))
]

-- two phases of the side of a third, in different rings, are concurrent
pub around : (t : Tables) (s p q : ℕ) → KeepsRules t → are_of_one_side t s p ≡ true → are_of_one_side t s q ≡ true → ring_of t p ≢ ring_of t q
    → are_concurrent t p q ≡ true
around t s p q k h g ne = elim (eqb_tells (ring_of t s) (ring_of t p)) [
  | inl (b, e) ↦ alike t s p q k h e (side-across t s q k g (λ f. ne (sym e ∙ f)))
  | inr (b, ns) ↦
      let e : is_enabled t s ≡ true = (side-enabled t s p h).0 in
      let same : ring_of t s ≡ ring_of t q = third t s p q k e (side-enabled t s p h).1 (side-enabled t s q g).1 ns ne in
      concurrent-mutual t q p (alike t s q p k g same (side-across t s p k h ns))
]

up-enabled : (t : Tables) (p : ℕ) → starts_up t p ≡ true → is_enabled t p ≡ true
up-enabled t p u = (and_parts (is_enabled t p) _ u).0

-- phases that start up may be on together
pub started : (t : Tables) (p q : ℕ) → KeepsRules t → starts_up t p ≡ true → starts_up t q ≡ true → (p ≡ q) ⊎ (are_concurrent t p q ≡ true)
started t p q k u v =
    let e : is_enabled t p ≡ true = up-enabled t p u in
    let all = under (starts_up t p) _ (k.phases p e).startup u in
    let one : (not (starts_up t q) || q == p || are_concurrent t p q) ≡ true
    = every-phase (λ x. not (starts_up t x) || x == p || are_concurrent t p x) all q (enabled-phase t q (up-enabled t q v)) in
    elim (or_cases (not (starts_up t q) || q == p) (are_concurrent t p q) one) [
      | inl a ↦ elim (or_cases (not (starts_up t q)) (q == p) a) [
        | inl n ↦ absurd (both_ways _ (not-true _ n) v)
        | inr s ↦ inl (sym (eq-true q p s))
      ]
      | inr c ↦ inr c
    ]

-- each enabled phase has a concurrent one
pub has-concurrent : (t : Tables) (p : ℕ) → KeepsRules t → is_enabled t p ≡ true → (q : ℕ) × (are_concurrent t p q ≡ true)
has-concurrent t p k e =
    let f : Found (is_in (neighbours t p)) all_phases = some-found _ all_phases (k.phases p e).neighbour in
    (f.member, concurrent-neighbour t p f.member e f.passes)

pub side-joined : (t : Tables) (p q r : ℕ) → KeepsRules t → are_of_one_side t p q ≡ true → are_of_one_side t q r ≡ true → are_of_one_side t p r ≡ true
side-joined t p q r k h g = elim (eqb_tells (ring_of t p) (ring_of t q)) [
  | inl (b, e) ↦ elim (eqb_tells (ring_of t q) (ring_of t r)) [
    | inl (c, f) ↦
        let x = has-concurrent t p k (side-enabled t p q h).0 in
        through t p x.0 r x.1 (concurrent-mutual t r x.0 (alike t q r x.0 k g f (alike t p q x.0 k h e x.1)))
    | inr (c, nf) ↦ beside t p r (alike t q p r k (side-mutual t p q h) (sym e) (side-across t q r k g nf))
  ]
  | inr (b, ne) ↦ elim (eqb_tells (ring_of t q) (ring_of t r)) [
    | inl (c, f) ↦ beside t p r (concurrent-mutual t r p (alike t q r p k g f (concurrent-mutual t p q (side-across t p q k h ne))))
    | inr (c, nf) ↦ through t p q r (side-across t p q k h ne) (side-across t q r k g nf)
  ]
]

pub sides-cut : (t : Tables) → KeepsRules t → SidesCut t
sides-cut t k = record {
  enabled = side-enabled t;
  own = own t;
  turned = side-mutual t;
  joined = λ p q r h g. side-joined t p q r k h g;
}

in-other : (t : Tables) (p q r : ℕ) → KeepsRules t → are_concurrent t p q ≡ true → (r ≡ 1) ⊎ (r ≡ 2) → ring_of t p ≢ r → ring_of t q ≡ r
in-other t p q r k c which ne =
    let e = concurrent-enabled t p q c in
    let apart = across t p q k c in
    elim (in-ring t p k e.0) [
      | inl a ↦ elim (in-ring t q k e.1) [
        | inl b ↦ absurd (apart (a ∙ sym b))
        | inr b ↦ elim which [ inl w ↦ absurd (ne (a ∙ sym w)) | inr w ↦ b ∙ sym w ]
      ]
      | inr a ↦ elim (in-ring t q k e.1) [
        | inl b ↦ elim which [ inl w ↦ b ∙ sym w | inr w ↦ absurd (ne (a ∙ sym w)) ]
        | inr b ↦ absurd (apart (a ∙ sym b))
      ]
    ]

apart-sides : (t : Tables) (p q : ℕ) → KeepsRules t → are_incompatible t p q ≡ true → (ring_of t p ≡ ring_of t q) ⊎ (are_of_one_side t p q ≡ false)
apart-sides t p q k h = elim (eqb_tells (ring_of t p) (ring_of t q)) [
  | inl (b, e) ↦ inl e
  | inr (b, ne) ↦ elim (cases_Bool (are_of_one_side t p q)) [
    | inl side ↦ absurd (both_ways _ (not-true _ (and_parts (is_enabled t p && is_enabled t q && not (p == q)) (not (are_concurrent t p q)) h).1)
        (side-across t p q k side ne))
    | inr other ↦ inr other
  ]
]

pub sides-hold : (t : Tables) → KeepsRules t → SidesHold t
sides-hold t k = record {
  across = λ p q h ne. side-across t p q k h ne;
  concurrent = λ p q c. (beside t p q c, across t p q k c);
  incompatible = λ p q h. apart-sides t p q k h;
  both_rings = λ p r e which. elim (eqb_tells (ring_of t p) r) [
    | inl (b, here) ↦ (p, own t p e, here)
    | inr (b, ne) ↦
        let x = has-concurrent t p k e in
        (x.0, beside t p x.0 x.1, in-other t p x.0 r k x.1 which ne)
  ];
  two_sides =
      let f : Found (λ p. some (λ q. is_enabled t p && is_enabled t q && not (are_of_one_side t p q)) all_phases) all_phases
      = some-found _ all_phases k.two_sides in
      let g : Found (λ q. is_enabled t f.member && is_enabled t q && not (are_of_one_side t f.member q)) all_phases
      = some-found _ all_phases f.passes in
      let a = and_parts (is_enabled t f.member && is_enabled t g.member) (not (are_of_one_side t f.member g.member)) g.passes in
      let b = and_parts (is_enabled t f.member) (is_enabled t g.member) a.0 in
      (f.member, g.member, b.0, b.1, not-true _ a.1);
}

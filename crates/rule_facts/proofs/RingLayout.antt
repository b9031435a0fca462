-- What the rules on concurrency give: rings, neighbours and sides.
use Rattle.std.proofs.Common.{◌≡◌, ◌≢◌, ◌⊎◌, inl, inr, ℕ, Bool, true, false, not, ◌&&◌, ◌||◌, if◌then◌else◌, ◌==◌, List, refl, sym, ◌∙◌}
use Rattle.std.proofs.lemmas.Bool.{and_parts, and_from, or_cases, both_ways, not-true}
use Rattle.std.proofs.lemmas.Bool.Decides.{Decides-eqb}
use Rattle.sig_types.specs.Phases.{is_phase, all_phases, is_in, some}
use Rattle.sig_types.proofs.Lists.{eq-true, in-those, phase-listed}
use Rattle.sig_types.proofs.Sets.{in-every, every-phase, in-phases, found-some}
use Rattle.sig_tables.specs.declared.tables.Tables.{Tables}
use Rattle.sig_tables.specs.Tables.{listed, row, ring_of, is_enabled}
use Rattle.sig_tables.specs.Sides.{names, are_concurrent}
use Rattle.sig_tables.proofs.Below.{enabled-phase}
use Rattle.rule_book.specs.RingLayout.{neighbours, same_phases, share_a_phase}
use Rattle.tick_laws.proofs.OneSide.{concurrent-enabled, concurrent-from}
use Rattle.rule_facts.specs.Rules.{KeepsRules}
use Rattle.rule_facts.proofs.Members.{under}

-- q is a neighbour of p
abbrev pub is_neighbour : Tables → ℕ → ℕ → Bool
is_neighbour t p q = is_enabled t q && names t p q

pub neighbour-is : (t : Tables) (p q : ℕ) → is_enabled t q ≡ true → is_in (neighbours t p) q ≡ names t p q
neighbour-is t p q e = in-phases (is_neighbour t p) q (enabled-phase t q e) ∙ rw e refl

-- an enabled phase that names q, or that q names, is its neighbour, and the other way round
named : (t : Tables) (p q : ℕ) → KeepsRules t → is_enabled t p ≡ true → is_enabled t q ≡ true → names t q p ≡ true → names t p q ≡ true
named t p q k e f n =
    in-every (λ x. is_in (listed (row t x).concurrency) q) (neighbours t q) p (k.phases q f).named_back (neighbour-is t q p e ∙ n)

pub neighbour-concurrent : (t : Tables) (p q : ℕ) → KeepsRules t → is_enabled t p ≡ true → are_concurrent t p q ≡ true
    → is_in (neighbours t p) q ≡ true
neighbour-concurrent t p q k e h =
    let f : is_enabled t q ≡ true = (concurrent-enabled t p q h).1 in
    neighbour-is t p q f
    ∙ elim (or_cases (names t p q) (names t q p) (and_parts (is_enabled t p && is_enabled t q) (names t p q || names t q p) h).1) [
      | inl n ↦ n
      | inr n ↦ named t p q k e f n
    ]

pub concurrent-neighbour : (t : Tables) (p q : ℕ) → is_enabled t p ≡ true → is_in (neighbours t p) q ≡ true → are_concurrent t p q ≡ true
concurrent-neighbour t p q e i =
    let a : (is_neighbour t p q ≡ true) × (is_in all_phases q ≡ true) = in-those (is_neighbour t p) all_phases q i in
    let b : (is_enabled t q ≡ true) × (names t p q ≡ true) = and_parts (is_enabled t q) (names t p q) a.0 in
    concurrent-from t p q e b.0 (rw b.1 refl)

differ : (a b : ℕ) → not (a == b) ≡ true → a ≢ b
differ a b h e = both_ways (a == b) (not-true _ h) ((Decides-eqb a b).1 e)

-- the phases of different rings
pub across : (t : Tables) (p q : ℕ) → KeepsRules t → are_concurrent t p q ≡ true → ring_of t p ≢ ring_of t q
across t p q k h same =
    let e : is_enabled t p ≡ true = (concurrent-enabled t p q h).0 in
    differ (ring_of t q) (ring_of t p)
    (in-every (λ x. not (ring_of t x == ring_of t p)) (neighbours t p) q (k.phases p e).other_ring (neighbour-concurrent t p q k e h))
    (sym same)

pub in-ring : (t : Tables) (p : ℕ) → KeepsRules t → is_enabled t p ≡ true → (ring_of t p ≡ 1) ⊎ (ring_of t p ≡ 2)
in-ring t p k e = elim (or_cases (ring_of t p == 1) (ring_of t p == 2) (k.phases p e).ring) [
  | inl a ↦ inl (eq-true _ _ a)
  | inr b ↦ inr (eq-true _ _ b)
]

-- of three phases two are of one ring
pub third : (t : Tables) (p q r : ℕ) → KeepsRules t → is_enabled t p ≡ true → is_enabled t q ≡ true → is_enabled t r ≡ true
    → ring_of t p ≢ ring_of t q → ring_of t q ≢ ring_of t r → ring_of t p ≡ ring_of t r
third t p q r k e f g ne nf = elim (in-ring t p k e) [
  | inl a ↦ elim (in-ring t q k f) [
    | inl b ↦ absurd (ne (a ∙ sym b))
    | inr b ↦ elim (in-ring t r k g) [ inl c ↦ a ∙ sym c | inr c ↦ absurd (nf (b ∙ sym c)) ]
  ]
  | inr a ↦ elim (in-ring t q k f) [
    | inl b ↦ elim (in-ring t r k g) [ inl c ↦ absurd (nf (b ∙ sym c)) | inr c ↦ a ∙ sym c ]
    | inr b ↦ absurd (ne (a ∙ sym b))
  ]
]

-- both lists have a phase that one of them has
pub same-member : (xs ys : List ℕ) (p : ℕ) → same_phases xs ys ≡ true → is_phase p ≡ true → is_in xs p ≡ is_in ys p
same-member xs ys p h ph = same (is_in xs p) (is_in ys p) (every-phase (λ x. if is_in xs x then is_in ys x else not (is_in ys x)) h p ph)
  where
    same : (a b : Bool) → (if a then b else not b) ≡ true → a ≡ b
    same true b e = sym e
    same false b e = sym (not-true b e)

-- two phases that have a concurrent phase in common have all of them in common
pub in-common : (t : Tables) (p q r x : ℕ) → KeepsRules t → are_concurrent t p r ≡ true → are_concurrent t q r ≡ true
    → are_concurrent t p x ≡ true → are_concurrent t q x ≡ true
in-common t p q r x k hp hq h =
    let ep = concurrent-enabled t p r hp in
    let eq = concurrent-enabled t q r hq in
    let ex = concurrent-enabled t p x h in
    let rings : ring_of t p ≡ ring_of t q = third t p r q k ep.0 ep.1 eq.0 (across t p r k hp) (λ e. across t q r k hq (sym e)) in
    let shared : share_a_phase t p q ≡ true =
    and_from (is_enabled t p && is_enabled t q && ring_of t p == ring_of t q) (some (λ y. are_concurrent t p y && are_concurrent t q y) all_phases)
    (and_from (is_enabled t p && is_enabled t q) (ring_of t p == ring_of t q) (and_from _ _ ep.0 eq.0) ((Decides-eqb _ _).1 rings))
    (found-some (λ y. are_concurrent t p y && are_concurrent t q y) all_phases r (phase-listed r (enabled-phase t r ep.1)) (and_from _ _ hp hq)) in
    let lists : same_phases (neighbours t p) (neighbours t q) ≡ true =
    under (share_a_phase t p q) _
    (every-phase (λ y. not (share_a_phase t p y) || same_phases (neighbours t p) (neighbours t y)) (k.phases p ep.0).shared_list q (enabled-phase t q eq.0))
    shared in
    concurrent-neighbour t q x eq.0
    (sym (same-member (neighbours t p) (neighbours t q) x lists (enabled-phase t x ex.1)) ∙ neighbour-concurrent t p x k ep.0 h)

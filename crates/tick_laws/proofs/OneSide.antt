-- Phases of one side of a barrier: in turn, and where the tables are sound also along a third phase.
use Rattle.std.proofs.Common.{◌≡◌, ◌≢◌, inl, inr, ℕ, Bool, true, false, ◌&&◌, ◌||◌, ◌==◌, refl, sym, ◌∙◌, subst}
use Rattle.std.proofs.lemmas.Bool.{and_parts, and_from, or_cases, or_left, or_right}
use Rattle.std.proofs.lemmas.Bool.Decides.{Decides-eqb, eqb_tells}
use Rattle.sig_types.specs.Phases.{all_phases, some}
use Rattle.sig_types.proofs.Lists.{eq-true, phase-listed}
use Rattle.sig_tables.specs.declared.tables.Tables.{Tables}
use Rattle.sig_tables.specs.Tables.{ring_of, is_enabled}
use Rattle.sig_tables.specs.Sides.{names, are_concurrent, are_of_one_side}
use Rattle.sig_tables.proofs.Below.{enabled-phase}
use Rattle.tick_laws.proofs.Finding.{some-passes, passes-some}
use Rattle.tick_laws.specs.Lawful.{Sound}

pub concurrent-enabled : (t : Tables) (p q : ℕ) → are_concurrent t p q ≡ true → (is_enabled t p ≡ true) × (is_enabled t q ≡ true)
concurrent-enabled t p q h = and_parts (is_enabled t p) (is_enabled t q) (and_parts (is_enabled t p && is_enabled t q) _ h).0

pub side-enabled : (t : Tables) (p q : ℕ) → are_of_one_side t p q ≡ true → (is_enabled t p ≡ true) × (is_enabled t q ≡ true)
side-enabled t p q h = and_parts (is_enabled t p) (is_enabled t q) (and_parts (is_enabled t p && is_enabled t q) _ h).0

pub concurrent-from : (t : Tables) (p q : ℕ) → is_enabled t p ≡ true → is_enabled t q ≡ true → (names t p q || names t q p) ≡ true
    → are_concurrent t p q ≡ true
concurrent-from t p q e f k = and_from (is_enabled t p && is_enabled t q) (names t p q || names t q p) (and_from _ _ e f) k

or-swap : (a b : Bool) → (a || b) ≡ true → (b || a) ≡ true
or-swap true true h = refl
or-swap true false h = refl
or-swap false true h = refl
or-swap false false h = h

pub concurrent-mutual : (t : Tables) (p q : ℕ) → are_concurrent t p q ≡ true → are_concurrent t q p ≡ true
concurrent-mutual t p q h =
    let e = concurrent-enabled t p q h in
    concurrent-from t q p e.1 e.0
    (or-swap (names t p q) (names t q p) (and_parts (is_enabled t p && is_enabled t q) (names t p q || names t q p) h).1)

-- how two phases may be of one side
pub data OneSide (t : Tables) (p q : ℕ) : Type 0 where
  Same : p ≡ q → OneSide t p q
  Beside : are_concurrent t p q ≡ true → OneSide t p q
  Through : (r : ℕ) → are_concurrent t p r ≡ true → are_concurrent t r q ≡ true → OneSide t p q

pub one-side : (t : Tables) (p q : ℕ) → are_of_one_side t p q ≡ true → OneSide t p q
one-side t p q h =
    elim (or_cases (p == q || are_concurrent t p q) (some (λ r. are_concurrent t p r && are_concurrent t r q) all_phases)
    (and_parts (is_enabled t p && is_enabled t q) _ h).1) [
      | inl a ↦ elim (or_cases (p == q) (are_concurrent t p q) a) [
        | inl e ↦ Same (eq-true p q e)
        | inr c ↦ Beside c
      ]
      | inr s ↦
          let f = passes-some (λ r. are_concurrent t p r && are_concurrent t r q) all_phases s in
          let b : (are_concurrent t p f.0 ≡ true) × (are_concurrent t f.0 q ≡ true) = and_parts _ _ f.2 in
          Through f.0 b.0 b.1
    ]

pub own : (t : Tables) (p : ℕ) → is_enabled t p ≡ true → are_of_one_side t p p ≡ true
own t p e =
    and_from (is_enabled t p && is_enabled t p) (p == p || are_concurrent t p p || some (λ r. are_concurrent t p r && are_concurrent t r p) all_phases)
    (and_from _ _ e e) (or_left (p == p || are_concurrent t p p) _ (or_left (p == p) _ ((Decides-eqb p p).1 refl)))

pub beside : (t : Tables) (p q : ℕ) → are_concurrent t p q ≡ true → are_of_one_side t p q ≡ true
beside t p q c =
    let e = concurrent-enabled t p q c in
    and_from (is_enabled t p && is_enabled t q) (p == q || are_concurrent t p q || some (λ r. are_concurrent t p r && are_concurrent t r q) all_phases)
    (and_from _ _ e.0 e.1) (or_left (p == q || are_concurrent t p q) _ (or_right (p == q) (are_concurrent t p q) c))

pub through : (t : Tables) (p r q : ℕ) → are_concurrent t p r ≡ true → are_concurrent t r q ≡ true → are_of_one_side t p q ≡ true
through t p r q c d =
    let e = concurrent-enabled t p r c in
    let f = concurrent-enabled t r q d in
    and_from (is_enabled t p && is_enabled t q) (p == q || are_concurrent t p q || some (λ x. are_concurrent t p x && are_concurrent t x q) all_phases)
    (and_from _ _ e.0 f.1)
    (or_right (p == q || are_concurrent t p q) (some (λ x. are_concurrent t p x && are_concurrent t x q) all_phases)
    (some-passes (λ x. are_concurrent t p x && are_concurrent t x q) all_phases r (phase-listed r (enabled-phase t r e.1)) (and_from _ _ c d)))

pub side-mutual : (t : Tables) (p q : ℕ) → are_of_one_side t p q ≡ true → are_of_one_side t q p ≡ true
side-mutual t p q h = elim (one-side t p q h) [
  | Same e ↦ subst (λ (x : ℕ). are_of_one_side t x p ≡ true) e (own t p (side-enabled t p q h).0)
  | Beside c ↦ beside t q p (concurrent-mutual t p q c)
  | Through r c d ↦ through t q r p (concurrent-mutual t r q d) (concurrent-mutual t p r c)
]

-- phases of one side and different rings are concurrent
side-across : (t : Tables) (p q : ℕ) → Sound t → are_of_one_side t p q ≡ true → ring_of t p ≢ ring_of t q → are_concurrent t p q ≡ true
side-across t p q sound h ne = sound.side p p q (own t p (side-enabled t p q h).0) h ne

-- what is of the side of q, in a different ring from p that is of it too, goes with p
side-joined-across : (t : Tables) (p q r : ℕ) → Sound t → are_of_one_side t p q ≡ true → are_of_one_side t q r ≡ true → ring_of t p ≢ ring_of t r
    → are_of_one_side t p r ≡ true
side-joined-across t p q r sound h g ne = beside t p r (sound.side q p r (side-mutual t p q h) g ne)

-- where all three are of one ring, by the phase through which they are of one side
joined-alike : (t : Tables) (p q r : ℕ) → Sound t → are_of_one_side t p q ≡ true → are_of_one_side t q r ≡ true → ring_of t p ≡ ring_of t r
    → ring_of t p ≡ ring_of t q → are_of_one_side t p r ≡ true
joined-alike t p q r sound h g same here = elim (one-side t p q h) [
  | Same e ↦ subst (λ (x : ℕ). are_of_one_side t x r ≡ true) (sym e) g
  | Beside c ↦ absurd (sound.across p q c here)
  | Through x c d ↦
      let away : ring_of t x ≢ ring_of t r = λ e. sound.across p x c (same ∙ sym e) in
      through t p x r c (sound.side q x r (beside t q x (concurrent-mutual t x q d)) g away)
]

pub side-joined : (t : Tables) (p q r : ℕ) → Sound t → are_of_one_side t p q ≡ true → are_of_one_side t q r ≡ true → are_of_one_side t p r ≡ true
side-joined t p q r sound h g = elim (eqb_tells (ring_of t p) (ring_of t r)) [
  | inr (b, ne) ↦ side-joined-across t p q r sound h g ne
  | inl (b, same) ↦ elim (eqb_tells (ring_of t p) (ring_of t q)) [
    | inl (c, here) ↦ joined-alike t p q r sound h g same here
    | inr (c, away) ↦
        through t p q r (side-across t p q sound h away) (side-across t q r sound g (λ e. away (same ∙ sym e)))
  ]
]

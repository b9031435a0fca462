-- The goals of preempts and patterns go together.
use Rattle.std.proofs.Common.{◌≡◌, ◌⊎◌, inl, inr, ℕ, ◌≤◌, true, not, ◌&&◌, List, [], ◌∷◌, refl, sym, ◌∙◌, subst, arith}
use Rattle.std.proofs.lemmas.Bool.{and_parts, false≢true}
use Rattle.sig_types.specs.Phases.{is_in}
use Rattle.sig_types.proofs.Lists.{in-cons}
use Rattle.sig_tables.specs.declared.tables.Tables.{Tables}
use Rattle.sig_tables.specs.Tables.{is_enabled}
use Rattle.sig_tables.specs.Sides.{are_concurrent, are_of_one_side}
use Rattle.sig_tables.specs.Sums.{every}
use Rattle.sig_tables.specs.Slots.{is_defined, coordinated_phase}
use Rattle.sig_tables.specs.Splits.{coordinated_phases}
use Rattle.sig_tables.specs.Preempts.{track_set, dwell_set, exit_set}
use Rattle.rule_book.specs.RingLayout.{may_be_on_together}
use Rattle.rule_book.specs.Rules.{all_preempts}
use Rattle.tick_laws.proofs.OneSide.{concurrent-enabled, concurrent-mutual, own, beside}
use Rattle.rule_facts.specs.Rules.{KeepsRules}
use Rattle.plan_facts.specs.Goals.{GoTogether, PreemptFits}
use Rattle.rule_facts.proofs.Numbered.{in-counted}
use Rattle.sig_types.proofs.Sets.{in-every}
use Rattle.rule_facts.proofs.RingLayout.{across}
use Rattle.rule_facts.proofs.Plan.{pair-together}

-- enabled phases that are pairwise concurrent
record Paired (t : Tables) (goal : List ℕ) : Type 0 where
  enabled : (q : ℕ) → is_in goal q ≡ true → is_enabled t q ≡ true
  together : (p q : ℕ) → is_in goal p ≡ true → is_in goal q ≡ true → (p ≡ q) ⊎ (are_concurrent t p q ≡ true)

-- go together
grouped : (t : Tables) (goal : List ℕ) → KeepsRules t → Paired t goal → GoTogether t goal
grouped t goal k g = record {
  enabled = g.enabled;
  together = g.together;
  single = λ p q h i same. elim (g.together p q h i) [
    | inl e ↦ e
    | inr c ↦ absurd (across t p q k c same)
  ];
  side = λ p q h i. elim (g.together p q h i) [
    | inl e ↦ subst (λ (x : ℕ). are_of_one_side t p x ≡ true) e (own t p (g.enabled p h))
    | inr c ↦ beside t p q c
  ];
}

-- what the rule on preempts says of a list
fits : (t : Tables) (goal : List ℕ) → may_be_on_together t goal ≡ true → Paired t goal
fits t [] h = record { enabled = λ q i. absurd (false≢true i); together = λ p q i j. absurd (false≢true i) }
fits t (x ∷ xs) h =
    let a = and_parts (is_enabled t x && not (is_in xs x) && every (are_concurrent t x) xs) (may_be_on_together t xs) h in
    let b = and_parts (is_enabled t x && not (is_in xs x)) (every (are_concurrent t x) xs) a.0 in
    let c = and_parts (is_enabled t x) (not (is_in xs x)) b.0 in
    with-head c.0 b.1 (fits t xs a.1)
  where
    with-head : is_enabled t x ≡ true → every (are_concurrent t x) xs ≡ true → Paired t xs → Paired t (x ∷ xs)
    with-head e all rest = record {
      enabled = λ q i. elim (in-cons x xs q i) [
        | inl s ↦ subst (λ (y : ℕ). is_enabled t y ≡ true) (sym s) e
        | inr r ↦ rest.enabled q r
      ];
      together = λ p q i j. elim (in-cons x xs p i) [
        | inl s ↦ elim (in-cons x xs q j) [
          | inl u ↦ inl (s ∙ sym u)
          | inr v ↦ inr (subst (λ (y : ℕ). are_concurrent t y q ≡ true) (sym s) (in-every (are_concurrent t x) xs q all v))
        ]
        | inr r ↦ elim (in-cons x xs q j) [
          | inl u ↦ inr (concurrent-mutual t q p (subst (λ (y : ℕ). are_concurrent t y p ≡ true) (sym u) (in-every (are_concurrent t x) xs p all r)))
          | inr v ↦ rest.together p q r v
        ]
      ];
    }

pub preempt-fits : (t : Tables) (i : ℕ) → KeepsRules t → 1 ≤ i → i ≤ 8 → PreemptFits t i
preempt-fits t i k low high =
    let listed_i : is_in all_preempts i ≡ true = in-counted 1 all_preempts i refl low (omega (arith, high)) in
    let a = and_parts (may_be_on_together t (track_set t i) && may_be_on_together t (dwell_set t i)) (may_be_on_together t (exit_set t i))
    (k.preempts i listed_i) in
    let b = and_parts (may_be_on_together t (track_set t i)) (may_be_on_together t (dwell_set t i)) a.0 in
    record { track = grouped t _ k (fits t _ b.0); dwell = grouped t _ k (fits t _ b.1); exit = grouped t _ k (fits t _ a.1) }

-- two concurrent phases go together
pair-fits : (t : Tables) (p q : ℕ) → are_concurrent t p q ≡ true → Paired t (p ∷ q ∷ [])
pair-fits t p q c = record {
  enabled = λ x i. elim (which x i) [
    | inl e ↦ subst (λ (y : ℕ). is_enabled t y ≡ true) (sym e) (concurrent-enabled t p q c).0
    | inr e ↦ subst (λ (y : ℕ). is_enabled t y ≡ true) (sym e) (concurrent-enabled t p q c).1
  ];
  together = λ x y i j. elim (which x i) [
    | inl e ↦ elim (which y j) [
      | inl f ↦ inl (e ∙ sym f)
      | inr f ↦ inr (subst (λ (z : ℕ). are_concurrent t z y ≡ true) (sym e) (subst (λ (z : ℕ). are_concurrent t p z ≡ true) (sym f) c))
    ]
    | inr e ↦ elim (which y j) [
      | inl f ↦ inr (subst (λ (z : ℕ). are_concurrent t z y ≡ true) (sym e)
          (subst (λ (z : ℕ). are_concurrent t q z ≡ true) (sym f) (concurrent-mutual t p q c)))
      | inr f ↦ inl (e ∙ sym f)
    ]
  ];
}
  where
    which : (x : ℕ) → is_in (p ∷ q ∷ []) x ≡ true → (x ≡ p) ⊎ (x ≡ q)
    which x i = elim (in-cons p (q ∷ []) x i) [
      | inl e ↦ inl e
      | inr r ↦ elim (in-cons q [] x r) [ inl f ↦ inr f | inr none ↦ absurd (false≢true none) ]
    ]

pub coordinated-fits : (t : Tables) (n : ℕ) → KeepsRules t → is_defined t n ≡ true → GoTogether t (coordinated_phases t n)
coordinated-fits t n k d = grouped t (coordinated_phases t n) k (pair-fits t (coordinated_phase t n 1) (coordinated_phase t n 2) (pair-together t n k d))

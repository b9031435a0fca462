-- Tables that are accepted beside those in force have their layout, and keep the rules by themselves.
use Rattle.std.proofs.Common.{◌≡◌, inl, inr, ℕ, Bool, true, false, not, ◌&&◌, ◌||◌, if◌then◌else◌, ◌==◌, List, [], ◌∷◌, refl, sym, ◌∙◌, subst}
use Rattle.std.proofs.lemmas.Bool.{cases_Bool, and_parts, and_from, both_ways, not-true}
use Rattle.std.proofs.lemmas.Bool.Decides.{Decides-eqb}
use Rattle.sig_types.specs.Phases.{is_phase, all_phases, is_in}
use Rattle.sig_types.proofs.Lists.{eq-true}
use Rattle.sig_tables.specs.declared.tables.Tables.{Tables}
use Rattle.sig_tables.specs.Tables.{ring_of, is_enabled}
use Rattle.sig_tables.specs.Sides.{names, are_concurrent}
use Rattle.rule_book.specs.RingLayout.{neighbours, same_phases, keeps_layout}
use Rattle.sig_tables.specs.Sums.{every}
use Rattle.sig_tables.proofs.Below.{enabled-phase}
use Rattle.rule_book.specs.declared.rules.Rule.{Rule}
use Rattle.rule_book.specs.declared.rules.Rule.TheVariants.{OnPhase, OnSequence, OnPattern, TwoSides, Correction, PreemptPhases, LayoutInForce}
use Rattle.rule_book.specs.Rules.{breaks, broken, Consistent}
use Rattle.tick_laws.proofs.OneSide.{concurrent-enabled, concurrent-from}
use Rattle.rule_facts.proofs.Kept.{kept, unbroken}
use Rattle.tick_laws.specs.Lawful.{SameLayout}
use Rattle.rule_facts.proofs.Numbered.{layout-kept}
use Rattle.rule_facts.proofs.Members.{same-answer}
use Rattle.rule_facts.proofs.RingLayout.{neighbour-is, same-member}

-- what the rule on the layout in force says of a phase
record Kept (new old : Tables) (p : ℕ) : Type 0 where
  enabled : is_enabled new p ≡ is_enabled old p
  ring : is_enabled old p ≡ true → ring_of new p ≡ ring_of old p
  lists : is_enabled old p ≡ true → same_phases (neighbours new p) (neighbours old p) ≡ true

kept-phase : (new old : Tables) (p : ℕ) → keeps_layout new old p ≡ true → Kept new old p
kept-phase new old p h = split (is_enabled new p) refl h
  where
    split : (b : Bool) → is_enabled new p ≡ b
        → (if b then is_enabled old p && ring_of new p == ring_of old p && same_phases (neighbours new p) (neighbours old p) else not (is_enabled old p))
        ≡ true
        → Kept new old p
    split true e k =
        let a = and_parts (is_enabled old p && ring_of new p == ring_of old p) (same_phases (neighbours new p) (neighbours old p)) k in
        let b = and_parts (is_enabled old p) (ring_of new p == ring_of old p) a.0 in
        record { enabled = e ∙ sym b.0; ring = λ o. eq-true _ _ b.1; lists = λ o. a.1 }
    split false e k =
        let off : is_enabled old p ≡ false = not-true _ k in
        record { enabled = e ∙ sym off; ring = λ o. absurd (both_ways _ off o); lists = λ o. absurd (both_ways _ off o) }

-- what is not a phase is enabled in no tables
no-phase : (t : Tables) (p : ℕ) → is_phase p ≡ false → is_enabled t p ≡ false
no-phase t p h = rw h refl

kept-each : (new old : Tables) → broken new old false ≡ [] → (p : ℕ) → Kept new old p
kept-each new old h p = elim (cases_Bool (is_phase p)) [
  | inl ph ↦ kept-phase new old p (layout-kept new old h p ph)
  | inr none ↦
      let off : is_enabled old p ≡ false = no-phase old p none in
      record { enabled = no-phase new p none ∙ sym off; ring = λ o. absurd (both_ways _ off o); lists = λ o. absurd (both_ways _ off o) }
]

-- an enabled phase names the same enabled phases in both tables
same-names : (new old : Tables) → ((p : ℕ) → Kept new old p) → (p q : ℕ) → is_enabled old p ≡ true → is_enabled old q ≡ true
    → names new p q ≡ names old p q
same-names new old k p q e f =
    sym (neighbour-is new p q ((k q).enabled ∙ f))
    ∙ same-member (neighbours new p) (neighbours old p) q ((k p).lists e) (enabled-phase old q f)
    ∙ neighbour-is old p q f

same-pair : (new old : Tables) → ((p : ℕ) → Kept new old p) → (p q : ℕ) → are_concurrent new p q ≡ are_concurrent old p q
same-pair new old k p q = same-answer (are_concurrent new p q) (are_concurrent old p q) down up
  where
    parts : (t : Tables) → are_concurrent t p q ≡ true → ((is_enabled t p && is_enabled t q) ≡ true) × ((names t p q || names t q p) ≡ true)
    parts t h = and_parts (is_enabled t p && is_enabled t q) (names t p q || names t q p) h

    same : is_enabled old p ≡ true → is_enabled old q ≡ true → (names new p q || names new q p) ≡ (names old p q || names old q p)
    same e f = rw (same-names new old k p q e f, same-names new old k q p f e) refl

    down : are_concurrent new p q ≡ true → are_concurrent old p q ≡ true
    down h =
        let e = concurrent-enabled new p q h in
        let ep : is_enabled old p ≡ true = sym (k p).enabled ∙ e.0 in
        let eq : is_enabled old q ≡ true = sym (k q).enabled ∙ e.1 in
        concurrent-from old p q ep eq (sym (same ep eq) ∙ (parts new h).1)

    up : are_concurrent old p q ≡ true → are_concurrent new p q ≡ true
    up h =
        let e = concurrent-enabled old p q h in
        concurrent-from new p q ((k p).enabled ∙ e.0) ((k q).enabled ∙ e.1) (same e.0 e.1 ∙ (parts old h).1)

pub same-layout : (new old : Tables) → broken new old false ≡ [] → SameLayout old new
same-layout new old h =
    let k : (p : ℕ) → Kept new old p = kept-each new old h in
    record { enabled = λ p. (k p).enabled; ring = λ p e. (k p).ring e; concurrent = same-pair new old k }

-- tables keep their own layout
every-passes : (test : ℕ → Bool) (xs : List ℕ) → ((x : ℕ) → test x ≡ true) → every test xs ≡ true
every-passes test [] h = refl
every-passes test (x ∷ xs) h = rw (h x) (every-passes test xs h)

same-itself : (xs : List ℕ) → same_phases xs xs ≡ true
same-itself xs = every-passes _ all_phases (λ p. same (is_in xs p))
  where
    same : (b : Bool) → (if b then b else not b) ≡ true
    same true = refl
    same false = refl

keeps-own : (t : Tables) (p : ℕ) → keeps_layout t t p ≡ true
keeps-own t p = split (is_enabled t p) refl
  where
    split : (b : Bool) → is_enabled t p ≡ b
        → (if b then is_enabled t p && ring_of t p == ring_of t p && same_phases (neighbours t p) (neighbours t p) else not (is_enabled t p)) ≡ true
    split true e =
        and_from (is_enabled t p && ring_of t p == ring_of t p) (same_phases (neighbours t p) (neighbours t p))
        (and_from _ _ e ((Decides-eqb (ring_of t p) (ring_of t p)).1 refl)) (same-itself (neighbours t p))
    split false e = rw e refl

-- the other rules speak of only one table
other-rules : (t u : Tables) (flashing : Bool) (rule : Rule) (row : ℕ) → breaks t u flashing rule row ≡ false → breaks t t false rule row ≡ false
other-rules t u flashing (OnPhase rule) row e = e
other-rules t u flashing (OnSequence rule) row e = e
other-rules t u flashing (OnPattern rule) row e = e
other-rules t u flashing TwoSides row e = e
other-rules t u flashing Correction row e = e
other-rules t u flashing PreemptPhases row e = e
other-rules t u flashing LayoutInForce row e = rw (keeps-own t row) refl

pub alone : (t u : Tables) (flashing : Bool) → broken t u flashing ≡ [] → Consistent t
alone t u flashing h = unbroken t t false (λ rule row j. other-rules t u flashing rule row (kept t u flashing h rule row j))

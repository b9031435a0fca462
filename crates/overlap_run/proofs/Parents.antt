-- Parents taken one after another.
use Rattle.std.proofs.Common.{◌≡◌, ◌≢◌, ◌⊎◌, inl, inr, ◌<◌, ◌≤◌, ◌+◌, ◌||◌, ◌&&◌, ◌==◌, ◌∙◌, ℕ, zero, suc, Bool, true, false, List, [], ◌∷◌, length, drop, get_or, Some, None, refl, sym, ap, arith, not, if◌then◌else◌}
use Rattle.std.proofs.lemmas.List.{drop_more}
use Rattle.std.proofs.lemmas.Bool.{cases_Bool, false≢true}
use Rattle.sig_types.specs.declared.phase_set.PhaseSet.{PhaseSet}
use Rattle.sig_types.specs.PhaseSet.{has, HasMore}
use Rattle.sig_types.specs.Phases.{is_phase, is_in}
use Rattle.sig_types.proofs.Lists.{phase-in, in-cons, in-head, in-tail}
use Rattle.sig_tables.specs.declared.tables.Tables.{Tables}
use Rattle.sig_tables.specs.Layout.{Has}
use Rattle.sig_tables.specs.Tables.{is_enabled}
use Rattle.overlap_run.specs.Rules.{is_faulty, first_faulty}

-- these of the parents are left; those before them are in the set, and none of them is faulty
pub record IsTaken (opening : Tables) (parents : List ℕ) (set : PhaseSet) (left : List ℕ) : Type 0 where
  pub earlier : List ℕ
  pub so_far : first_faulty opening [] parents ≡ first_faulty opening earlier left
  pub has_them : (p : ℕ) → 0 < p → p ≤ 16 → has set p ≡ is_in earlier p
  pub all : (p : ℕ) → 0 < p → p ≤ 16 → is_in parents p ≡ (has set p || is_in left p)

or-if : (a b : Bool) → (a || b) ≡ (if b then true else a)
or-if true true = refl
or-if true false = refl
or-if false true = refl
or-if false false = refl

or-three : (a b c : Bool) → (a || (if b then true else c)) ≡ ((a || b) || c)
or-three true b c = refl
or-three false true c = refl
or-three false false c = refl

both-true : (a b c : Bool) → a ≡ true → a ≡ (b && c) → (b ≡ true) × (c ≡ true)
both-true a true true n e = (refl, refl)
both-true a true false n e = absurd (false≢true (sym e ∙ n))
both-true a false c n e = absurd (false≢true (sym e ∙ n))

second-false : (a b c : Bool) → a ≡ false → a ≡ (b && c) → b ≡ true → c ≡ false
second-false a true c f e t = sym e ∙ f
second-false a false c f e t = absurd (false≢true t)

-- the next parent is taken, where it is an enabled phase and not yet in the set
pub taken-more : (opening : Tables) (parents : List ℕ) (set new enabled : PhaseSet) (i p : ℕ) (is-enabled is-taken : Bool) → p ≡ get_or parents i 0 → i < length parents
    → IsTaken opening parents set (drop i parents) → is-enabled ≡ true → is-enabled ≡ (is_phase p && has enabled p)
    → is-taken ≡ false → is-taken ≡ (is_phase p && has set p) → Has enabled (is_enabled opening) → HasMore set new p
    → IsTaken opening parents new (drop (i + 1) parents)
taken-more opening parents set new enabled i p is-enabled is-taken is below t on e off f has-enabled more =
    let next : drop i parents ≡ p ∷ drop (i + 1) parents = drop_more parents i 0 below ∙ ap (λ (x : ℕ). x ∷ drop (i + 1) parents) (sym is) in
    let yes_phase : is_phase p ≡ true = (both-true _ _ _ on e).0 in
    let (above, within) = phase-in p yes_phase in
    let lit : is_enabled opening p ≡ true = sym (has-enabled p yes_phase) ∙ (both-true _ _ _ on e).1 in
    let fresh : is_in t.earlier p ≡ false = sym (t.has_them p above within) ∙ second-false _ _ _ off f yes_phase in
    let good : is_faulty opening t.earlier p ≡ false = ap (λ (b : Bool). not b || is_in t.earlier p) lit ∙ fresh in
    record {
      earlier = p ∷ t.earlier;
      so_far = t.so_far ∙ ap (first_faulty opening t.earlier) next
          ∙ ap (λ (b : Bool). if b then Some p else first_faulty opening (p ∷ t.earlier) (drop (i + 1) parents)) good;
      has_them = λ q low high. more q low high ∙ or-if (has set q) (q == p)
          ∙ ap (λ (b : Bool). if q == p then true else b) (t.has_them q low high);
      all = λ q low high. t.all q low high ∙ ap (λ (l : List ℕ). has set q || is_in l q) next
          ∙ or-three (has set q) (q == p) (is_in (drop (i + 1) parents) q)
          ∙ ap (λ (b : Bool). b || is_in (drop (i + 1) parents) q) (sym (more q low high));
    }

some-none : (x : ℕ) → Some x ≢ None
some-none x = grind arith

first-true : (a b : Bool) → (not a || b) ≡ false → a ≡ true
first-true true b e = refl
first-true false b e = absurd (false≢true (sym e))

good-one : (opening : Tables) (earlier : List ℕ) (p q : ℕ) (inside : (p ≡ q) ⊎ (is_in earlier p ≡ true)) (others : is_in earlier p ≡ true → is_enabled opening p ≡ true)
    → is_enabled opening q ≡ true → is_enabled opening p ≡ true
good-one opening earlier p q (inl same) others lit = ap (is_enabled opening) same ∙ lit
good-one opening earlier p q (inr later) others lit = others later

faultless-from : (opening : Tables) (earlier parents : List ℕ) (p : ℕ) → first_faulty opening earlier parents ≡ None → is_in parents p ≡ true → is_enabled opening p ≡ true
faultless-from opening earlier [] p none inside = absurd (false≢true inside)
faultless-from opening earlier (q ∷ parents) p none inside = elim (cases_Bool (is_faulty opening earlier q)) [
  | inl hit ↦ absurd (some-none q (rw hit at none))
  | inr miss ↦ good-one opening parents p q (in-cons q parents p inside)
      (λ later. faultless-from opening (q ∷ earlier) parents p (rw miss at none) later)
      (first-true (is_enabled opening q) (is_in earlier q) miss)
]

pub in-at : (xs : List ℕ) (i d : ℕ) → i < length xs → is_in xs (get_or xs i d) ≡ true
in-at [] i d h = absurd (omega (arith, h))
in-at (x ∷ xs) zero d h = in-head x xs
in-at (x ∷ xs) (suc i) d h = in-tail x xs (get_or xs i d) (in-at xs i d (omega (arith, h)))

-- parents of which none is faulty are phases
pub faultless : (opening : Tables) (parents : List ℕ) → first_faulty opening [] parents ≡ None → (p : ℕ) → is_in parents p ≡ true → (0 < p) × (p ≤ 16)
faultless opening parents none p inside = phase-in p (and-first (is_phase p) _ (faultless-from opening [] parents p none inside))
  where
    and-first : (a b : Bool) → (a && b) ≡ true → a ≡ true
    and-first true b e = refl
    and-first false b e = absurd (false≢true e)

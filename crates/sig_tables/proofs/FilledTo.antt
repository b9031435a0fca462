-- A list of sixteen that is filled place by place, counted from 0.
use Rattle.std.proofs.Common.{◌≡◌, ◌≢◌, ◌<◌, ◌≤◌, ◌+◌, ◌-◌, List, length, map, get_or, slice_set, subst, arith, inl, inr, ℕ, true, sym, ◌∙◌, ap}
use Rattle.std.proofs.lemmas.Bool.Decides.{eqb_tells}
use Rattle.std.proofs.lemmas.List.{get_or-set_same, get_or-set_other}
use Rattle.sig_types.specs.Phases.{is_phase, all_phases}
use Rattle.sig_types.proofs.Places.{map-places}
use Rattle.sig_tables.proofs.Below.{is-above, is-within}

-- the places of the phases up to k have what was made for them
pub record FilledTo {A : Type 0} (d : A) (xs : List A) (k : ℕ) (f : ℕ → A) : Type 0 where
  pub before : (p : ℕ) → is_phase p ≡ true → p ≤ k → get_or xs (p - 1) d ≡ f p

pub filled-none : {A : Type 0} (d : A) (xs : List A) (f : ℕ → A) → FilledTo d xs 0 f
filled-none d xs f = record { before = λ p is low. absurd (let a : 0 < p = is-above p is in omega arith) }

pub filled-more : {A : Type 0} (d : A) (xs : List A) (k : ℕ) (x : A) (f : ℕ → A) → k < length xs → FilledTo d xs k f → x ≡ f (k + 1)
    → FilledTo d (slice_set xs k x) (k + 1) f
filled-more d xs k x f within b e = record {
  before = λ p is low. elim (eqb_tells p (k + 1)) [
    | inl (t, same) ↦
        let place : p - 1 ≡ k = omega arith in
        subst (λ (q : ℕ). get_or (slice_set xs k x) q d ≡ f p) (sym place)
        (get_or-set_same xs k x d within ∙ e ∙ ap f (sym same))
    | inr (t, other) ↦
        let above : 0 < p = is-above p is in
        let apart : p - 1 ≢ k = omega arith in
        get_or-set_other xs k (p - 1) x d apart ∙ b.before p is (omega arith)
  ];
}

pub filled-all : {A : Type 0} (d : A) (xs : List A) (k : ℕ) (f : ℕ → A) → length xs ≡ 16 → 16 ≤ k → FilledTo d xs k f → xs ≡ map f all_phases
filled-all d xs k f n far b = map-places d f xs n (λ p is. b.before p is (let few : p ≤ 16 = is-within p is in omega arith))

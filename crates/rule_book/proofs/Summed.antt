-- Sums over the octets of a list that are phases of a set, octet by octet.
use Rattle.std.proofs.Common.{◌≡◌, ◌∙◌, ◌+◌, ◌&&◌, inl, inr, ℕ, Bool, true, false, List, ◌∷◌, sym, refl, arith}
use Rattle.std.proofs.lemmas.Bool.{false≢true, cases_Bool}
use Rattle.sig_types.specs.declared.phase_set.PhaseSet.{PhaseSet}
use Rattle.sig_types.specs.PhaseSet.{has}
use Rattle.sig_types.specs.Phases.{is_phase, those}
use Rattle.sig_tables.specs.Sums.{sum_of}
use Rattle.sig_tables.specs.Layout.{Has}

-- an octet is a phase of the set where it passes
pub holds-test : (set : PhaseSet) (test : ℕ → Bool) (octet : ℕ) → ((q : ℕ) → test q ≡ true → is_phase q ≡ true) → Has set test
    → (is_phase octet && has set octet) ≡ test octet
holds-test set test octet phases h = elim (cases_Bool (is_phase octet)) [
  | inl is ↦ rw is (h octet is)
  | inr other ↦ elim (cases_Bool (test octet)) [
    | inl passes ↦ absurd (false≢true (sym other ∙ phases octet passes))
    | inr fails ↦ rw (other, fails) refl
  ]
]

-- one octet more counts where it passes
pub sum-more : (f : ℕ → ℕ) (test : ℕ → Bool) (octet time more : ℕ) (rest : List ℕ) → test octet ≡ true → more ≡ time + f octet
    → more + sum_of f (those test rest) ≡ time + sum_of f (those test (octet ∷ rest))
sum-more f test octet time more rest passes e = rw (passes, e) (omega arith)

pub sum-same : (f : ℕ → ℕ) (test : ℕ → Bool) (octet time more : ℕ) (rest : List ℕ) → test octet ≡ false → more ≡ time
    → more + sum_of f (those test rest) ≡ time + sum_of f (those test (octet ∷ rest))
sum-same f test octet time more rest fails e = rw (fails, e) refl

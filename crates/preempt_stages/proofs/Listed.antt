-- A set of phases as a list, and the rules of a stage and of a dwell as tests.
use Rattle.std.proofs.Common.{◌≡◌, ℕ, Bool, true, false, not, ◌&&◌, ◌||◌, nat_lt, nat_le, if◌then◌else◌, List, refl, sym, ◌∙◌, ap, arith}
use Rattle.std.proofs.lemmas.Bool.{false≢true}
use Rattle.std.proofs.lemmas.Bool.Decides.{nat_tests}
use Rattle.std.specs.Prelude.{Some}
use Rattle.sig_types.specs.declared.frame.Mode.{Mode}
use Rattle.sig_types.specs.declared.phase_set.PhaseSet.{PhaseSet}
use Rattle.sig_types.specs.PhaseSet.{has, phases_of}
use Rattle.sig_types.specs.Phases.{all_phases, is_in, those}
use Rattle.sig_types.proofs.Sets.{those-same, in-phases, listed-phase}
use Rattle.sig_tables.specs.Layout.{Has}

pub goal-has : (s : PhaseSet) (named xs : List ℕ) → named ≡ xs → Has s (is_in named) → Has s (is_in (those (is_in xs) all_phases))
goal-has s named xs e h p is = h p is ∙ ap (λ (ys : List ℕ). is_in ys p) e ∙ sym (in-phases (is_in xs) p is)

pub goal-listed : (s : PhaseSet) (named xs : List ℕ) → named ≡ xs → Has s (is_in named) → phases_of s ≡ those (is_in xs) all_phases
goal-listed s named xs e h =
    those-same (has s) (is_in xs) all_phases (λ p i. h p (listed-phase p i) ∙ ap (λ (ys : List ℕ). is_in ys p) e)

-- one of three modes is there either way
pub some-of : (a b : Bool) (x y z : Mode)
    → Some (if a then (if b then x else y) else z) ≡ (if a then (if b then Some x else Some y) else Some z)
some-of true true x y z = refl
some-of true false x y z = refl
some-of false b x y z = refl

-- a dwell that is held is not over, and else it is over where it has been dwelt
pub held : (called dwelt : Bool) (served least : ℕ) → (called || nat_lt served least) ≡ true
    → (not called && dwelt && nat_le least served) ≡ false
held true dwelt served least h = refl
held false dwelt served least h = rw (short least served h) (and-false dwelt)
  where
    short : (least served : ℕ) → nat_lt served least ≡ true → nat_le least served ≡ false
    short least served h = grind (arith, nat_tests)

    and-false : (b : Bool) → (b && false) ≡ false
    and-false true = refl
    and-false false = refl

pub not-held : (called dwelt : Bool) (served least : ℕ) → (called || nat_lt served least) ≡ false
    → (not called && dwelt && nat_le least served) ≡ dwelt
not-held true dwelt served least h = absurd (false≢true (sym h))
not-held false dwelt served least h = rw (enough least served h) (and-true dwelt)
  where
    enough : (least served : ℕ) → nat_lt served least ≡ false → nat_le least served ≡ true
    enough least served h = grind (arith, nat_tests)

    and-true : (b : Bool) → (b && true) ≡ b
    and-true true = refl
    and-true false = refl

-- neither of two fails
pub neither : (off listed : Bool) → not (not off && not listed) ≡ (listed || off)
neither true true = refl
neither true false = refl
neither false true = refl
neither false false = refl

-- Faults at the places of a list, one place after the other.
use Rattle.std.proofs.Common.{◌≡◌, ◌+◌, ◌-◌, ◌<◌, ◌||◌, ℕ, zero, suc, Bool, true, false, List, [], ◌++◌, refl, sym, ap, subst, arith}
use Rattle.scenario_data.specs.declared.refusal.ReadFail.{ReadFail}
use Rattle.scenario_data.specs.Causes.{Cause}
use Rattle.scenario_read.specs.Paths.{Step}
use Rattle.scenario_read.specs.Kinds.{Fit, Fits, fault_at}
use Rattle.scenario_read.specs.Readers.{Refuses}
use Rattle.scenario_read.proofs.Refusing.{refuses_more}
use Rattle.field_read.specs.Checks.{upto, any_below}

-- no fault at one place more
pub upto-next : (f : ℕ → List Cause) (i : ℕ) → upto f i ≡ [] → f i ≡ [] → upto f (i + 1) ≡ []
upto-next f i none here =
    let more : i + 1 ≡ suc i = omega arith in
    let both : upto f i ++ f i ≡ [] = rw (none, here) refl in
    subst (λ (n : ℕ). upto f n ≡ []) (sym more) both

further : (fail : ReadFail) (f : ℕ → List Cause) (m k n : ℕ) → n ≡ k + m → Refuses fail (upto f m) → Refuses fail (upto f n)
further fail f m zero n e h = let same : n ≡ m = omega (arith, e) in subst (λ (x : ℕ). Refuses fail (upto f x)) (sym same) h
further fail f m (suc k) n e h =
    let same : n ≡ suc (k + m) = omega (arith, e) in
    subst (λ (x : ℕ). Refuses fail (upto f x)) (sym same) (refuses_more fail (upto f (k + m)) (f (k + m)) (further fail f m k (k + m) refl h))

-- the first fault at a place with none before is that of the list
pub upto-refused : (fail : ReadFail) (f : ℕ → List Cause) (i n : ℕ) → i < n → upto f i ≡ [] → Refuses fail (f i) → Refuses fail (upto f n)
upto-refused fail f i n low none refused =
    let here : Refuses fail (upto f i ++ f i) = rw none refused in
    further fail f (suc i) (n - suc i) n (omega (arith, low)) here

-- all places are passed
pub upto-done : (f : ℕ → List Cause) (i n : ℕ) → i ≡ n → upto f i ≡ [] → upto f n ≡ []
upto-done f i n e none = subst (λ (x : ℕ). upto f x ≡ []) e none

-- a value that fits has no fault
pub fits-clean : (path : List Step) (fit : Fit) → fit ≡ Fits → fault_at path fit ≡ []
fits-clean path fit e = ap (fault_at path) e

pub same-fit : (fail : ReadFail) (path : List Step) (a b : Fit) → a ≡ b → Refuses fail (fault_at path b) → Refuses fail (fault_at path a)
same-fit fail path a b e h = subst (λ (x : Fit). Refuses fail (fault_at path x)) (sym e) h

-- a test that no place below passes, and one that some place below passes
pub below-next : (test : ℕ → Bool) (i : ℕ) → any_below test i ≡ false → test i ≡ false → any_below test (i + 1) ≡ false
below-next test i none here =
    let more : i + 1 ≡ suc i = omega arith in
    let both : (any_below test i || test i) ≡ false = rw (none, here) refl in
    subst (λ (n : ℕ). any_below test n ≡ false) (sym more) both

or-true : (a b : Bool) → b ≡ true → (a || b) ≡ true
or-true true b e = refl
or-true false b e = e

still : (a b : Bool) → a ≡ true → (a || b) ≡ true
still a b e = rw e refl

found-further : (test : ℕ → Bool) (m k n : ℕ) → n ≡ k + m → any_below test m ≡ true → any_below test n ≡ true
found-further test m zero n e h = let same : n ≡ m = omega (arith, e) in subst (λ (x : ℕ). any_below test x ≡ true) (sym same) h
found-further test m (suc k) n e h =
    let same : n ≡ suc (k + m) = omega (arith, e) in
    subst (λ (x : ℕ). any_below test x ≡ true) (sym same) (still (any_below test (k + m)) (test (k + m)) (found-further test m k (k + m) refl h))

pub below-found : (test : ℕ → Bool) (i n : ℕ) → i < n → test i ≡ true → any_below test n ≡ true
below-found test i n low here = found-further test (suc i) (n - suc i) n (omega (arith, low)) (or-true (any_below test i) (test i) here)

-- Tests over lists of numbers.
use Rattle.std.proofs.Common.{◌≡◌, inl, inr, ℕ, Bool, true, false, not, ◌&&◌, if◌then◌else◌, List, [], ◌∷◌, refl, sym}
use Rattle.std.proofs.lemmas.Bool.{cases_Bool, false≢true}
use Rattle.sig_types.specs.Phases.{is_in, some}
use Rattle.sig_tables.specs.Sums.{every}
use Rattle.sig_types.proofs.Lists.{in-head, in-tail}

-- two tests that hold of the same are the same
pub same-answer : (a b : Bool) → (a ≡ true → b ≡ true) → (b ≡ true → a ≡ true) → a ≡ b
same-answer true b f g = sym (f refl)
same-answer false true f g = g refl
same-answer false false f g = refl

pub implies : (x y : Bool) → (x ≡ true → y ≡ true) → not (x && not y) ≡ true
implies true true h = refl
implies true false h = absurd (false≢true (h refl))
implies false y h = refl

pub implied : (x y : Bool) → not (x && not y) ≡ true → x ≡ true → y ≡ true
implied true true h e = refl
implied true false h e = h
implied false y h e = absurd (false≢true e)

pub every-true : (xs : List ℕ) → every (λ _. true) xs ≡ true
every-true [] = refl
every-true (x ∷ xs) = every-true xs

pub every-same : (f g : ℕ → Bool) (xs : List ℕ) → ((q : ℕ) → is_in xs q ≡ true → f q ≡ g q) → every f xs ≡ every g xs
every-same f g [] e = refl
every-same f g (x ∷ xs) e = rw (e x (in-head x xs), every-same f g xs (λ q h. e q (in-tail x xs q h))) refl

-- both of two tests
pub every-both : (f g : ℕ → Bool) (xs : List ℕ) → every (λ q. f q && g q) xs ≡ (every f xs && every g xs)
every-both f g [] = refl
every-both f g (x ∷ xs) = rw (every-both f g xs) (split (f x) (g x) (every f xs) (every g xs))
  where
    split : (a b c d : Bool) → (if a && b then c && d else false) ≡ ((if a then c else false) && (if b then d else false))
    split true true c d = refl
    split true false true d = refl
    split true false false d = refl
    split false b c d = refl

-- none fails
pub not-some : (test : ℕ → Bool) (xs : List ℕ) → not (some test xs) ≡ every (λ q. not (test q)) xs
not-some test [] = refl
not-some test (x ∷ xs) = elim (cases_Bool (test x)) [
  | inl e ↦ rw e refl
  | inr e ↦ rw e (not-some test xs)
]

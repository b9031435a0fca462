-- A list that is cut at a byte which its first part lacks.
use Rattle.std.proofs.Common.{◌≡◌, ℕ, ◌<◌, suc, List, [], ◌∷◌, ◌++◌, get_or, length, refl, sym, ap, arith}
use Rattle.trace_text.specs.Words.{Lacks}

pub lacks_tail : (c x : ℕ) (xs : List ℕ) → Lacks c (x ∷ xs) → Lacks c xs
lacks_tail c x xs h = λ k low. h (suc k) (let below : k < length xs = low in omega arith)

pub lacks_head : (c x : ℕ) (xs : List ℕ) → Lacks c (x ∷ xs) → x ≡ c → ⊥
lacks_head c x xs h = h 0 (omega arith)

heads : (x y : ℕ) (xs ys : List ℕ) → x ∷ xs ≡ y ∷ ys → x ≡ y
heads x y xs ys e = ap (λ zs. get_or zs 0 0) e

abbrev tail_of : List ℕ → List ℕ
tail_of [] = []
tail_of (x ∷ xs) = xs

tails : (x y : ℕ) (xs ys : List ℕ) → x ∷ xs ≡ y ∷ ys → xs ≡ ys
tails x y xs ys e = ap (λ zs. tail_of zs) e

-- the parts before and after the first such byte are determined by the list
pub one_cut : (c : ℕ) (a b x y : List ℕ) → Lacks c a → Lacks c b → a ++ c ∷ x ≡ b ++ c ∷ y → (a ≡ b) × (x ≡ y)
one_cut c [] [] x y p q e = (refl, tails _ _ _ _ e)
one_cut c [] (b ∷ bs) x y p q e = absurd (lacks_head c b bs q (sym (heads _ _ _ _ e)))
one_cut c (a ∷ more) [] x y p q e = absurd (lacks_head c a more p (heads _ _ _ _ e))
one_cut c (a ∷ more) (b ∷ bs) x y p q e =
    let rest = one_cut c more bs x y (lacks_tail c a more p) (lacks_tail c b bs q) (tails _ _ _ _ e) in
    let same : a ≡ b = heads _ _ _ _ e in
    (rw (same, rest.0) refl, rest.1)

-- a list that holds the byte doesn't lack it
pub held : (c : ℕ) (a x : List ℕ) → Lacks c (a ++ c ∷ x) → ⊥
held c [] x h = lacks_head c c x h refl
held c (a ∷ more) x h = held c more x (lacks_tail c a _ h)

-- Words that are numbers, and words one after another.
use Rattle.std.proofs.Common.{◌≡◌, ◌≤◌, ◌-◌, ◌↔◌, ◌∙◌, ℕ, List, [], ◌∷◌, Some, None, decimal, sym, ap, arith, length, drop, take, get_or, Bool, true, map, ◌==◌}
use Rattle.std.proofs.lemmas.Fmt.{decimal_injective}
use Rattle.std.proofs.lemmas.Bool.{eqb-true}
use Rattle.std.proofs.lemmas.List.{take_all, nil_from_length}

-- numbers of 32 bits with one text are one number
pub same_number : (m n : ℕ) → m ≤ 4294967295 → n ≤ 4294967295 → decimal m ≡ decimal n → m ≡ n
same_number m n small few same = decimal_injective m n (omega (arith, small)) (omega (arith, few)) same

-- the word is the text of this number, and of no other
pub its_number : (word : List ℕ) (m : ℕ) → m ≤ 4294967295 → word ≡ decimal m → (n : ℕ) → (Some m ≡ Some n) ↔ ((word ≡ decimal n) × (n ≤ 4294967295))
its_number word m small is n = (
  λ e. let same : m ≡ n = cc in rw (← same) (is, small),
  λ both. let same : m ≡ n = same_number m n small both.1 (sym is ∙ both.0) in cc,
)

-- it is the text of none
pub no_number : (word : List ℕ) → ((n : ℕ) → n ≤ 4294967295 → word ≡ decimal n → ⊥) → (n : ℕ) → (None ≡ Some n) ↔ ((word ≡ decimal n) × (n ≤ 4294967295))
no_number word never n = (λ e. absurd (cc), λ both. absurd (never n both.1 both.0))

-- a list is its first item and those after it
pub first_and_rest : {A : Type 0} (xs : List A) (x : A) → 1 ≤ length xs → x ≡ get_or xs 0 x → xs ≡ x ∷ take (length xs - 1) (drop 1 xs)
first_and_rest [] x some is = absurd (omega arith)
first_and_rest (y ∷ ys) x some is = ap (λ z. z ∷ ys) (sym is) ∙ ap (λ zs. x ∷ zs) (sym (take_all (length (y ∷ ys) - 1) ys (omega arith)))

-- there is nothing in a list of no length, nor in what is made of its items
pub none_of : {A B : Type 0} (f : A → B) (xs : List A) (is : Bool) → is ≡ (length xs == 0) → is ≡ true → map f xs ≡ []
none_of f xs is tells empty = ap (map f) (nil_from_length xs (eqb-true (length xs) 0 (sym tells ∙ empty)))

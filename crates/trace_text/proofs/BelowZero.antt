-- Numbers with a sign.
use Rattle.std.proofs.Common.{◌≡◌, ℕ, ◌+◌, ◌<◌, ◌≤◌, ◌^◌, List, ◌∷◌, get_or, decimal, Some, None, sym, ap, ◌∙◌, arith, rules, suc, zero, ℤ, pos, negsuc, neg_ℤ, lit<}
use Rattle.std.specs.Fmt.{signed_decimal}
use Rattle.std.specs.Int.{w32}
use Rattle.std.specs.Int.RustNames.{FitsSigned}
use Rattle.std.proofs.lemmas.Int.{ints}
use Rattle.std.proofs.lemmas.Fmt.{first_decimal, decimal_digit}
use Rattle.trace_text.specs.Reads.{Reads}
use Rattle.trace_text.proofs.Reading.{reads_none, reads_some, some_reads}

pub fits_pos : (n : ℕ) → FitsSigned w32 (pos n) → n ≤ 2147483647
fits_pos n h = omega (arith, ints, h)

pub pos_fits : (n : ℕ) → n ≤ 2147483647 → FitsSigned w32 (pos n)
pos_fits n h = search (rules, ints)

pub fits_negsuc : (n : ℕ) → FitsSigned w32 (negsuc n) → suc n ≤ 2147483648
fits_negsuc n h = omega (arith, ints, h)

pub negsuc_fits : (n : ℕ) → suc n ≤ 2147483648 → FitsSigned w32 (negsuc n)
negsuc_fits n h = search (rules, ints)

-- a number from 0 on has no sign
pub no_sign : (n : ℕ) → n < 2 ^ 64 → (cs : List ℕ) → decimal n ≡ 45 ∷ cs → ⊥
no_sign zero small cs e = let f : 48 + 0 ≡ 45 = ap (λ ds. get_or ds 0 0) (sym (decimal_digit 0 (lit< tt)) ∙ e) in omega arith
no_sign (suc n) small cs e =
    let first : 48 < get_or (decimal (suc n)) 0 0 = first_decimal (suc n) (omega arith) small in
    let f : get_or (decimal (suc n)) 0 0 ≡ 45 = ap (λ ds. get_or ds 0 0) e in omega arith

pub tail_of : (xs ys : List ℕ) → 45 ∷ xs ≡ 45 ∷ ys → xs ≡ ys
tail_of xs ys e = cc

pub below_only : (digits : List ℕ) (n : ℕ) → Reads (λ n. n ≤ 2147483648) decimal digits (Some (suc n)) → (z : ℤ) → FitsSigned w32 z → 45 ∷ digits ≡ signed_decimal z → negsuc n ≡ z
below_only digits n h (pos m) fits e = absurd (no_sign m (let low = fits_pos m fits in omega arith) digits (sym e))
below_only digits n h (negsuc m) fits e =
    let same : suc n ≡ suc m = some_reads h (suc m) (fits_negsuc m fits) (tail_of _ _ e) in
    ap negsuc (omega arith)

-- a number from 1 on with a sign before it is a number below 0
pub some_below : (digits : List ℕ) (n : ℕ) → 0 < n → Reads (λ n. n ≤ 2147483648) decimal digits (Some n) → (z : ℤ) → z ≡ neg_ℤ (pos n)
    → Reads (FitsSigned w32) signed_decimal (45 ∷ digits) (Some z)
some_below digits zero above h z e = absurd (omega arith)
some_below digits (suc n) above h z e = rw e (reads_some (negsuc_fits n h.value.0) (ap (λ ds. 45 ∷ ds) h.value.1) (below_only digits n h))

pub none_only : (digits : List ℕ) → ((n : ℕ) → suc n ≤ 2147483648 → digits ≡ decimal (suc n) → ⊥) → (z : ℤ) → FitsSigned w32 z → 45 ∷ digits ≡ signed_decimal z → ⊥
none_only digits unlike (pos m) fits e = no_sign m (let low = fits_pos m fits in omega arith) digits (sym e)
none_only digits unlike (negsuc m) fits e = unlike m (fits_negsuc m fits) (tail_of _ _ e)

-- where no number from 1 on is so spelled, no number below 0 is with a sign
pub none_below : (digits : List ℕ) → ((n : ℕ) → suc n ≤ 2147483648 → digits ≡ decimal (suc n) → ⊥) → Reads (FitsSigned w32) signed_decimal (45 ∷ digits) None
none_below digits unlike = reads_none (none_only digits unlike)

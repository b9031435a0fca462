-- The number that some digits are.
use Rattle.std.proofs.Common.{◌≡◌, ℕ, ◌+◌, ◌-◌, ◌*◌, ◌<◌, ◌≤◌, ◌^◌, true, false, List, [], ◌∷◌, length, get_or, decimal, refl, sym, ◌∙◌, arith, rules, suc, zero, lit<, Some, None}
use Rattle.std.specs.Str.{all_ascii_digits}
use Rattle.trace_text.specs.Reads.{Reads}
use Rattle.trace_text.proofs.Reading.{reads_none, reads_some}
use Rattle.std.proofs.lemmas.Str.Parse.{IsNumeralModel, numerals_by_fold}
use Rattle.std.proofs.lemmas.Fmt.{digits_decimal, digits_value-decimal, decimal-digits_value, decimal_nonempty, first_decimal, decimal_digit}

-- the number that some digits continue to, after n
abbrev pub read_on : ℕ → List ℕ → ℕ
read_on n [] = n
read_on n (c ∷ cs) = read_on (n * 10 + (c - 48)) cs

pub own : IsNumeralModel (λ ds. all_ascii_digits ds ≡ true) (read_on 0)
own = numerals_by_fold _ (search rules) read_on (search rules)

-- continuing makes no number less
pub read_on-grows : (n : ℕ) (cs : List ℕ) → n ≤ read_on n cs
read_on-grows n [] = omega arith
read_on-grows n (c ∷ cs) = let more = read_on-grows (n * 10 + (c - 48)) cs in omega (arith, more)

-- only 0 begins with a zero
pub zero_alone : (n : ℕ) → n < 2 ^ 64 → get_or (decimal n) 0 0 ≡ 48 → length (decimal n) ≡ 1
zero_alone zero small h = rw (decimal_digit 0 (lit< tt)) refl
zero_alone (suc n) small h = let first : 48 < get_or (decimal (suc n)) 0 0 = first_decimal (suc n) (omega arith) small in absurd (omega arith)

-- a word is a number's decimal only where it is digits, of that value, with no zero before others
pub decimal_is : (word : List ℕ) (n : ℕ) → n < 2 ^ 64 → word ≡ decimal n → (all_ascii_digits word ≡ true) × (read_on 0 word ≡ n) × (0 < length word) × (get_or word 0 0 ≡ 48 → length word ≡ 1)
decimal_is word n small e = rw e (digits_decimal own n small, digits_value-decimal own n small, decimal_nonempty n small, zero_alone n small)

-- and there it is
pub is_decimal : (word : List ℕ) → all_ascii_digits word ≡ true → read_on 0 word < 2 ^ 64 → 0 < length word → (get_or word 0 0 ≡ 48 → length word ≡ 1) → word ≡ decimal (read_on 0 word)
is_decimal word digits small some zero_first = sym (decimal-digits_value own word digits some zero_first small)

-- there is a first digit, and no zero before others
abbrev pub BeginsAsNumber : List ℕ → Type 0
BeginsAsNumber word = (0 < length word) × (get_or word 0 0 ≡ 48 → length word ≡ 1)

module _ (word : List ℕ) (max : ℕ) (small : max < 2 ^ 32) where
  pub none_begins : (BeginsAsNumber word → ⊥) → Reads (λ n. n ≤ max) decimal word None
  none_begins unlike = reads_none (λ n within e. let is = decimal_is word n (omega arith) e in unlike (is.2, is.3))

  pub none_digit : all_ascii_digits word ≡ false → Reads (λ n. n ≤ max) decimal word None
  none_digit other = reads_none (λ n within e. let is = decimal_is word n (omega arith) e in let t : true ≡ false = sym is.0 ∙ other in cc)

  pub none_within : max < read_on 0 word → Reads (λ n. n ≤ max) decimal word None
  none_within above = reads_none (λ n within e. let is = decimal_is word n (omega arith) e in let v : read_on 0 word ≡ n = is.1 in omega arith)

  pub some_number : (n : ℕ) → n ≤ max → read_on 0 word ≡ n → all_ascii_digits word ≡ true → BeginsAsNumber word → Reads (λ n. n ≤ max) decimal word (Some n)
  some_number n within value digits begins =
      let e : word ≡ decimal (read_on 0 word) = is_decimal word digits (omega arith) begins.0 begins.1 in
      reads_some within (rw value at e) (λ m low f. let is = decimal_is word m (omega arith) f in sym value ∙ is.1)

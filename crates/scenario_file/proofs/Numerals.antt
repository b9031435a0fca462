-- The text of a number that was read is read as the same number.
use Rattle.std.proofs.Common.{◌≡◌, ℕ, zero, suc, ◌^◌, ◌<◌, ◌≤◌, ◌==◌, ◌&&◌, nat_lt, nat_le, List, drop, get_or, Bool, true, false, Float, negsuc, if◌then◌else◌, Some, None, refl, arith}
use Rattle.std.proofs.lemmas.Bool.{and_parts, leb-true, ltb-true}
use Rattle.std.specs.Float.{binary64, float_is_finite}
use Rattle.fast_float.specs.Text.{Parts, scan, digits_of, nearest, with_sign}
use Rattle.json.specs.Print.{IsNumber}
use Rattle.json.proofs.Printed.Decimals.{IsNumber-decimal, IsNumber-signed_decimal}
use Rattle.serde_json.specs.Data.{Num, unsigned, negative, float}
use Rattle.serde_json.specs.Find.{is_float}
use Rattle.serde_json.specs.Read.{number_of, number_from, float_of, is_integer}
use Rattle.serde_json.specs.Written.{number_text}
use Rattle.serde_json.proofs.Numbers.{number_of-decimal, number_of-negative}
use Rattle.scenario_read.proofs.Rising.{IfFound}

-- the number's own text is one, and is read as this number
abbrev pub IsNumeral : Num → Type 0
IsNumeral n = is_float n ≡ false → IsNumber (number_text n) × (number_of (number_text n) ≡ Some n)

no-float : (finite : Bool) (x : Float) → IfFound IsNumeral (if finite then Some (float x) else None)
no-float true x = λ e. absurd (cc)
no-float false x = tt

float-numeral : (sign : Bool) (p : Parts) → IfFound IsNumeral (float_of sign p)
float-numeral sign p = no-float (float_is_finite (nearest binary64 sign p)) (nearest binary64 sign p)

unsigned-numeral : (p : Parts) → IfFound IsNumeral (number_from false p)
unsigned-numeral p = at (is_integer p && nat_lt (digits_of p) (2 ^ 64)) refl
  where
    at : (b : Bool) → (is_integer p && nat_lt (digits_of p) (2 ^ 64)) ≡ b → IfFound IsNumeral (if b then Some (unsigned (digits_of p)) else float_of false p)
    at true is =
        let less : digits_of p < 2 ^ 64 = ltb-true (digits_of p) (2 ^ 64) (and_parts (is_integer p) (nat_lt (digits_of p) (2 ^ 64)) is).1 in
        λ e. (IsNumber-decimal (digits_of p) less, number_of-decimal (digits_of p) less)
    at false is = float-numeral false p

below-zero : (n : ℕ) → 0 < n → n ≤ 2 ^ 63 → IsNumeral (negative (with_sign true n))
below-zero zero some few = absurd (omega (arith, some))
below-zero (suc n) some few = λ e. (IsNumber-signed_decimal (negsuc n) (omega (arith, few)), number_of-negative n (omega (arith, few)))

negative-numeral : (p : Parts) → IfFound IsNumeral (number_from true p)
negative-numeral p = at (is_integer p && nat_lt 0 (digits_of p) && nat_le (digits_of p) (2 ^ 63)) refl
  where
    at : (b : Bool) → (is_integer p && nat_lt 0 (digits_of p) && nat_le (digits_of p) (2 ^ 63)) ≡ b → IfFound IsNumeral (if b then Some (negative (with_sign true (digits_of p))) else float_of true p)
    at true is =
        let parts = and_parts (is_integer p && nat_lt 0 (digits_of p)) (nat_le (digits_of p) (2 ^ 63)) is in
        let some = and_parts (is_integer p) (nat_lt 0 (digits_of p)) parts.0 in
        below-zero (digits_of p) (ltb-true 0 (digits_of p) some.1) (leb-true (digits_of p) (2 ^ 63) parts.1)
    at false is = float-numeral true p

pub number-numeral : (s : List ℕ) → IfFound IsNumeral (number_of s)
unfolding number_of
number-numeral s = at (get_or s 0 0 == 45)
  where
    at : (b : Bool) → IfFound IsNumeral (if b then number_from true (scan (drop 1 s)) else number_from false (scan s))
    at true = negative-numeral (scan (drop 1 s))
    at false = unsigned-numeral (scan s)

-- so of a number of 64 bits
pub small-numeral : (n : ℕ) → n < 2 ^ 64 → IsNumeral (unsigned n)
small-numeral n less = λ e. (IsNumber-decimal n less, number_of-decimal n less)

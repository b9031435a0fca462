-- A text of only digits is a whole number.
use Rattle.std.proofs.Common.{◌≡◌, ℕ, ◌^◌, ◌<◌, List, get_or, true, false, if◌then◌else◌, nat_lt, ◌==◌, Option, Some, None, option_map, refl, sym, ap, ◌∙◌, lt-ltb}
use Rattle.fast_float.specs.Text.{scan, digits_of, IsInteger}
use Rattle.serde_json.specs.Data.{unsigned}
use Rattle.serde_json.specs.Read.{number_of}
use Rattle.serde_json.specs.View.{number_view}
use Rattle.serde_json.specs.declared.number.Number.{Number}

pub whole-number : (s : List ℕ) → (get_or s 0 0 == 45) ≡ false → IsInteger (scan s) → digits_of (scan s) < 2 ^ 64 → number_of s ≡ Some (unsigned (digits_of (scan s)))
unfolding number_of
whole-number s plain (some, point, exponent) less = rw plain (rw (lt-ltb _ _ some, point, exponent, lt-ltb _ _ less) refl)

-- the number that was made of a whole one
pub made : (o : Option Number) (x : Number) (n m : ℕ) → o ≡ Some x → option_map number_view o ≡ (if nat_lt n (2 ^ 64) then Some (unsigned n) else None) → n ≡ m → m < 2 ^ 64
    → Some (unsigned m) ≡ Some (number_view x)
made o x n m is view same less =
    let fits : nat_lt m (2 ^ 64) ≡ true = lt-ltb _ _ less in
    let seen : Some (number_view x) ≡ (if nat_lt m (2 ^ 64) then Some (unsigned m) else None) =
    sym (ap (option_map number_view) is) ∙ view ∙ ap (λ k. if nat_lt k (2 ^ 64) then Some (unsigned k) else None) same in
    sym (seen ∙ ap (λ b. if b then Some (unsigned m) else None) fits)

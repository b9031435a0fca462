-- The numbers that words are.
use Rattle.std.proofs.Common.{◌≡◌, ◌≢◌, ◌<◌, ◌≤◌, ◌+◌, ◌∙◌, ℕ, zero, suc, Bool, true, false, List, Some, None, decimal, refl, sym, ap, arith, if◌then◌else◌}
use Rattle.std.specs.Str.{bytes_eq, IsUtf8}
use Rattle.std.proofs.lemmas.Slice.Eq.{bytes_eq-Decides}
use Rattle.std.proofs.lemmas.Fmt.{decimal_injective, IsAscii-decimal}
use Rattle.std.proofs.lemmas.Str.{IsUtf8-from_ascii}
use Rattle.session_words.specs.Requests.{number_among, number_to}

-- the text of a number is text
pub decimal-text : (n : ℕ) → n ≤ 4294967295 → IsUtf8 (decimal n)
decimal-text n few = IsUtf8-from_ascii (decimal n) (IsAscii-decimal n (omega (arith, few)))

-- among some numbers is the one that the word is
number_among-found : (first many n : ℕ) (word : List ℕ) → first ≤ n → n < first + many → n ≤ 4294967295 → word ≡ decimal n → number_among first many word ≡ Some n
unfolding number_among
number_among-found first zero n word low high few is = absurd (omega arith)
number_among-found first (suc many) n word low high few is =
    split (bytes_eq word (decimal first)) refl (λ more. number_among-found (first + 1) many n word more (omega arith) few is)
  where
    split : (t : Bool) → bytes_eq word (decimal first) ≡ t → (first + 1 ≤ n → number_among (first + 1) many word ≡ Some n)
        → (if t then Some first else number_among (first + 1) many word) ≡ Some n
    split true same later =
        let text : word ≡ decimal first = (bytes_eq-Decides word (decimal first)).0 same in
        ap Some (decimal_injective first n (omega (arith, low, few)) (omega (arith, few)) (sym text ∙ is))
    split false other later =
        let differs : first ≢ n = λ e. let yes = (bytes_eq-Decides word (decimal first)).1 (is ∙ ap decimal (sym e)) in cc in
        later (omega arith)

-- it is none of them
number_among-none : (first many : ℕ) (word : List ℕ) → ((n : ℕ) → first ≤ n → n < first + many → word ≡ decimal n → ⊥) → number_among first many word ≡ None
unfolding number_among
number_among-none first zero word never = refl
number_among-none first (suc many) word never =
    split (bytes_eq word (decimal first)) refl (number_among-none (first + 1) many word (λ n low high is. never n (omega arith) (omega arith) is))
  where
    split : (t : Bool) → bytes_eq word (decimal first) ≡ t → number_among (first + 1) many word ≡ None
        → (if t then Some first else number_among (first + 1) many word) ≡ None
    split true same later = absurd (never first (omega arith) (omega arith) ((bytes_eq-Decides word (decimal first)).0 same))
    split false other later = later

pub number_to-found : (last n : ℕ) (word : List ℕ) → 1 ≤ n → n ≤ last → n ≤ 4294967295 → word ≡ decimal n → number_to last word ≡ Some n
number_to-found last n word low high few is = number_among-found 1 last n word low (omega arith) few is

pub number_to-none : (last : ℕ) (word : List ℕ) → ((n : ℕ) → 1 ≤ n → n ≤ last → word ≡ decimal n → ⊥) → number_to last word ≡ None
number_to-none last word never = number_among-none 1 last word (λ n low high is. never n low (omega arith) is)

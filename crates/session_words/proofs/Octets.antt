-- The octets that words give.
use Rattle.std.proofs.Common.{◌≡◌, ◌<◌, ◌*◌, ◌/◌, ℕ, List, length, None, Result, Ok, Err, refl, arith}
use Rattle.std.proofs.lemmas.Bool.Decides.{nat_tests}
use Rattle.hex.specs.Hex.{decode_of}
use Rattle.hex.specs.declared.error.FromHexError.{FromHexError}
use Rattle.hex.proofs.HexLemmas.{decode_of-ok}
use Rattle.session_words.specs.Requests.{few_octets, octets_of}

too-many : (octets : List ℕ) → 1472 < length octets → few_octets (Ok octets) ≡ None
too-many octets many = grind (arith, nat_tests)

none-few : (read : Result (List ℕ) FromHexError) → ((octets : List ℕ) → read ≡ Ok octets → 1472 < length octets) → few_octets read ≡ None
none-few (Ok octets) many = too-many octets (many octets refl)
none-few (Err error) many = refl

-- a word of more than 2,945 octets gives none
pub octets_of-long : (word : List ℕ) → 1472 < length word / 2 → octets_of word ≡ None
octets_of-long word long = none-few (decode_of word) (λ octets is.
    let twice : length word ≡ 2 * length octets = (decode_of-ok word octets is).2 in
    omega arith)

-- The text of each kind of word gives its value.
use Rattle.std.proofs.Common.{◌≡◌, ℕ, ◌*◌, ◌<◌, ◌^◌, ℤ, pos, negsuc, suc, List, [], ◌∷◌, get_or, length, map, decimal, Option, Some, None, refl, sym}
use Rattle.std.proofs.Common.{ap, ◌∙◌, arith, lit<}
use Rattle.std.proofs.lemmas.Fmt.{decimal_injective, signed_decimal_injective}
use Rattle.std.specs.Fmt.{signed_decimal}
use Rattle.std.specs.Int.{w32}
use Rattle.std.specs.Int.RustNames.{FitsSigned}
use Rattle.std.specs.Int.Signed.{mag}
use Rattle.hex.specs.Hex.{IsBytes, decode_of, encode_lower, lower_digits}
use Rattle.hex.proofs.HexLemmas.{decode_of-encode_lower, decode_of-same, length-encode_with}
use Rattle.arrayvec.specs.ArrayVec.{ArrayVec}
use Rattle.sig_types.specs.declared.frame.Colour.{Colour}
use Rattle.sig_types.specs.declared.frame.Ped.{Ped}
use Rattle.trace_text.specs.IsLine.{FitsRun, FitsRuns, FitsReply}
use Rattle.trace_text.specs.Texts.{colours_text, signals_text, run_word, reply_text}
use Rattle.trace_text.proofs.Letters.{colours_apart, signals_apart}
use Rattle.trace_text.proofs.Cuts.{one_cut}
use Rattle.trace_text.proofs.RunWords.{digits_lack}
use Rattle.trace_text.proofs.BelowZero.{fits_pos, fits_negsuc}

pub same_number : (m n : ℕ) → m < 2 ^ 32 → n < 2 ^ 32 → decimal m ≡ decimal n → m ≡ n
same_number m n low below e = decimal_injective m n (omega arith) (omega arith) e

small : (z : ℤ) → FitsSigned w32 z → mag z < 2 ^ 63
small (pos n) fits = let low = fits_pos n fits in omega arith
small (negsuc n) fits = let low = fits_negsuc n fits in omega arith

pub same_signed : (y z : ℤ) → FitsSigned w32 y → FitsSigned w32 z → signed_decimal y ≡ signed_decimal z → y ≡ z
same_signed y z fits also e = signed_decimal_injective y z (small y fits) (small z also) e

-- letters that differ make words that differ
same_letters : {X : Type 0} (letter : X → ℕ) → ((x y : X) → letter x ≡ letter y → x ≡ y) → (xs ys : List X) → map letter xs ≡ map letter ys → xs ≡ ys
same_letters letter apart [] [] e = refl
same_letters letter apart [] (y ∷ ys) e = cc
same_letters letter apart (x ∷ xs) [] e = cc
same_letters letter apart (x ∷ xs) (y ∷ ys) e =
    let first : letter x ≡ letter y = cc in
    let rest : map letter xs ≡ map letter ys = cc in
    rw (apart x y first, same_letters letter apart xs ys rest) refl

pub colours_told : (xs ys : List Colour) → colours_text xs ≡ colours_text ys → xs ≡ ys
colours_told xs ys e = same_letters _ colours_apart xs ys e

pub signals_told : (xs ys : List Ped) → signals_text xs ≡ signals_text ys → xs ≡ ys
signals_told xs ys e = same_letters _ signals_apart xs ys e

same_run : (x y : ℕ × ℕ) → FitsRun x → FitsRun y → run_word x ≡ run_word y → x ≡ y
same_run x y fits also e =
    let both = one_cut 42 (decimal x.0) (decimal y.0) (decimal x.1) (decimal y.1)
    (digits_lack x.0 42 (let f = fits.0 in omega arith) (lit< tt)) (digits_lack y.0 42 (let f = also.0 in omega arith) (lit< tt)) e in
    let pass : x.0 ≡ y.0 = same_number x.0 y.0 fits.0 also.0 both.0 in
    let count : x.1 ≡ y.1 = same_number x.1 y.1 fits.1 also.1 both.1 in
    rw (pass, count) refl

later_runs : (x : ℕ × ℕ) (xs : List (ℕ × ℕ)) → FitsRuns (x ∷ xs) → FitsRuns xs
later_runs x xs fits k low = fits (suc k) (let below : k < length xs = low in omega arith)

pub same_runs : (xs ys : List (ℕ × ℕ)) → FitsRuns xs → FitsRuns ys → map run_word xs ≡ map run_word ys → xs ≡ ys
same_runs [] [] fits also e = refl
same_runs [] (y ∷ ys) fits also e = cc
same_runs (x ∷ xs) [] fits also e = cc
same_runs (x ∷ xs) (y ∷ ys) fits also e =
    let first : run_word x ≡ run_word y = ap (λ ws. get_or ws 0 []) e in
    let rest : map run_word xs ≡ map run_word ys = cc in
    let run : x ≡ y = same_run x y (fits 0 (omega arith)) (also 0 (omega arith)) first in
    let runs : xs ≡ ys = same_runs xs ys (later_runs x xs fits) (later_runs y ys also) rest in
    cc

same_octets : (x y : ArrayVec ℕ) → IsBytes x.items → IsBytes y.items → encode_lower x.items ≡ encode_lower y.items → x ≡ y
same_octets x y fits also e =
    let items : x.items ≡ y.items
    = decode_of-same (encode_lower x.items) x.items y.items (decode_of-encode_lower x.items fits) (ap decode_of e ∙ decode_of-encode_lower y.items also) in
    ap (λ items. record { items = items }) items

no_dash : (x : ArrayVec ℕ) → 45 ∷ [] ≡ encode_lower x.items → ⊥
no_dash x e = let long : 1 ≡ 2 * length x.items = ap length e ∙ length-encode_with lower_digits x.items in omega arith

pub same_reply : (x y : Option (ArrayVec ℕ)) → FitsReply x → FitsReply y → reply_text x ≡ reply_text y → x ≡ y
same_reply None None fits also e = refl
same_reply None (Some y) fits also e = absurd (no_dash y e)
same_reply (Some x) None fits also e = absurd (no_dash x (sym e))
same_reply (Some x) (Some y) fits also e = ap Some (same_octets x y fits also e)

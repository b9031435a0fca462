-- What is written is in the grammar.
use Rattle.std.proofs.Common.{◌≡◌, ℕ, suc, ◌+◌, ◌-◌, ◌*◌, ◌/◌, ◌%◌, ◌^◌, ◌<◌, ◌≤◌, false, List, [], ◌∷◌, length, get_or, refl, ap, arith, inl, inr}
use Rattle.std.specs.Prelude.{FitsSigned, ℤ, pos, negsuc}
use Rattle.std.specs.List.{flat_map, AllByRecursion}
use Rattle.std.proofs.lemmas.Bool.{cases_lt, lt-ltb, le-ltb}
use Rattle.std.proofs.lemmas.Bool.Decides.{nat_tests}
use Rattle.std.proofs.lemmas.List.Concat.{flat_map-cons}
use Rattle.std.proofs.lemmas.List.{length-append}
use Rattle.std.proofs.lemmas.Int.{ints}
use Rattle.std.specs.Int.{w32}
use Rattle.ber_code.specs.Fields.{AreTexts}
use Rattle.ber_code.specs.Lengths.{big_endian, IsLength, IsTagged, length_text, tagged_text}
use Rattle.ber_code.specs.Integers.{has_idle_octet, twos_complement, AreIntegerContents, IsInteger, integer_octets, integer_text}
use Rattle.ber_code.specs.Names.{IsArc, AreNameContents, IsName, IsWritable, arc_text, name_octets, name_text}

pub length_is : (n : ℕ) → n < 4294967296 → IsLength (length_text n) n
unfolding length_text
length_is n fits =
    elim (cases_lt n 128) [
      | inl a ↦ rw (lt-ltb n 128 a) (inl (a, refl, refl))
      | inr a ↦ elim (cases_lt n 256) [
        | inl b ↦ rw (le-ltb n 128 a, lt-ltb n 256 b) (inr (omega arith, omega arith, refl, omega arith))
        | inr b ↦ elim (cases_lt n 65536) [
          | inl d ↦ rw (le-ltb n 128 a, le-ltb n 256 b, lt-ltb n 65536 d) (inr (omega arith, omega arith, refl, omega arith))
          | inr d ↦ elim (cases_lt n 16777216) [
            | inl e ↦ rw (le-ltb n 128 a, le-ltb n 256 b, le-ltb n 65536 d, lt-ltb n 16777216 e) (inr (omega arith, omega arith, refl, omega arith))
            | inr e ↦ rw (le-ltb n 128 a, le-ltb n 256 b, le-ltb n 65536 d, le-ltb n 16777216 e) (inr (omega arith, omega arith, refl, omega arith))
          ]
        ]
      ]
    ]

pub tagged_is : (tag : ℕ) (content : List ℕ) → length content < 4294967296 → IsTagged tag (tagged_text tag content) content
tagged_is tag content fits = (length_text (length content), length_is (length content) fits, refl)

-- the low seven bits of an octet with its high bit set
low_bits : (digit : ℕ) → digit < 128 → (128 + digit) % 128 ≡ digit
low_bits digit few = omega arith

pub arc_is : (n : ℕ) → n < 4294967296 → IsArc (arc_text n) n
unfolding arc_text
arc_is n fits =
    let n1 = n / 128 in
    let n2 = n1 / 128 in
    let n3 = n2 / 128 in
    let n4 = n3 / 128 in
    elim (cases_lt n 128) [
      | inl a ↦ rw (lt-ltb n 128 a) (record { runs_on = a; tight = λ e. omega arith; number = omega arith; fits = fits })
      | inr a ↦ elim (cases_lt n1 128) [
        | inl b ↦
            let d1 = low_bits n1 b in
            rw (le-ltb n 128 a, lt-ltb n1 128 b)
            (record { runs_on = (omega arith, omega arith); tight = λ e. omega arith; number = rw d1 (omega arith); fits = fits })
        | inr b ↦ elim (cases_lt n2 128) [
          | inl c ↦
              let d1 = low_bits (n1 % 128) (omega arith) in
              let d2 = low_bits n2 c in
              rw (le-ltb n 128 a, le-ltb n1 128 b, lt-ltb n2 128 c)
              (record { runs_on = (omega arith, (omega arith, omega arith)); tight = λ e. omega arith; number = rw (d2, d1) (omega arith); fits = fits })
          | inr c ↦ elim (cases_lt n3 128) [
            | inl d ↦
                let d1 = low_bits (n1 % 128) (omega arith) in
                let d2 = low_bits (n2 % 128) (omega arith) in
                let d3 = low_bits n3 d in
                rw (le-ltb n 128 a, le-ltb n1 128 b, le-ltb n2 128 c, lt-ltb n3 128 d)
                (record { runs_on = (omega arith, (omega arith, (omega arith, omega arith))); tight = λ e. omega arith; number = rw (d3, d2, d1) (omega arith); fits = fits })
            | inr d ↦
                let d1 = low_bits (n1 % 128) (omega arith) in
                let d2 = low_bits (n2 % 128) (omega arith) in
                let d3 = low_bits (n3 % 128) (omega arith) in
                let d4 = low_bits n4 (omega arith) in
                rw (le-ltb n 128 a, le-ltb n1 128 b, le-ltb n2 128 c, le-ltb n3 128 d)
                (record { runs_on = (omega arith, (omega arith, (omega arith, (omega arith, omega arith)))); tight = λ e. omega arith; number = rw (d4, d3, d2, d1) (omega arith); fits = fits })
          ]
        ]
      ]
    ]

arcs_are : (arcs : List ℕ) → AllByRecursion (λ arc. arc < 4294967296) arcs → AreTexts IsArc (flat_map arc_text arcs) arcs
arcs_are [] fits = refl
arcs_are (arc ∷ arcs) fits =
    rw flat_map-cons (arc_text arc, flat_map arc_text arcs, arc_is arc fits.0, arcs_are arcs fits.1, refl)

pub contents_of_name : (arcs : List ℕ) → IsWritable arcs → AllByRecursion (λ arc. arc < 4294967296) arcs → AreNameContents (name_octets arcs) arcs
contents_of_name [] is fits = absurd is
contents_of_name (first ∷ []) is fits = absurd is
contents_of_name (first ∷ second ∷ later) is fits = (is.0, is.1, flat_map arc_text later, refl, arcs_are later fits.1.1)

arc_short : (n : ℕ) → length (arc_text n) ≤ 5
unfolding arc_text
arc_short n = grind (arith, nat_tests)

arcs_short : (arcs : List ℕ) → length (flat_map arc_text arcs) ≤ 5 * length arcs
arcs_short [] = omega arith
arcs_short (arc ∷ arcs) = rw flat_map-cons (omega (arith, length-append (arc_text arc) (flat_map arc_text arcs), arc_short arc, arcs_short arcs))

name_short : (arcs : List ℕ) → IsWritable arcs → length (name_octets arcs) < 4294967296
name_short [] is = absurd is
name_short (first ∷ []) is = absurd is
name_short (first ∷ second ∷ later) is = omega (arith, arcs_short later, is.1)

pub name_is : (arcs : List ℕ) → IsWritable arcs → AllByRecursion (λ arc. arc < 4294967296) arcs → IsName (name_text arcs) arcs
unfolding name_text
name_is arcs is fits = (name_octets arcs, contents_of_name arcs is fits, tagged_is 6 (name_octets arcs) (name_short arcs is))

-- ---- integers

abbrev fits_word : ℤ → Type 0
fits_word (pos n) = n < 2147483648
fits_word (negsuc n) = n < 2147483648

fits_word_of : (n : ℤ) → FitsSigned w32 n → fits_word n
fits_word_of (pos n) fits = omega (arith, ints)
fits_word_of (negsuc n) fits = omega (arith, ints)

from_zero : (n first : ℕ) (more : List ℕ) → first < 128 → n ≡ big_endian (first ∷ more) → pos n ≡ twos_complement (first ∷ more)
from_zero n first more low e = rw (lt-ltb first 128 low, e) refl

below_zero : (n first : ℕ) (more : List ℕ) → 128 ≤ first → n + 1 + big_endian (first ∷ more) ≡ 256 ^ length (first ∷ more) → negsuc n ≡ twos_complement (first ∷ more)
below_zero n first more high e = rw (le-ltb first 128 high) (ap negsuc (omega (arith, e)))

needed_from_zero : (first second : ℕ) (more : List ℕ) → first < 128 → (first ≡ 0 → 128 ≤ second) → has_idle_octet (first ∷ second ∷ more) ≡ false
needed_from_zero first second more low needs = grind (arith, nat_tests)

needed_below_zero : (first second : ℕ) (more : List ℕ) → 128 ≤ first → (first ≡ 255 → second < 128) → has_idle_octet (first ∷ second ∷ more) ≡ false
needed_below_zero first second more high needs = grind (arith, nat_tests)

contents_are : (n : ℤ) → fits_word n → AreIntegerContents (integer_octets n) n
unfolding integer_octets
contents_are (pos n) fits =
    let a0 = n % 256 in
    let a1 = n / 256 % 256 in
    let a2 = n / 256 / 256 % 256 in
    let a3 = n / 256 / 256 / 256 % 256 in
    elim (cases_lt n 128) [
      | inl a ↦ rw (lt-ltb n 128 a) (record { some = omega arith; few = omega arith; none_idle = refl; number = from_zero n a0 [] (omega arith) (omega arith) })
      | inr a ↦ elim (cases_lt n 32768) [
        | inl b ↦ rw (le-ltb n 128 a, lt-ltb n 32768 b) (record {
          some = omega arith;
          few = omega arith;
          none_idle = needed_from_zero a1 a0 [] (omega arith) (λ e. omega arith);
          number = from_zero n a1 (a0 ∷ []) (omega arith) (omega arith);
        })
        | inr b ↦ elim (cases_lt n 8388608) [
          | inl d ↦ rw (le-ltb n 128 a, le-ltb n 32768 b, lt-ltb n 8388608 d) (record {
            some = omega arith;
            few = omega arith;
            none_idle = needed_from_zero a2 a1 (a0 ∷ []) (omega arith) (λ e. omega arith);
            number = from_zero n a2 (a1 ∷ a0 ∷ []) (omega arith) (omega arith);
          })
          | inr d ↦ rw (le-ltb n 128 a, le-ltb n 32768 b, le-ltb n 8388608 d) (record {
            some = omega arith;
            few = omega arith;
            none_idle = needed_from_zero a3 a2 (a1 ∷ a0 ∷ []) (omega arith) (λ e. omega arith);
            number = from_zero n a3 (a2 ∷ a1 ∷ a0 ∷ []) (omega arith) (omega arith);
          })
        ]
      ]
    ]
contents_are (negsuc n) fits =
    let m = 4294967295 - n in
    let a0 = m % 256 in
    let a1 = m / 256 % 256 in
    let a2 = m / 256 / 256 % 256 in
    let a3 = m / 256 / 256 / 256 % 256 in
    elim (cases_lt n 128) [
      | inl a ↦ rw (lt-ltb n 128 a) (record { some = omega arith; few = omega arith; none_idle = refl; number = below_zero n a0 [] (omega arith) (omega arith) })
      | inr a ↦ elim (cases_lt n 32768) [
        | inl b ↦ rw (le-ltb n 128 a, lt-ltb n 32768 b) (record {
          some = omega arith;
          few = omega arith;
          none_idle = needed_below_zero a1 a0 [] (omega arith) (λ e. omega arith);
          number = below_zero n a1 (a0 ∷ []) (omega arith) (omega arith);
        })
        | inr b ↦ elim (cases_lt n 8388608) [
          | inl d ↦ rw (le-ltb n 128 a, le-ltb n 32768 b, lt-ltb n 8388608 d) (record {
            some = omega arith;
            few = omega arith;
            none_idle = needed_below_zero a2 a1 (a0 ∷ []) (omega arith) (λ e. omega arith);
            number = below_zero n a2 (a1 ∷ a0 ∷ []) (omega arith) (omega arith);
          })
          | inr d ↦ rw (le-ltb n 128 a, le-ltb n 32768 b, le-ltb n 8388608 d) (record {
            some = omega arith;
            few = omega arith;
            none_idle = needed_below_zero a3 a2 (a1 ∷ a0 ∷ []) (omega arith) (λ e. omega arith);
            number = below_zero n a3 (a2 ∷ a1 ∷ a0 ∷ []) (omega arith) (omega arith);
          })
        ]
      ]
    ]

pub integer_is : (n : ℤ) → FitsSigned w32 n → IsInteger (integer_text n) n
unfolding integer_text
integer_is n fits =
    let are = contents_are n (fits_word_of n fits) in
    let few = are.few in
    (integer_octets n, are, tagged_is 2 (integer_octets n) (omega arith))

-- ---- numbers of a type

pub all_fit : (xs : List ℕ) → ((i : ℕ) → get_or xs i 0 < 4294967296) → AllByRecursion (λ x. x < 4294967296) xs
all_fit [] fits = tt
all_fit (x ∷ xs) fits = (fits 0, all_fit xs (λ i. fits (suc i)))

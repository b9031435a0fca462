-- Reading is exact for lengths and for what is under a tag.
use Rattle.std.proofs.Common.{◌≡◌, ℕ, ◌-◌, ◌≤◌, true, false, cond, eqb, ltb, List, [], ◌∷◌, ◌++◌, length, take, drop, Option, Some, None, refl, sym, ap, subst, ◌∙◌, append_assoc, arith, inl, inr}
use Rattle.std.specs.Prelude.{◌||◌}
use Rattle.std.proofs.lemmas.Bool.{ltb-true, ltb-false, eqb-true, eqb-false, lt-ltb, le-ltb, eq-eqb, ne_eqb, or_parts, or_from}
use Rattle.std.proofs.lemmas.List.{take_at, drop_at, take-append-drop, length-append, length-take-le}
use Rattle.std.proofs.lemmas.Option.{some_pair_parts}
use Rattle.ber_code.specs.Fields.{Begins}
use Rattle.ber_code.specs.Lengths.{big_endian, IsLength, IsTagged}
use Rattle.ber_code.specs.Reading.{length_at, content_at, tagged_at}
use Rattle.ber_code.proofs.Exact.{Exact, bind_some, chosen, not_refused, let_through}

abbrev long_at : ℕ → List ℕ → Option (ℕ × List ℕ)
long_at count rest = cond (ltb (length rest) count) None (Some (big_endian (take count rest), drop count rest))

length_found : (bytes rest : List ℕ) (n : ℕ) → length_at bytes ≡ Some (n, rest) → Begins IsLength bytes n rest
unfolding length_at
length_found [] rest n e = absurd cc
length_found (first ∷ more) rest n e =
    elim (chosen (ltb first 128) (Some (first, more)) (cond (eqb first 128 || ltb 132 first) None (long_at (first - 128) more)) (Some (n, rest)) e) [
      | inl short ↦
          let same = some_pair_parts first n more rest short.1 in
          (first ∷ [], inl (ltb-true first 128 short.0, refl, sym same.0), ap (λ (t : List ℕ). first ∷ t) same.1)
      | inr long ↦
          let a = not_refused (eqb first 128 || ltb 132 first) (long_at (first - 128) more) (n, rest) long.1 in
          let b = not_refused (ltb (length more) (first - 128)) (Some (big_endian (take (first - 128) more), drop (first - 128) more)) (n, rest) a.1 in
          let at_least = ltb-false first 128 long.0 in
          let parts = or_parts (eqb first 128) (ltb 132 first) a.0 in
          let not_open = eqb-false first 128 parts.0 in
          let at_most = ltb-false 132 first parts.1 in
          let within = ltb-false (length more) (first - 128) b.0 in
          let count : length (take (first - 128) more) ≡ first - 128 = length-take-le (first - 128) more within in
          let above : 129 ≤ first = omega (arith, not_open) in
          let same = some_pair_parts (big_endian (take (first - 128) more)) n (drop (first - 128) more) rest b.1 in (
            first ∷ take (first - 128) more,
            inr (above, at_most, omega arith, sym same.0),
            ap (λ (t : List ℕ). first ∷ t) (sym (take-append-drop (first - 128) more) ∙ ap (λ (t : List ℕ). take (first - 128) more ++ t) same.1),
          )
    ]

length_again : (text rest : List ℕ) (n : ℕ) → IsLength text n → length_at (text ++ rest) ≡ Some (n, rest)
unfolding length_at
length_again [] rest n is = absurd is
length_again (first ∷ more) rest n (inl short) =
    let test : ltb first 128 ≡ true = lt-ltb first 128 short.0 in
    rw (short.1, test, short.2) refl
length_again (first ∷ more) rest n (inr long) =
    let above = long.0 in
    let below = long.1 in
    let count = long.2 in
    let wide : ltb first 128 ≡ false = le-ltb first 128 (omega arith) in
    let ranged : (eqb first 128 || ltb 132 first) ≡ false = or_from (eqb first 128) (ltb 132 first) (ne_eqb first 128 (λ e. omega arith)) (le-ltb 132 first below) in
    let many : length more ≡ first - 128 = omega arith in
    let within : ltb (length (more ++ rest)) (first - 128) ≡ false = le-ltb (length (more ++ rest)) (first - 128) (omega (arith, length-append more rest)) in
    rw (wide, ranged, within, take_at more rest (first - 128) many, drop_at more rest (first - 128) many, long.3) refl

pub length_exact : Exact IsLength length_at
length_exact = record { found = length_found; again = length_again }

content_found : (bytes content rest : List ℕ) → content_at bytes ≡ Some (content, rest) → (len : List ℕ) × IsLength len (length content) × (bytes ≡ len ++ (content ++ rest))
unfolding content_at
content_found bytes content rest e =
    let a = bind_some (length_at bytes) (λ n. cond (ltb (length n.1) n.0) None (Some (take n.0 n.1, drop n.0 n.1))) (content, rest) e in
    let b = not_refused (ltb (length a.0.1) a.0.0) (Some (take a.0.0 a.0.1, drop a.0.0 a.0.1)) (content, rest) a.2 in
    let same = some_pair_parts (take a.0.0 a.0.1) content (drop a.0.0 a.0.1) rest b.1 in
    let len = length_found bytes a.0.1 a.0.0 a.1 in
    let count : a.0.0 ≡ length content = sym (ap length (sym same.0) ∙ length-take-le a.0.0 a.0.1 (ltb-false (length a.0.1) a.0.0 b.0)) in
    let parts : a.0.1 ≡ content ++ rest = sym (take-append-drop a.0.0 a.0.1) ∙ ap (λ (t : List ℕ). t ++ drop a.0.0 a.0.1) same.0 ∙ ap (λ (t : List ℕ). content ++ t) same.1 in
    (len.0, subst (λ (n : ℕ). IsLength len.0 n) count len.1, len.2 ∙ ap (λ (t : List ℕ). len.0 ++ t) parts)

content_again : (len content rest : List ℕ) → IsLength len (length content) → content_at (len ++ (content ++ rest)) ≡ Some (content, rest)
unfolding content_at
content_again len content rest is =
    let within : ltb (length (content ++ rest)) (length content) ≡ false = le-ltb (length (content ++ rest)) (length content) (omega (arith, length-append content rest)) in
    rw (length_again len (content ++ rest) (length content) is, within, take_at content rest (length content) refl, drop_at content rest (length content) refl) refl

tagged_found : (tag : ℕ) (bytes rest content : List ℕ) → tagged_at tag bytes ≡ Some (content, rest) → Begins (IsTagged tag) bytes content rest
unfolding tagged_at
tagged_found tag [] rest content e = absurd cc
tagged_found tag (first ∷ more) rest content e =
    let a = let_through (eqb first tag) (content_at more) (content, rest) e in
    let b = content_found more content rest a.1 in
    (tag ∷ (b.0 ++ content), (b.0, b.1, refl), ap (λ (t : List ℕ). first ∷ t) (b.2 ∙ sym (append_assoc b.0 content rest)) ∙ ap (λ (f : ℕ). f ∷ ((b.0 ++ content) ++ rest)) (eqb-true first tag a.0))

tagged_again : (tag : ℕ) (text rest content : List ℕ) → IsTagged tag text content → tagged_at tag (text ++ rest) ≡ Some (content, rest)
unfolding tagged_at
tagged_again tag text rest content is =
    let same : eqb tag tag ≡ true = eq-eqb tag tag refl in
    let under : tagged_at tag (tag ∷ ((is.0 ++ content) ++ rest)) ≡ Some (content, rest) = rw (same, append_assoc is.0 content rest) (content_again is.0 content rest is.1) in
    ap (λ (t : List ℕ). tagged_at tag (t ++ rest)) is.2 ∙ under

pub tagged_exact : (tag : ℕ) → Exact (IsTagged tag) (tagged_at tag)
tagged_exact tag = record { found = tagged_found tag; again = tagged_again tag }

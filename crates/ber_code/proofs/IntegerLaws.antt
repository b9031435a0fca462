-- Reading is exact for integers, and what is written is one.
use Rattle.std.proofs.Common.{◌≡◌, ℕ, Bool, false, cond, eqb, ltb, List, ◌++◌, length, Some, None, refl, sym, ap, ◌∙◌, arith}
use Rattle.std.specs.Prelude.{◌||◌, ℤ}
use Rattle.std.proofs.lemmas.Bool.{ltb-false, eqb-false, le-ltb, ne_eqb, or_parts, or_from}
use Rattle.std.proofs.lemmas.Option.{some_pair_parts}
use Rattle.ber_code.specs.Fields.{Begins}
use Rattle.ber_code.specs.Integers.{has_idle_octet, twos_complement, AreIntegerContents, IsInteger}
use Rattle.ber_code.specs.Reading.{tagged_at, integer_at}
use Rattle.ber_code.proofs.Exact.{Exact, bind_some, not_refused}
use Rattle.ber_code.proofs.LengthLaws.{tagged_exact}

abbrev is_refused : List ℕ → Bool
is_refused octets = eqb (length octets) 0 || ltb 4 (length octets) || has_idle_octet octets

integer_found : (bytes rest : List ℕ) (n : ℤ) → integer_at bytes ≡ Some (n, rest) → Begins IsInteger bytes n rest
unfolding integer_at
integer_found bytes rest n e =
    let a = bind_some (tagged_at 2 bytes) (λ c. cond (is_refused c.0) None (Some (twos_complement c.0, c.1))) (n, rest) e in
    let b = not_refused (is_refused a.0.0) (Some (twos_complement a.0.0, a.0.1)) (n, rest) a.2 in
    let text = (tagged_exact 2).found bytes a.0.1 a.0.0 a.1 in
    let same = some_pair_parts (twos_complement a.0.0) n a.0.1 rest b.1 in
    let outer = or_parts (eqb (length a.0.0) 0 || ltb 4 (length a.0.0)) (has_idle_octet a.0.0) b.0 in
    let inner = or_parts (eqb (length a.0.0) 0) (ltb 4 (length a.0.0)) outer.0 in
    let some = eqb-false (length a.0.0) 0 inner.0 in
    let contents : AreIntegerContents a.0.0 n = record {
      some = omega (arith, some);
      few = ltb-false 4 (length a.0.0) inner.1;
      none_idle = outer.1;
      number = sym same.0;
    } in
    (text.0, (a.0.0, contents, text.1), text.2 ∙ ap (λ (t : List ℕ). text.0 ++ t) same.1)

integer_again : (text rest : List ℕ) (n : ℤ) → IsInteger text n → integer_at (text ++ rest) ≡ Some (n, rest)
unfolding integer_at
integer_again text rest n is =
    let octets = is.0 in
    let few = is.1.few in
    let some = is.1.some in
    let let_in : is_refused octets ≡ false = or_from (eqb (length octets) 0 || ltb 4 (length octets)) (has_idle_octet octets)
    (or_from (eqb (length octets) 0) (ltb 4 (length octets)) (ne_eqb (length octets) 0 (λ e. omega arith)) (le-ltb 4 (length octets) few)) is.1.none_idle in
    rw ((tagged_exact 2).again text rest octets is.2, let_in, is.1.number) refl

pub integer_exact : Exact IsInteger integer_at
integer_exact = record { found = integer_found; again = integer_again }

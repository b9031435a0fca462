use Rattle.std.proofs.Common.{◌≡◌, ◌<◌, ◌^◌, ◌==◌, get_or, Some, false, sym, ap, ◌∙◌, ne_eqb, subst}
use Rattle.fast_float.specs.Text.{Parts, scan, digits_of, IsInteger}
use Rattle.serde_json.specs.Data.{unsigned}
use Rattle.serde_json.specs.Read.{number_of}
use Rattle.scenario_file.proofs.Numbers.{whole-number}
use Rattle.scenario_file.proofs.trees.whole_of.Goals as goal

pub returns-in-Some : goal.returns-in-Some
returns-in-Some c =
    let s = c.as_bytes-bytes.result.now in
    let plain : (get_or s 0 0 == 45) ≡ false = ne_eqb (get_or s 0 0) 45 c.if-bytes-eq45.false in
    let digits : (IsInteger (scan s) × (digits_of (scan s) < 2 ^ 64)) × (c.in-Some.whole ≡ digits_of (scan s)) =
    subst (λ (p : Parts). (IsInteger p × (digits_of p < 2 ^ 64)) × (c.in-Some.whole ≡ digits_of p)) c.scan.ensures.parts c.in-Some.ensures in
    ap number_of (sym c.as_bytes-bytes.ensures.value) ∙ whole-number s plain digits.0.0 digits.0.1 ∙ ap (λ n. Some (unsigned n)) (sym digits.1)

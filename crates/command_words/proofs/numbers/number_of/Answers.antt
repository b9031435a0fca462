use Rattle.std.proofs.Common.{◌≡◌, ◌≤◌, ◌∙◌, sym, ap, arith, decimal, true}
use Rattle.std.proofs.lemmas.Slice.Eq.{bytes_eq-Decides}
use Rattle.std.proofs.lemmas.Fmt.{parse-decimal}
use Rattle.command_words.proofs.Decimals.{its_number, no_number}
use Rattle.command_words.proofs.numbers.number_of.Goals as goal

pub returns-then-eq : goal.returns-then-eq
returns-then-eq c =
    let small : c.in-Ok.n ≤ 4294967295 = omega (arith, c.in-Ok.ensures.value.0) in
    let test = bytes_eq-Decides c.format.result.now c.args.word.now in
    let text : c.args.word.now ≡ decimal c.in-Ok.n = sym (test.0 (sym c.eq.ensures ∙ c.if-eq.true)) ∙ c.format.ensures.text in
    its_number _ _ small text

pub returns-else-eq : goal.returns-else-eq
returns-else-eq c = no_number _ (λ n small is.
    let read = parse-decimal 32 n _ _ (omega (arith, small)) (omega (arith, small)) is c.parse.ensures.value.0 in
    let same : c.in-Ok.n ≡ n = cc in
    let test = bytes_eq-Decides c.format.result.now c.args.word.now in
    let yes : c.eq.result ≡ true = c.eq.ensures ∙ test.1 (c.format.ensures.text ∙ ap decimal same ∙ sym is) in
    cc)

pub returns-in-Err : goal.returns-in-Err
returns-in-Err c = no_number _ (λ n small is.
    cc (parse-decimal 32 n _ _ (omega (arith, small)) (omega (arith, small)) is c.parse.ensures.value.0))

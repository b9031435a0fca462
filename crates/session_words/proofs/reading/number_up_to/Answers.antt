use Rattle.std.proofs.Common.{◌≡◌, ◌≤◌, ◌∙◌, true, decimal, sym, ap, subst, arith}
use Rattle.std.specs.Str.{IsUtf8}
use Rattle.std.proofs.lemmas.Slice.Eq.{bytes_eq-Decides}
use Rattle.std.proofs.lemmas.Fmt.{parse-decimal}
use Rattle.session_words.proofs.Numbers.{decimal-text, number_to-found, number_to-none}
use Rattle.session_words.proofs.reading.number_up_to.Goals.{else-n-ge1-via-then-n-ge1+then-n-last+else-is_number, else-n-ge1-via-then-n-ge1+else-n-last, else-n-ge1-via-else-n-ge1}
use Rattle.session_words.proofs.reading.number_up_to.Goals as goal

pub returns-in-Err-clause-value : goal.returns-in-Err-clause-value
returns-in-Err-clause-value c = sym (number_to-none c.args.last c.args.word.now (λ n low high is.
    c.in-Err.ensures.cases.0 (subst IsUtf8 (sym is) (decimal-text n (omega (arith, c.ranges.last.fits))))))

pub returns-then-is_number-clause-value : goal.returns-then-is_number-clause-value
returns-then-is_number-clause-value c =
    let same = (bytes_eq-Decides c.in-Ok.text.now (decimal c.in-Ok-parse.n)).0 (sym c.is_number.ensures ∙ c.if-is_number.true) in
    sym (number_to-found c.args.last c.in-Ok-parse.n c.args.word.now (omega arith) (omega arith) (omega (arith, c.ranges.last.fits))
    (sym c.in-Ok.ensures.cases.0 ∙ same))

pub returns-else-n-ge1-clause-value : goal.returns-else-n-ge1-clause-value
returns-else-n-ge1-clause-value c = sym (number_to-none c.args.last c.args.word.now (λ n low high is.
    let few : n ≤ 4294967295 = omega (arith, c.ranges.last.fits) in
    let text : c.in-Ok.text.now ≡ decimal n = c.in-Ok.ensures.cases.0 ∙ is in
    let read = parse-decimal 32 n _ _ (omega (arith, few)) (omega (arith, few)) text c.parse.ensures.value.0 in
    let same : c.in-Ok-parse.n ≡ n = cc in
    elim c.else-n-ge1.branch [
      | else-n-ge1-via-then-n-ge1+then-n-last+else-is_number w ↦
          let yes : w.is_number.result ≡ true = w.is_number.ensures ∙ (bytes_eq-Decides c.in-Ok.text.now (decimal c.in-Ok-parse.n)).1 (text ∙ ap decimal (sym same)) in
          cc
      | else-n-ge1-via-then-n-ge1+else-n-last w ↦ omega arith
      | else-n-ge1-via-else-n-ge1 w ↦ omega arith
    ]))

pub returns-in-Err-parse-clause-value : goal.returns-in-Err-parse-clause-value
returns-in-Err-parse-clause-value c = sym (number_to-none c.args.last c.args.word.now (λ n low high is.
    let few : n ≤ 4294967295 = omega (arith, c.ranges.last.fits) in
    let text : c.in-Ok.text.now ≡ decimal n = c.in-Ok.ensures.cases.0 ∙ is in
    let read = parse-decimal 32 n _ _ (omega (arith, few)) (omega (arith, few)) text c.parse.ensures.value.0 in
    cc))

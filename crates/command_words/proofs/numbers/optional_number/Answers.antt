use Rattle.std.proofs.Common.{◌≡◌, ◌≤◌, ◌∷◌, ◌∙◌, inr, ℕ, List, [], decimal, get_or, map, string_bytes, sym, ap, arith}
use Rattle.command_words.proofs.Decimals.{same_number, none_of}
use Rattle.command_words.proofs.OneJudge.{its_optional, no_optional}
use Rattle.command_words.proofs.numbers.optional_number.Goals as goal

pub returns-then-n-most : goal.returns-then-n-most
returns-then-n-most c =
    let none = none_of string_bytes c.in-Some.rest.now c.is_empty-in-Some.result c.is_empty-in-Some.ensures c.if-not-is_empty.false in
    let whole = c.in-Some.ensures.some.0 ∙ ap (λ (ws : List (List ℕ)). c.args.option.now ∷ decimal c.in-Some.n ∷ ws) none in
    its_optional (map string_bytes c.args.words.now) c.args.option.now c.args.most c.in-Some.n (omega (arith, c.ranges.most.fits)) (inr (whole, c.if-n-most.true))

pub returns-else-n-most : goal.returns-else-n-most
returns-else-n-most c =
    no_optional (map string_bytes c.args.words.now) c.args.option.now c.args.most
    (λ e. let some : [] ≡ c.args.option.now ∷ decimal c.in-Some.n ∷ map string_bytes c.in-Some.rest.now = sym e ∙ c.in-Some.ensures.some.0 in cc)
    (λ n few is.
    let small : n ≤ c.args.most = few in
    let fits : n ≤ 4294967295 = omega (arith, small, c.ranges.most.fits) in
    let same : c.in-Some.n ≡ n = same_number _ _ c.in-Some.ensures.some.1 fits (ap (λ (ws : List (List ℕ)). get_or ws 1 []) (sym c.in-Some.ensures.some.0 ∙ is)) in
    omega (arith, small, same, c.if-n-most.false))

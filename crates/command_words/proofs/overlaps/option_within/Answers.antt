use Rattle.std.proofs.Common.{◌≡◌, ◌≤◌, ◌∙◌, ℕ, List, [], get_or, sym, ap, arith}
use Rattle.command_words.proofs.Decimals.{same_number}
use Rattle.command_words.proofs.overlaps.option_within.Goals.{else-least-n-via-then-least-n+else-n-most, else-least-n-via-else-least-n}
use Rattle.command_words.proofs.overlaps.option_within.Goals as goal

pub returns-else-least-n-clause-none : goal.returns-else-least-n-clause-none
returns-else-least-n-clause-none c = λ none n rest least most is.
    let few : n ≤ 4294967295 = omega (arith, most, c.ranges.most.fits) in
    let same : c.in-Some.n ≡ n = same_number _ _ c.in-Some.ensures.some.1 few (ap (λ (ws : List (List ℕ)). get_or ws 1 []) (sym c.in-Some.ensures.some.0 ∙ is)) in
    elim c.else-least-n.branch [
      | else-least-n-via-then-least-n+else-n-most w ↦ omega arith
      | else-least-n-via-else-least-n w ↦ omega arith
    ]

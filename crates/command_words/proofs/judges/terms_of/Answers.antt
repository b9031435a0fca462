use Rattle.std.proofs.Common.{◌∙◌, ℕ, List, drop, map, string_bytes, sym, ap, subst}
use Rattle.command_words.specs.Words.{IsTerms}
use Rattle.command_words.proofs.judges.terms_of.Goals as goal

pub returns-in-Some : goal.returns-in-Some
returns-in-Some c = λ terms.
    let so = c.given_terms.ensures terms in (
      λ e. (map string_bytes c.in-Some.rest.now, c.in-Some.ensures.some, so.0 e),
      λ (more, are, is). so.1 (subst (λ (ws : List (List ℕ)). IsTerms ws terms) (ap (λ (ws : List (List ℕ)). drop 1 ws) (sym are ∙ c.in-Some.ensures.some)) is),
    )

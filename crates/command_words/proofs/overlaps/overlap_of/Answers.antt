use Rattle.std.proofs.Common.{◌∷◌, ◌∙◌, ℕ, List, codes, drop, ap, sym}
use Rattle.command_words.proofs.overlaps.overlap_of.Goals as goal

pub returns-in-Some : goal.returns-in-Some
returns-in-Some c = λ overlap.
    let so = c.given_overlap.ensures overlap in (
      λ e. let given = so.0 e in (given.0, c.in-Some.ensures.some ∙ ap (λ (ws : List (List ℕ)). codes "overlaps" ∷ ws) given.1, given.2, given.3),
      λ is. so.1 (is.0, ap (λ (ws : List (List ℕ)). drop 1 ws) (sym c.in-Some.ensures.some ∙ is.1), is.2, is.3),
    )

use Rattle.std.proofs.Common.{◌∷◌, ◌∙◌, ℕ, List, drop, ap, sym}
use Rattle.command_words.proofs.telling.seeding_of.Goals as goal

pub returns-in-Some : goal.returns-in-Some
returns-in-Some c = λ from.
    let so = c.given_seeding.ensures from in (
      λ e. (c.in-Some.ensures.some ∙ ap (λ (ws : List (List ℕ)). c.args.name.now ∷ ws) (so.0 e).0, (so.0 e).1),
      λ both. so.1 (ap (λ (ws : List (List ℕ)). drop 1 ws) (sym c.in-Some.ensures.some ∙ both.0), both.1),
    )

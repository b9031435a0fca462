use Rattle.std.proofs.Common.{sym, ap, ◌∙◌, subst, ◌≤◌, ℕ, length, List}
use Rattle.responsive.specs.declared.Step.{Step}
use Rattle.responsive.specs.Level.{level}
use Rattle.responsive.proofs.Levels.{level-few}
use Rattle.responsive.proofs.level.Goals as goal

pub returns-clause-few : goal.returns-clause-few
returns-clause-few c =
    subst (λ (n : ℕ). n ≤ length c.args.rule.now.steps.items)
    (sym (c.next_level.ensures ∙ ap (λ (steps : List Step). level steps c.args.now c.args.volume) c.as_slice.ensures.value))
    (level-few c.args.rule.now.steps.items c.args.now c.args.volume c.requires.now)

use Rattle.std.proofs.Common.{sym, ◌∙◌}
use Rattle.tick_context.proofs.Causes.{number-some, number-none}
use Rattle.tick_context.proofs.tick_state.is_asked.Goals as goal

pub returns-in-Some : goal.returns-in-Some
returns-in-Some c = λ n e. number-some n _ (sym c.in-Some.is ∙ e)

pub returns-in-None : goal.returns-in-None
returns-in-None c = λ n e. number-none n (sym c.in-None.is ∙ e)

use Rattle.std.proofs.Common.{sym, ◌∙◌}
use Rattle.message_lines.proofs.Answered.{not_none}
use Rattle.message_lines.proofs.line.line_of.Goals as goal

pub returns-in-Ok-clause-only : goal.returns-in-Ok-clause-only
returns-in-Ok-clause-only c = λ none m there. not_none m (sym (c.in-Ok.ensures.message m there) ∙ none)

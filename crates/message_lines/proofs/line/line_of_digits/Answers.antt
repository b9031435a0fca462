use Rattle.message_lines.proofs.Answered.{of_no_digits}
use Rattle.message_lines.proofs.line.line_of_digits.Goals as goal

pub returns-in-Ok-clause-none : goal.returns-in-Ok-clause-none
returns-in-Ok-clause-none c = of_no_digits (λ line. line.items) c.args.digits.now c.deref.result.now (rw c.deref.ensures.value c.in-Ok.ensures.ok) c.line_of_octets.result c.line_of_octets.ensures.none

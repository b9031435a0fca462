use Rattle.trace_laws.proofs.RunTexts.{text_tells, any_tell}
use Rattle.trace_laws.proofs.one_trace.run_texts_are_safe.Goals as goal

pub returns-clause-tells : goal.returns-clause-tells
returns-clause-tells c = λ s run journals are.
    text_tells s journals (c.lines_are_proper.ensures s run journals are) (c.any_order_is_safe.ensures s run.can_open journals are)

pub returns-clause-any : goal.returns-clause-any
returns-clause-any c = λ s run journals are.
    any_tell s journals (c.lines_are_proper.ensures s run journals are) (c.any_order_is_safe.ensures s run.can_open journals are)

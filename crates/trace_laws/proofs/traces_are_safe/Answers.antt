use Rattle.trace_laws.proofs.Whole.{Laws, trace-tells}
use Rattle.trace_laws.proofs.traces_are_safe.Goals as goal

pub returns : goal.returns
returns c =
    let laws : Laws = record { one = c.bytes_have_one_answer.ensures.one; runs = c.scenarios_run.ensures; proper = c.lines_are_proper.ensures } in
    trace-tells laws c.run_texts_are_safe.ensures.tells

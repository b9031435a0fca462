use Rattle.trace_laws.proofs.Whole.{Laws, trace-faultless}
use Rattle.trace_laws.proofs.traces_have_no_fault.Goals as goal

pub returns : goal.returns
returns c =
    let laws : Laws = record { one = c.bytes_have_one_answer.ensures.one; runs = c.scenarios_run.ensures; proper = c.lines_are_proper.ensures } in
    trace-faultless laws

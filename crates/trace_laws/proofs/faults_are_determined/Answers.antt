use Rattle.trace_laws.proofs.Whole.{Laws, faults-determined}
use Rattle.trace_laws.proofs.faults_are_determined.Goals as goal

pub returns : goal.returns
returns c =
    let laws : Laws = record { one = c.bytes_have_one_answer.ensures.one; runs = c.scenarios_run.ensures; proper = c.lines_are_proper.ensures } in
    faults-determined laws

use Rattle.trace_laws.proofs.Whole.{Laws, journals-told}
use Rattle.trace_laws.proofs.traces_tell_journals.Goals as goal

pub returns : goal.returns
returns c =
    let laws : Laws = record { one = c.bytes_have_one_answer.ensures.one; runs = c.scenarios_run.ensures; proper = c.lines_are_proper.ensures } in
    journals-told laws c.texts_have_one_list.ensures c.journals_are_told.ensures

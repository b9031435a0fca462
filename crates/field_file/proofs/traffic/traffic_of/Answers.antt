use Rattle.scenario_read.proofs.NoFaults.{none-both}
use Rattle.scenario_read.proofs.Refusing.{refuses_more, refuses_behind}
use Rattle.field_read.specs.Content.{field_content}
use Rattle.field_file.specs.FieldAnswer.{inputs_faults, entries_faults}
use Rattle.field_file.proofs.traffic.traffic_of.Goals as goal

pub returns-in-Err : goal.returns-in-Err
returns-in-Err c = let f = field_content c.args.field.now in refuses_more c.in-Err.fail (inputs_faults f) (entries_faults f) c.in-Err.ensures

pub returns-in-Ok-entries_of : goal.returns-in-Ok-entries_of
returns-in-Ok-entries_of c =
    let f = field_content c.args.field.now in
    (none-both (inputs_faults f) (entries_faults f) c.in-Ok.ensures.0 c.in-Ok-entries_of.ensures.0, record { calls = c.in-Ok.ensures.1; schedule = c.in-Ok-entries_of.ensures.1 })

pub returns-in-Err-entries_of : goal.returns-in-Err-entries_of
returns-in-Err-entries_of c =
    let f = field_content c.args.field.now in
    refuses_behind c.in-Err-entries_of.fail (inputs_faults f) (entries_faults f) c.in-Ok.ensures.0 c.in-Err-entries_of.ensures

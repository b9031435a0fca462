use Rattle.serde_json.specs.View.{view}
use Rattle.scenario_read.proofs.Rising.{read-sorted}
use Rattle.field_file.proofs.Sizes.{field-refused, result-refused}
use Rattle.field_file.proofs.told.told_whole.Goals as goal

pub told_of-requires : goal.told_of-requires
told_of-requires c =
    let seen = c.in-Ok.ensures in
    record { sorted = read-sorted _ _ seen.value.1; nests = seen.nests; read = record { clean = seen.clean; said = seen.told } }

pub returns-in-Err-told_of-clause-refused : goal.returns-in-Err-told_of-clause-refused
returns-in-Err-told_of-clause-refused c =
    result-refused c.args.bytes.now (view c.in-Ok.source.value) c.in-Err-told_of.fail c.in-Ok.ensures.value c.in-Err-told_of.ensures

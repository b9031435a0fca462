use Rattle.std.proofs.Common.{subst}
use Rattle.scenario_read.specs.Answers.{OnRefusal}
use Rattle.field_file.specs.FieldAnswer.{IsFirstResultFault}
use Rattle.field_file.proofs.Sizes.{field-refused, result-refused}
use Rattle.field_file.proofs.told.respond.Goals as goal

pub told_in_parts-requires : goal.told_in_parts-requires
told_in_parts-requires c = let seen = c.in-Ok.ensures.ok in record { read = (seen.0, record { clean = seen.2; said = seen.3 }) }

pub returns-in-Ok-told_in_parts-clause-told : goal.returns-in-Ok-told_in_parts-clause-told
returns-in-Ok-told_in_parts-clause-told c =
    let seen = c.in-Ok.ensures.ok in
    let told = c.in-Ok-told_in_parts.ensures c.args.bytes.now seen.0 seen.1 (record { clean = seen.2; said = seen.3 }) seen.4 in
    (seen.0, seen.1, told.0, told.1)

pub returns-in-Err-clause-refused : goal.returns-in-Err-clause-refused
returns-in-Err-clause-refused c =
    let seen = c.in-Ok.ensures.ok in
    result-refused c.args.bytes.now seen.0 c.in-Err.fail seen.1 (c.in-Err.ensures c.args.bytes.now seen.0 seen.1 (record { clean = seen.2; said = seen.3 }) seen.4)

pub returns-in-Err-Refused-clause-refused : goal.returns-in-Err-Refused-clause-refused
returns-in-Err-Refused-clause-refused c =
    subst (λ fail. OnRefusal fail (IsFirstResultFault c.args.bytes.now)) c.in-Err-Refused.field-0-is
    (field-refused c.args.bytes.now c.in-Err-Refused.field-0 c.in-Err-Refused.ensures.refused)

use Rattle.std.proofs.Common.{◌≡◌, sym, subst}
use Rattle.serde_json.specs.View.{view}
use Rattle.scenario_read.specs.Answers.{Reads}
use Rattle.field_read.proofs.Kept.{kept-sorted, kept-low, field-right, field-refused, no-field}
use Rattle.field_read.proofs.reading.read_source.Goals as goal

pub field_in-requires : goal.field_in-requires
field_in-requires c =
    let kept = c.in-Ok.ensures.kept in
    let v = view c.in-Ok.value in
    record { sorted = kept-sorted c.args.bytes.now kept.0 v kept.1 kept.2; nests = kept-low c.args.bytes.now kept.0 v kept.1 kept.2 }

pub returns-in-Err-clause-refused : goal.returns-in-Err-clause-refused
returns-in-Err-clause-refused c = no-field c.args.bytes.now c.in-Err.fail c.in-Err.ensures.none

pub returns-in-Ok-field_in-clause-value : goal.returns-in-Ok-field_in-clause-value
returns-in-Ok-field_in-clause-value c =
    let kept = c.in-Ok.ensures.kept in
    let v = view c.in-Ok.value in
    let same : v ≡ kept.0 = field-right c.args.bytes.now kept.0 v kept.1 kept.2 c.in-Ok-field_in.ensures.read.0 in
    subst (λ w. Reads c.args.bytes.now w) (sym same) kept.1

pub returns-in-Ok-field_in-clause-nests : goal.returns-in-Ok-field_in-clause-nests
returns-in-Ok-field_in-clause-nests c =
    let kept = c.in-Ok.ensures.kept in
    kept-low c.args.bytes.now kept.0 (view c.in-Ok.value) kept.1 kept.2

pub returns-in-Err-field_in-clause-refused : goal.returns-in-Err-field_in-clause-refused
returns-in-Err-field_in-clause-refused c =
    let kept = c.in-Ok.ensures.kept in
    field-refused c.args.bytes.now kept.0 (view c.in-Ok.value) kept.1 kept.2 c.in-Err-field_in.fail c.in-Err-field_in.ensures.read

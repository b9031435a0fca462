use Rattle.std.proofs.Common.{sym, ap, subst}
use Rattle.serde_json.specs.View.{view}
use Rattle.field_read.specs.Content.{FieldContent, field_content}
use Rattle.field_read.specs.Places.{BankPlaced, PulsesPlaced}
use Rattle.field_read.proofs.Placed.{bank-placed, pulses-placed}
use Rattle.field_read.proofs.WholeFields.{across-refused, across-clean}
use Rattle.field_read.proofs.reading.field_in.Goals as goal

pub lists_fit-requires : goal.lists_fit-requires
lists_fit-requires c =
    let d = view c.args.value.now in
    let read = c.in-Ok.ensures.read in record {
      bank = subst BankPlaced (sym (ap (λ (f : FieldContent). f.bank) read.1)) (bank-placed d read.0);
      pulses = subst PulsesPlaced (sym (ap (λ (f : FieldContent). f.pulses) read.1)) (pulses-placed d read.0);
    }

pub returns-in-Ok-lists_fit-clause-read : goal.returns-in-Ok-lists_fit-clause-read
returns-in-Ok-lists_fit-clause-read c =
    let d = view c.args.value.now in
    let read = c.in-Ok.ensures.read in
    (across-clean (field_content c.in-Ok.field) d read.0 read.1 c.in-Ok-lists_fit.ensures.0, read.1)

pub returns-in-Err-lists_fit-clause-read : goal.returns-in-Err-lists_fit-clause-read
returns-in-Err-lists_fit-clause-read c =
    let d = view c.args.value.now in
    let read = c.in-Ok.ensures.read in
    across-refused c.in-Err-lists_fit.fail (field_content c.in-Ok.field) d read.0 read.1 c.in-Err-lists_fit.ensures

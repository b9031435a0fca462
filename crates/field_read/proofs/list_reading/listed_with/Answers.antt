use Rattle.std.proofs.Common.{sym, ap, subst}
use Rattle.field_read.specs.Content.{FieldContent, field_content}
use Rattle.field_read.specs.Places.{BankPlaced, PulsesPlaced}
use Rattle.field_read.proofs.Placed.{bank-placed, pulses-placed}
use Rattle.field_read.proofs.WholeFields.{across-clean, across-refused, refused-first}
use Rattle.field_read.proofs.list_reading.listed_with.Goals as goal

pub lists_fit-requires : goal.lists_fit-requires
lists_fit-requires c =
    let found = c.in-Some.ensures in
    let d = found.0 in
    let says = found.2 in record {
      bank = subst BankPlaced (sym (ap (λ (f : FieldContent). f.bank) says.said)) (bank-placed d says.clean);
      pulses = subst PulsesPlaced (sym (ap (λ (f : FieldContent). f.pulses) says.said)) (pulses-placed d says.clean);
    }

pub returns-in-Ok-clause-ok : goal.returns-in-Ok-clause-ok
returns-in-Ok-clause-ok c =
    let found = c.in-Some.ensures in
    let d = found.0 in
    let says = found.2 in
    (d, found.1, across-clean (field_content c.in-Some.listed.field) d says.clean says.said c.in-Ok.ensures.0, says.said, says.text)

pub returns-clause-refused : goal.returns-clause-refused
returns-clause-refused c =
    let found = c.in-Some.ensures in
    let d = found.0 in
    let says = found.2 in
    let fail = c.in-Err.fail in
    refused-first c.args.bytes.now d fail found.1 (across-refused fail (field_content c.in-Some.listed.field) d says.clean says.said c.in-Err.ensures)

use Rattle.std.proofs.Common.{◌≡◌, ◌+◌, ℕ, [], length, rules, sym, ap₂, ◌∙◌, subst}
use Rattle.scenario_data.specs.Causes.{Cause}
use Rattle.scenario_read.specs.Readers.{Refuses}
use Rattle.field_read.specs.Content.{field_content}
use Rattle.field_file.proofs.Sizes.{fits-read, inputs-same}
use Rattle.field_file.proofs.traffic.calls_of.Goals as goal

pub bank_calls-requires-clause-stands : goal.bank_calls-requires-clause-stands
bank_calls-requires-clause-stands c = (fits-read (field_content c.args.field.now) c.requires.read.0 c.requires.read.1).stands

pub bank_calls-requires-clause-few : goal.bank_calls-requires-clause-few
bank_calls-requires-clause-few c = (fits-read (field_content c.args.field.now) c.requires.read.0 c.requires.read.1).few

pub bank_calls-requires-clause-short : goal.bank_calls-requires-clause-short
bank_calls-requires-clause-short c = (fits-read (field_content c.args.field.now) c.requires.read.0 c.requires.read.1).short

pub returns-in-Ok-at_most : goal.returns-in-Ok-at_most
returns-in-Ok-at_most c =
    let f = field_content c.args.field.now in
    let a : c.len.result ≡ length c.args.field.now.scenario.inputs.items = search rules in
    let b : c.len-2.result ≡ length c.in-Ok.calls.items = search rules in
    (sym (inputs-same f c.in-Ok.calls.items (c.len.result + c.len-2.result) c.in-Ok.ensures (ap₂ (λ (x y : ℕ). x + y) a b)) ∙ c.in-Ok-at_most.ensures.0, c.in-Ok.ensures)

pub returns-in-Err-at_most : goal.returns-in-Err-at_most
returns-in-Err-at_most c =
    let f = field_content c.args.field.now in
    let a : c.len.result ≡ length c.args.field.now.scenario.inputs.items = search rules in
    let b : c.len-2.result ≡ length c.in-Ok.calls.items = search rules in
    subst (Refuses c.in-Err-at_most.fail) (inputs-same f c.in-Ok.calls.items (c.len.result + c.len-2.result) c.in-Ok.ensures (ap₂ (λ (x y : ℕ). x + y) a b)) c.in-Err-at_most.ensures

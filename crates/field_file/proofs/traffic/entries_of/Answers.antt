use Rattle.std.proofs.Common.{option_map, sym, ◌∙◌, subst}
use Rattle.scenario_read.specs.Readers.{Refuses}
use Rattle.field_read.specs.Content.{field_content}
use Rattle.field_file.proofs.Sizes.{fits-read, entries-same}
use Rattle.field_file.proofs.traffic.entries_of.Goals as goal

pub schedule_of-requires-clause-pulses : goal.schedule_of-requires-clause-pulses
schedule_of-requires-clause-pulses c = (fits-read (field_content c.args.field.now) c.requires.read.0 c.requires.read.1).few

pub schedule_of-requires-clause-short : goal.schedule_of-requires-clause-short
schedule_of-requires-clause-short c = (fits-read (field_content c.args.field.now) c.requires.read.0 c.requires.read.1).short

pub schedule_of-requires-clause-rules : goal.schedule_of-requires-clause-rules
schedule_of-requires-clause-rules c = (fits-read (field_content c.args.field.now) c.requires.read.0 c.requires.read.1).rules

pub returns-in-Ok-at_most : goal.returns-in-Ok-at_most
returns-in-Ok-at_most c =
    let f = field_content c.args.field.now in
    (sym (entries-same f (option_map (λ v. v.items) c.in-Ok.schedule) c.entry_count.result c.in-Ok.ensures c.entry_count.ensures) ∙ c.in-Ok-at_most.ensures.0, c.in-Ok.ensures)

pub returns-in-Err-at_most : goal.returns-in-Err-at_most
returns-in-Err-at_most c =
    subst (Refuses c.in-Err-at_most.fail) (entries-same (field_content c.args.field.now) (option_map (λ v. v.items) c.in-Ok.schedule) c.entry_count.result c.in-Ok.ensures c.entry_count.ensures)
    c.in-Err-at_most.ensures

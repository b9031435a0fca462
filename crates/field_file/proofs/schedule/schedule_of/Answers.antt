use Rattle.std.proofs.Common.{option_map, ap}
use Rattle.field_read.specs.Content.{respond_content}
use Rattle.field_file.proofs.schedule.schedule_of.Goals as goal

pub entries_by-requires-clause-some : goal.entries_by-requires-clause-some
entries_by-requires-clause-some c = (c.requires.rules (respond_content c.in-Some.respond) (ap (λ o. option_map respond_content o) c.in-Some.is)).0

pub entries_by-requires-clause-rules : goal.entries_by-requires-clause-rules
entries_by-requires-clause-rules c = (c.requires.rules (respond_content c.in-Some.respond) (ap (λ o. option_map respond_content o) c.in-Some.is)).1

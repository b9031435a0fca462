use Rattle.std.proofs.Common.{◌≡◌, map, take}
use Rattle.field_read.specs.Content.{rule_content}
use Rattle.field_file.specs.Schedule.{base_entries}
use Rattle.field_file.proofs.schedule.base_entries.Given as goal

-- those of the rules so far
abbrev pub invariant-loop-k : goal.invariant-loop-k
invariant-loop-k l = l.entries.items ≡ base_entries l.second (map rule_content (take l.k l.rules.items))

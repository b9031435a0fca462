use Rattle.std.proofs.Common.{◌≡◌, map, take}
use Rattle.serde_json.specs.View.{view}
use Rattle.field_file.specs.Written.{entry_value}
use Rattle.field_file.proofs.written.entry_values.Given as goal

-- the values so far
abbrev pub invariant-loop-i : goal.invariant-loop-i
invariant-loop-i l = map view l.values.items ≡ map entry_value (take l.i l.entries.items)

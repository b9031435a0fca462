use Rattle.std.proofs.Common.{◌≡◌, ◌++◌, map, take}
use Rattle.serde_json.specs.View.{view}
use Rattle.field_file.specs.Written.{call_value}
use Rattle.field_file.proofs.written.push_calls.Given as goal

-- the calls so far follow the values
abbrev pub invariant-loop-i : goal.invariant-loop-i
invariant-loop-i l = map view l.values.items ≡ map view l.fn.values.items ++ map call_value (take l.i l.calls.items)

use Rattle.std.proofs.Common.{take}
use Rattle.serde_json.specs.Data.{Data}
use Rattle.scenario_file.specs.Source.{Writes}
use Rattle.field_file.specs.Written.{with_inputs}
use Rattle.field_file.proofs.parts.add_calls.Given as goal

-- the calls so far follow the inputs
abbrev pub invariant-loop-i : goal.invariant-loop-i
invariant-loop-i l = (s : Data) → Writes l.fn.text s → Writes l.text (with_inputs (take l.i l.calls.items) s)

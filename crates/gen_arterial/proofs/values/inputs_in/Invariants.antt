use Rattle.std.proofs.Common.{◌≡◌, map, take}
use Rattle.serde_json.specs.View.{view}
use Rattle.gen_arterial.specs.Written.{input_value}
use Rattle.gen_arterial.proofs.values.inputs_in.Given as goal

-- the values so far
abbrev pub invariant-loop-input : goal.invariant-loop-input
invariant-loop-input l = map view l.values.items ≡ map input_value (take l.input-index l.inputs)

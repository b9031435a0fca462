use Rattle.std.proofs.Common.{◌≡◌, map, take}
use Rattle.serde_json.specs.View.{view}
use Rattle.gen_arterial.specs.Drawing.{setup_load_value}
use Rattle.gen_arterial.proofs.values.loads_in.Given as goal

-- the values so far
abbrev pub invariant-loop-setup : goal.invariant-loop-setup
invariant-loop-setup l = map view l.values.items ≡ map setup_load_value (take l.setup-index l.setups)

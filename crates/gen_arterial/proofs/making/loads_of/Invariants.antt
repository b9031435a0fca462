use Rattle.std.proofs.Common.{◌≡◌, map, take}
use Rattle.scenario_data.specs.Content.{load_content}
use Rattle.gen_arterial.specs.Drawing.{setup_load}
use Rattle.gen_arterial.proofs.making.loads_of.Given as goal

-- those so far
abbrev pub invariant-loop-setup : goal.invariant-loop-setup
invariant-loop-setup l = map load_content l.loads.items ≡ map setup_load (take l.setup-index l.setups)

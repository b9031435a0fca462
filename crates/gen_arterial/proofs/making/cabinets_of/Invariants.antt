use Rattle.std.proofs.Common.{◌≡◌, map, take}
use Rattle.scenario_data.specs.Content.{cabinet_content}
use Rattle.gen_arterial.specs.Drawing.{setup_cabinet}
use Rattle.gen_arterial.proofs.making.cabinets_of.Given as goal

-- those so far
abbrev pub invariant-loop-setup : goal.invariant-loop-setup
invariant-loop-setup l = map cabinet_content l.cabinets.items ≡ map setup_cabinet (take l.setup-index l.setups)

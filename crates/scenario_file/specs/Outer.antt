-- An object around a scenario, which is read name by name into parts of any kind.
use Rattle.serde_json.specs.Data.{Members}
use Rattle.scenario_file.specs.declared.left.Left.{Left}
use Rattle.scenario_file.specs.Left.{is_left, without}

-- these members were read, and the parts are those of the members whose names aren't to be read again
abbrev pub PartsSoFar : {P : Type 0} → (P → Members → Type 0) → P → Left → Members → Type 0
PartsSoFar Stand parts left ms = Stand parts (without (is_left left) ms)

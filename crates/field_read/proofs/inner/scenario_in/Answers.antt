use Rattle.std.proofs.Common.{◌≡◌, false, ◌∙◌}
use Rattle.serde_json.specs.View.{view}
use Rattle.serde_json.specs.Written.{has_float}
use Rattle.scenario_read.proofs.Compact.{faultless-floatless}
use Rattle.scenario_read.proofs.Whole.{whole-content, faultless-parts}
use Rattle.field_read.proofs.inner.scenario_in.Goals as goal

pub returns-in-Ok-clause-read : goal.returns-in-Ok-clause-read
returns-in-Ok-clause-read c =
    let d = view c.args.value.now in
    let parts = c.in_ok-parts.parts in
    let read = c.in_ok-parts.ensures in
    let plain : has_float d ≡ false = faultless-floatless d c.requires.sorted (faultless-parts d read.0).0 in (
      read.0,
      c.scenario_from.ensures.content ∙ whole-content parts c.in-Ok.compact.items d read.1 (c.in-Ok.ensures.text plain),
    )

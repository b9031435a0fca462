use Rattle.std.proofs.Common.{None, arith}
use Rattle.engine.proofs.Engine.unbound_left.Goals as goal

pub returns : goal.returns
returns g c = record {
  left = λ past k keeps a o some within.
      (c.gap_left-gap.ensures.left past None k keeps a some (omega arith), c.maximum_left.ensures.left past None k keeps.memory keeps.context o some (omega arith));
}

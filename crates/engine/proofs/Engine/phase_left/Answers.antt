use Rattle.std.proofs.Common.{arith}
use Rattle.engine.proofs.Engine.phase_left.Goals as goal

pub returns : goal.returns
returns g c = record {
  left = λ past k keeps b some within. record {
    colour = c.colour_left-colour.ensures.left past k keeps.memory keeps.context some (omega (arith, within));
    signal = c.signal_left-signal.ensures.left past k keeps.memory keeps.context some (omega (arith, within));
    unforced = λ on. c.green_left.ensures.unforced past k keeps b on some (omega (arith, within));
  };
}

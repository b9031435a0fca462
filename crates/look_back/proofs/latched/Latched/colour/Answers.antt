use Rattle.look_back.proofs.Latching.{colour-read}
use Rattle.look_back.proofs.latched.Latched.colour.Goals as goal

pub returns-clause-time : goal.returns-clause-time
returns-clause-time c = λ past now stands shown.
    rw c.colour_ticks.ensures.ticks
    (colour-read c.args.phase past now c.args.shown shown _ (stands.colours c.args.phase c.requires.above c.requires.below))

use Rattle.look_back.proofs.Latching.{signal-read}
use Rattle.look_back.proofs.latched.Latched.signal.Goals as goal

pub returns-clause-time : goal.returns-clause-time
returns-clause-time c = λ past now stands shown.
    rw c.signal_ticks.ensures.ticks
    (signal-read c.args.phase past now c.args.shown shown _ (stands.signals c.args.phase c.requires.above c.requires.below))

use Rattle.detector_bank.proofs.Taking.{Took}
use Rattle.detector_bank.proofs.watch.take_pulses.Given as goal

-- the pulses before this one were taken
abbrev pub invariant-loop-pulse : goal.invariant-loop-pulse
invariant-loop-pulse l = Took l.detector l.span l.on l.pulse-index l.taken

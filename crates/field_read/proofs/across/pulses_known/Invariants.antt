use Rattle.std.proofs.Common.{◌≡◌, []}
use Rattle.field_read.specs.Checks.{upto, pulse_fault}
use Rattle.field_read.proofs.across.pulses_known.Given as goal

-- the pulses before this one are of detectors of the bank
abbrev pub invariant-loop-place : goal.invariant-loop-place
invariant-loop-place l = upto (pulse_fault l.bank.items l.pulses.items) l.place ≡ []

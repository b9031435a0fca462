use Rattle.std.proofs.Common.{◌≡◌, ℕ, true, List, map}
use Rattle.band_report.specs.Street.{Member, all_have_cycle}
use Rattle.band_report.specs.Arcs.{signal_of}
use Rattle.band_report.proofs.Driving.{Driven}
use Rattle.band_report.proofs.arcs.arcs.Given as goal

abbrev pub invariant-loop-place : goal.invariant-loop-place
invariant-loop-place l = (n : ℕ) (ms : List Member) → l.signals.items ≡ map (signal_of n l.inbound) ms → all_have_cycle n l.cycle ms ≡ true
    → Driven n l.inbound l.travel.items l.cycle l.signals.items ms l.found.items l.place

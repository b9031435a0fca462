use Rattle.std.proofs.Common.{◌≡◌, ◌++◌, map, drop}
use Rattle.trace_text.specs.Texts.{signal_letter}
use Rattle.trace_text.proofs.words.signals.Given as goal

abbrev pub invariant-loop-signal : goal.invariant-loop-signal
invariant-loop-signal l = l.out.items ++ map signal_letter (drop l.signal-index l.ped) ≡ l.initial.out.items ++ map signal_letter l.ped

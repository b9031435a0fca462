use Rattle.std.proofs.Common.{◌≡◌, ◌+◌, length, get_or}
use Rattle.sig_types.specs.declared.frame.Ped.TheVariants.{Walk}
use Rattle.sig_types.proofs.InTurn.{InTurn}
use Rattle.look_back.specs.Latched.{SignalSteps}
use Rattle.look_back.proofs.latched.step_signals.Given as goal

abbrev pub invariant-loop-p : goal.invariant-loop-p
invariant-loop-p l = record {
  count : length l.cells ≡ 16;
  each : InTurn (λ k old new. SignalSteps old new (get_or l.before k Walk) (get_or l.shown k Walk) (k + 1) l.t) 0 l.fn.cells l.cells l.p;
}

use Rattle.std.proofs.Common.{◌≡◌, ◌+◌, length}
use Rattle.sig_types.specs.PhaseSet.{has}
use Rattle.sig_types.proofs.InTurn.{InTurn}
use Rattle.look_back.specs.Rows.{no_row, RowSteps}
use Rattle.look_back.proofs.long_counts.step_inputs.Given as goal

abbrev pub invariant-loop-i : goal.invariant-loop-i
invariant-loop-i l = record {
  count : length l.inputs ≡ 8;
  each : InTurn (λ k old new. RowSteps old new (has l.on (k + 1))) no_row l.fn.inputs l.inputs l.i;
}

use Rattle.std.proofs.Common.{ℕ, ◌≡◌, ◌*◌}
use Rattle.gen_arterial.specs.Generated.{round_place, all_inputs, all_faults}
use Rattle.gen_arterial.specs.Drawing.{IsAt}
use Rattle.gen_arterial.proofs.drawing.draw_rounds.Given as goal

-- what happens in the rounds so far was drawn
abbrev pub invariant-loop-done : goal.invariant-loop-done
invariant-loop-done l = record {
  inputs : (seed : ℕ) → IsAt l.fn.draws seed (4 * l.cabinets) → l.inputs.items ≡ all_inputs seed l.cabinets l.done;
  faults : (seed : ℕ) → IsAt l.fn.draws seed (4 * l.cabinets) → l.faults.items ≡ all_faults seed l.cabinets l.done;
  place : (seed : ℕ) → IsAt l.fn.draws seed (4 * l.cabinets) → IsAt l.draws seed (round_place seed l.cabinets l.done);
}

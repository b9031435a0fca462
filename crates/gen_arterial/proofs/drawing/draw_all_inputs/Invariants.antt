use Rattle.std.proofs.Common.{ℕ, ◌≡◌, ◌+◌, ◌*◌, ◌++◌}
use Rattle.gen_arterial.specs.Generated.{round_inputs}
use Rattle.gen_arterial.specs.Drawing.{IsAt}
use Rattle.gen_arterial.proofs.drawing.draw_all_inputs.Given as goal

-- the inputs of the cabinets so far were drawn
abbrev pub invariant-loop-before : goal.invariant-loop-before
invariant-loop-before l = record {
  inputs : (seed place : ℕ) → IsAt l.fn.draws seed place → l.inputs.items ≡ l.fn.inputs.items ++ round_inputs seed l.round place l.before;
  place : (seed place : ℕ) → IsAt l.fn.draws seed place → IsAt l.draws seed (place + 3 * l.before);
}

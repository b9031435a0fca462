use Rattle.std.proofs.Common.{ℕ, ◌≡◌, ◌*◌}
use Rattle.gen_arterial.specs.Generated.{each_below}
use Rattle.gen_arterial.specs.Drawing.{IsAt, setup_made}
use Rattle.gen_arterial.proofs.drawing.draw_setups.Given as goal

-- what the cabinets so far are set up with was drawn
abbrev pub invariant-loop-before : goal.invariant-loop-before
invariant-loop-before l = record {
  setups : (seed : ℕ) → IsAt l.fn.draws seed 0 → l.setups.items ≡ each_below (setup_made seed l.rounds) l.before;
  place : (seed : ℕ) → IsAt l.fn.draws seed 0 → IsAt l.draws seed (4 * l.before);
}

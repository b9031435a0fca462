use Rattle.std.proofs.Common.{◌≡◌, ℕ, ◌-◌, ◌+◌, ◌/◌, ◌<◌, false, length, arith}
use Rattle.detector_bank.proofs.Sorting.{below-place}
use Rattle.detector_bank.proofs.pulses.first_at.Goals as goal

below : {a b n : ℕ} → a ≡ b → a < n → b < n
below e h = omega (arith, e, h)

pub loop-low-preserved-then-key-number : goal.loop-low-preserved-then-key-number
loop-low-preserved-then-key-number c =
    let l = c.loop-low in
    let inside : l.low + (l.high - l.low) / 2 < length c.args.sorted.now = omega arith in record {
      order = omega arith;
      within = l.invariant.within;
      before = λ rises.
          let is = c.key.ensures in
          let less = c.if-key-number.true in
          below-place c.args.sorted.now (l.low + (l.high - l.low) / 2) c.args.number (record { round = 0; cabinet = 0; detector = 0; on = false }) rises inside (below is less);
    }

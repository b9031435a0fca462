use Rattle.std.proofs.Common.{◌≡◌}
use Rattle.responsive.specs.Level.{down_met, greatest}
use Rattle.responsive.proofs.highest_down.Given as goal

-- the highest level so far
abbrev pub invariant-loop-i : goal.invariant-loop-i
invariant-loop-i l = l.found ≡ greatest (down_met l.volume) l.steps l.i

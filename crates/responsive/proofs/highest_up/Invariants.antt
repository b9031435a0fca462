use Rattle.std.proofs.Common.{◌≡◌, ◌≤◌}
use Rattle.responsive.specs.Level.{up_met, greatest}
use Rattle.responsive.proofs.highest_up.Given as goal

-- the highest level so far
abbrev pub invariant-loop-i : goal.invariant-loop-i
invariant-loop-i l = record { few : l.found ≤ l.i; found : l.found ≡ greatest (up_met l.volume) l.steps l.i }

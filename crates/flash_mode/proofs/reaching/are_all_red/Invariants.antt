use Rattle.std.proofs.Common.{◌≡◌, ◌<◌, ℕ, true, get_or}
use Rattle.sig_types.specs.declared.frame.Colour.TheVariants.{Green, Red}
use Rattle.sig_types.specs.Colour.{same_colour}
use Rattle.flash_mode.proofs.reaching.are_all_red.Given as goal

-- the colours so far are Red
abbrev pub invariant-loop-p : goal.invariant-loop-p
invariant-loop-p l = (k : ℕ) → k < l.p → same_colour (get_or l.veh k Green) Red ≡ true

use Rattle.std.proofs.Common.{◌≡◌, drop}
use Rattle.overlap_run.specs.Rules.{first_short}
use Rattle.overlap_run.proofs.rules.short_parent.Given as goal

-- none of the parents before this place is too short
abbrev pub invariant-loop-parent : goal.invariant-loop-parent
invariant-loop-parent l = first_short l.tables l.time (drop l.parent-index l.parents) ≡ first_short l.tables l.time l.parents

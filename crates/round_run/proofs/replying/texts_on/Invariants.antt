use Rattle.std.proofs.Common.{◌≡◌, ◌++◌, drop}
use Rattle.sig_types.specs.Items.{texts_of}
use Rattle.sig_types.specs.Passes.{pass_of}
use Rattle.round_run.proofs.Texts.{left_on}
use Rattle.round_run.proofs.replying.texts_on.Given as goal

-- the texts of the replies from this place on come after those so far
abbrev pub invariant-loop-answered : goal.invariant-loop-answered
invariant-loop-answered l = texts_of l.texts.items ++ left_on (pass_of l.way) (drop l.answered-index l.replies) ≡ left_on (pass_of l.way) l.replies

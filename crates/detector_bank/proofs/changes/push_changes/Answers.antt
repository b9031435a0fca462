use Rattle.std.proofs.Common.{◌≡◌, ◌++◌, ap, ◌∙◌, arith}
use Rattle.detector_bank.specs.Lists.{cabinet_changes, round_changes}
use Rattle.detector_bank.proofs.changes.push_changes.Goals as goal

pub returns : goal.returns
unfolding round_changes
returns c = λ ds ps j r a b.
    let whole : c.loop-done.done ≡ 64 = omega arith in
    c.loop-done.invariant ds ps j r a b ∙ ap (λ n. c.args.calls.now.items ++ cabinet_changes ds ps j n) whole

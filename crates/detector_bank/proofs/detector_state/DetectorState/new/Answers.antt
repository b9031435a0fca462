use Rattle.std.proofs.Common.{refl, subst}
use Rattle.detector_bank.specs.Watching.{Before}
use Rattle.detector_bank.proofs.Posting.{posted-start}
use Rattle.detector_bank.proofs.detector_state.DetectorState.new.Goals as goal

pub returns-clause-stands : goal.returns-clause-stands
returns-clause-stands c = λ ps sorts.
    posted-start _ c.args.sorted.now c.args.detector.now ps (c.new.ensures c.args.detector.now ps sorts.few)
    (subst (λ n. Before c.args.sorted.now c.first_at.result n) c.key_of-first.ensures.is (c.first_at.ensures sorts.rises)) refl

use Rattle.std.proofs.Common.{refl, arith}
use Rattle.detector_bank.proofs.Posting.{posted-step}
use Rattle.detector_bank.proofs.detector_state.DetectorState.step.Goals as goal

pub returns : goal.returns
returns c = λ ps due j is sorts h.
    let from = c.place_at-from in
    let end = c.place_at-end in
    let least = c.min.ensures in
    posted-step c.args.self.now _ due c.due.result c.round_at-pulse.result _ c.args.sorted.now c.args.detector.now ps j c.args.round c.key_of-now.result from.result end.result
    is c.key_of-now.ensures.is sorts h (end.ensures.front from.ensures.within) end.ensures.within from.ensures.before end.ensures.before
    (λ p low. from.ensures.stop p low) (λ p low. end.ensures.stop p low) c.round_at-pulse.ensures
    (λ own w. c.step.ensures ps j is own w) refl (λ w. c.calls-self.ensures ps w) (λ i w v up low. c.due.ensures ps i w v up low) (omega (arith, least)) (omega (arith, least))

use Rattle.detector_bank.proofs.Walking.{looks-quiet}
use Rattle.detector_bank.proofs.walk.call_at.Goals as goal

pub returns-then-index-round-clause-looks : goal.returns-then-index-round-clause-looks
returns-then-index-round-clause-looks c =
    looks-quiet c.args.walk.now c.args.detector.now c.args.k c.args.round c.index.result.now c.requires.dues c.index.ensures c.if-index-round.true

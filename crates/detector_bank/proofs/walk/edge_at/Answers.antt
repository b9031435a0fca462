use Rattle.std.proofs.Common.{◌++◌, sym, ap, ◌∙◌, append-nil}
use Rattle.detector_bank.proofs.Walking.{looks-quiet, quiet-edge}
use Rattle.detector_bank.proofs.walk.edge_at.Goals as goal

pub returns-then-index-round-clause-looks : goal.returns-then-index-round-clause-looks
returns-then-index-round-clause-looks c =
    looks-quiet c.args.walk.now c.args.detector.now c.args.k c.args.round c.index.result.now c.requires.dues c.index.ensures c.if-index-round.true

pub returns-then-index-round-clause-edges : goal.returns-then-index-round-clause-edges
returns-then-index-round-clause-edges c = λ ps j p is sorts h.
    sym (append-nil c.args.edges.now.items)
    ∙ ap (λ es. c.args.edges.now.items ++ es)
    (sym (quiet-edge c.args.walk.now c.args.detector.now c.args.k c.args.round c.index.result.now c.requires.dues c.index.ensures c.if-index-round.true ps j p is h))

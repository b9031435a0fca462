use Rattle.std.proofs.Common.{◌<◌, ◌++◌, length, ap, ◌∙◌, arith}
use Rattle.detector_bank.specs.Lists.{edge_of}
use Rattle.detector_bank.proofs.Ordering.{edges-next, edges-done}
use Rattle.detector_bank.proofs.Walking.{walked-next, walked-all, walked-before, walked-sorts, no-detector_state}
use Rattle.detector_bank.proofs.walk.edge_round.Goals as goal

pub loop-k-preserved : goal.loop-k-preserved
loop-k-preserved c =
    let l = c.loop-k in
    let ds = c.args.bank.now.items in
    let e = c.index.result.now in
    let inside : l.k < length ds = omega arith in
    let w = l.invariant.walked in record {
      walked = walked-next c.args.walk.now l.walk c.edge_at.new.walk ds c.args.round l.k e inside c.index.ensures w c.in_ok-edge_at.ensures.looks;
      edges = λ ps j is h.
          edges-next ps c.args.round ds l.k e _ l.edges.items c.edge_at.new.edges.items inside
          (c.in_ok-edge_at.ensures.edges ps j no-detector_state is (walked-sorts c.args.walk.now l.walk ds c.args.round l.k w ps j h)
          (walked-before c.args.walk.now l.walk ds c.args.round l.k e inside c.index.ensures w ps j no-detector_state h) ∙ ap (λ f. l.edges.items ++ edge_of ps c.args.round f) c.index.ensures)
          (l.invariant.edges ps j is h);
    }

pub returns-clause-stands : goal.returns-clause-stands
returns-clause-stands c = walked-all c.args.walk.now c.loop-k.walk c.args.bank.now.items c.args.round c.loop-k.k (omega arith) c.loop-k.invariant.walked

pub returns-clause-edges : goal.returns-clause-edges
returns-clause-edges c = λ ps j is h.
    edges-done ps c.args.round c.args.bank.now.items c.loop-k.k _ c.loop-k.edges.items (omega arith) (c.loop-k.invariant.edges ps j is h)

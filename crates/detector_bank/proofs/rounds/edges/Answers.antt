use Rattle.std.proofs.Common.{◌+◌, ◌++◌, refl, ap, ◌∙◌}
use Rattle.detector_bank.specs.Lists.{round_edges}
use Rattle.detector_bank.proofs.Ordering.{edges-more}
use Rattle.detector_bank.proofs.rounds.edges.Goals as goal

pub loop-done-preserved : goal.loop-done-preserved
loop-done-preserved c =
    let l = c.loop-done in
    let ps = c.args.pulses.now.items in
    let ds = c.in_ok-ordered.ordered.items in
    let e = c.in_ok-edge_round.ensures in record {
      fits = e.fits;
      stands = e.stands ps l.done refl l.invariant.stands;
      edges = e.edges ps l.done refl l.invariant.stands ∙ ap (λ es. es ++ round_edges ps (l.done + 1) ds) l.invariant.edges ∙ edges-more ds ps l.done;
    }

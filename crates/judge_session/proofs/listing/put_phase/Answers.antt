use Rattle.judge_session.proofs.Adding.{adds-then, if-ok-then}
use Rattle.judge_session.proofs.listing.put_phase.Goals as goal

pub returns : goal.returns
returns c = if-ok-then _ _ c.put_if-6.result (λ now last.
    adds-then _ _ _ _ _ _ _ _ (c.in_ok-pairs.ensures {u = tt})
    (adds-then _ _ _ _ _ _ _ _ (c.in_ok-lit.ensures {u = tt})
    (adds-then _ _ _ _ _ _ _ _ (c.in_ok-order.ensures {u = tt})
    (adds-then _ _ _ _ _ _ _ _ (c.in_ok-clear.ensures {u = tt})
    (adds-then _ _ _ _ _ _ _ _ (c.in_ok-green.ensures {u = tt})
    (adds-then _ _ _ _ _ _ _ _ (c.in_ok-walk.ensures {u = tt}) last)))))) c.put_if-6.ensures

use Rattle.sig_tables.specs.View.{is_wanted, is_startable}
use Rattle.ring_barrier.proofs.Sets.{has-meet}
use Rattle.ring_barrier.proofs.beginning.beginners.Goals as goal

pub returns : goal.returns
returns c = λ w s.
    has-meet c.args.view.now.wanted c.args.view.now.rings.startable c.meet.result (is_wanted w 0) (is_startable w) c.meet.ensures.has
    s.wanted s.rings.startable

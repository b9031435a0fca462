use Rattle.std.proofs.Common.{None}
use Rattle.sig_types.specs.Phases.{is_in}
use Rattle.tick_context.specs.Lasting.{opposed_with}
use Rattle.engine.proofs.Engine.stays_at_free.Goals as goal

pub returns-then-is_left_free-clause-free : goal.returns-then-is_left_free-clause-free
returns-then-is_left_free-clause-free g c = λ past k fresh o t.
    c.is_left_free.ensures.free past k.context fresh c.if-is_left_free.true
    (λ p h. c.is_uncalled.ensures.walks past (is_in (opposed_with None past)) p k o t h)

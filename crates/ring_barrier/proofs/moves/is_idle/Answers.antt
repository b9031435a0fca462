use Rattle.std.proofs.Common.{false}
use Rattle.ring_barrier.proofs.Views.{open-first, open-second, neither-in, neither-empty}
use Rattle.ring_barrier.proofs.Entering.{idle-moves}
use Rattle.ring_barrier.proofs.moves.is_idle.Goals as goal

pub returns-clause-each : goal.returns-clause-each
returns-clause-each c = λ one two none unforced.
    c.is_empty.ensures.empty.1 (neither-empty c.args.done c.args.forced c.union.result c.union.ensures.has none unforced)

pub returns-clause-idle : goal.returns-clause-idle
returns-clause-idle c = λ w o d f t.
    let neither = neither-in w c.args.done c.args.forced c.union.result d f c.union.ensures.has (c.is_empty.ensures.empty.0 t) in
    idle-moves w (open-first _ w false o c.if-opening.false) (open-second _ w false o c.if-opening-2.false)
    (λ q. (neither q).0) (λ q. (neither q).1)

use Rattle.std.proofs.Common.{◌+◌, arith, length-append, length-take}
use Rattle.station.proofs.Reading.{stopped_at}
use Rattle.station.proofs.bytes.read_all.Goals as goal

pub returns-then-len-limit-clause-stopped : goal.returns-then-len-limit-clause-stopped
returns-then-len-limit-clause-stopped g c = λ _.
    stopped_at _ _ _ c.loop-count.bytes.items _ (c.args.limit + 1) c.loop-count.invariant.split c.in-Ok.ensures.ok
    (grind (arith, length-append, length-take, c.in-Ok.ensures.count, c.in-Ok.ensures.most))

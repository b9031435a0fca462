use Rattle.std.proofs.Common.{arith}
use Rattle.scenario_read.specs.Kinds.{whole}
use Rattle.scenario_read.specs.Content.{whole_of}
use Rattle.scenario_read.proofs.Walks.{Walked-refused}
use Rattle.band_report.proofs.asked.legs_in.Goals as goal

pub returns-in-Err : goal.returns-in-Err
returns-in-Err c =
    let l = c.loop-place in
    Walked-refused (whole 0 864000) _ whole_of c.args.items.now.items l.found.items l.place c.index.result.now c.in-Err.fail
    (omega arith) (rw (← c.index.ensures) c.in-Err.ensures) l.invariant

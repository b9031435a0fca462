use Rattle.std.proofs.Common.{◌+◌, ◌*◌}
use Rattle.cab_row.proofs.worker.+start.Given as goal

abbrev pub decreases-work_beside-join+arg3 : goal.decreases-work_beside-join+arg3
decreases-work_beside-join+arg3 g l = 3 * l.others.len + 1

abbrev pub decreases-work_beside : goal.decreases-work_beside
decreases-work_beside g l = 3 * l.others.len + 2

abbrev pub decreases-work_from : goal.decreases-work_from
decreases-work_from g l = 3 * l.workers.len

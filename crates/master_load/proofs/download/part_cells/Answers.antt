use Rattle.std.proofs.Common.{◌≡◌, ◌-◌, ◌*◌, length, min, arith}
use Rattle.master_load.proofs.Places.{part_is}
use Rattle.master_load.proofs.download.part_cells.Goals as goal

pub returns-clause-part : goal.returns-clause-part
returns-clause-part c =
    let first : c.min-first.result ≡ min (length c.args.cells.now) (24 * (c.args.part - 1)) = omega arith in
    part_is c.args.cells.now (24 * (c.args.part - 1)) c.min-first.result c.min-last.result first c.min-last.ensures

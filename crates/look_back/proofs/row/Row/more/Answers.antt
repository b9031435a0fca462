use Rattle.std.proofs.Common.{arith}
use Rattle.look_back.proofs.Again.{row-again}
use Rattle.look_back.proofs.row.Row.more.Goals as goal

pub returns : goal.returns
returns c = λ test past ms stands few all.
    row-again c.args.self _ c.args.ticks test ms past (omega (arith, c.saturating_add.ensures)) few all stands

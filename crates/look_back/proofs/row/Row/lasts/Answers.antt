use Rattle.std.proofs.Common.{arith}
use Rattle.look_back.specs.Rows.{most}
use Rattle.look_back.proofs.Lasts.{row-lasts}
use Rattle.look_back.proofs.row.Row.lasts.Goals as goal

pub returns : goal.returns
returns c = λ test past stands. rw stands (row-lasts c.args.frames most test past (omega arith))

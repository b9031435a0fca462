use Rattle.std.proofs.Common.{arith}
use Rattle.std.proofs.lemmas.Grind.{common_steps}
use Rattle.requests.proofs.Readings.{read_is}
use Rattle.requests.proofs.message.Goals as goal

pub returns : goal.returns
returns c =
    let is = read_is c.as_slice.result.now c.read.result c.read.ensures.found c.read.ensures.none in
    grind (arith, is, common_steps)

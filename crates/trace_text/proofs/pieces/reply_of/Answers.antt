use Rattle.std.proofs.Common.{arith}
use Rattle.std.proofs.lemmas.Grind.{common_steps}
use Rattle.trace_text.proofs.Octets.{dash_reads}
use Rattle.trace_text.proofs.pieces.reply_of.Goals as goal

pub returns-in-45 : goal.returns-in-45
returns-in-45 c = dash_reads _ (grind (arith, common_steps))

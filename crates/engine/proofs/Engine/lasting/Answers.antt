use Rattle.std.proofs.Common.{arith}
use Rattle.engine.proofs.Engine.lasting.Goals as goal

pub returns-clause-lasts : goal.returns-clause-lasts
returns-clause-lasts g c = λ past k bound fresh beside looks some.
    c.all_left-left.ensures.lasts past c.even.result k bound fresh (c.even.ensures.even some) beside looks some (omega (arith, c.even.ensures.within))

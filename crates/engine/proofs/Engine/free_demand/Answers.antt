use Rattle.std.proofs.Common.{None}
use Rattle.engine.proofs.Engine.free_demand.Goals as goal

pub returns : goal.returns
returns g c = record { demand = λ past k. c.demand.ensures.demand None past k.context.calls k.context.layout tt k.shown.red }

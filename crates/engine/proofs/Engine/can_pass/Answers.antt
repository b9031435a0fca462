use Rattle.engine.proofs.Engine.can_pass.Goals as goal

pub returns-else-not-is_idle-clause-bound : goal.returns-else-not-is_idle-clause-bound
returns-else-not-is_idle-clause-bound g c = λ past k t. c.is_bound.ensures.bound past k.context t

pub returns-else-not-is_idle-clause-beside : goal.returns-else-not-is_idle-clause-beside
returns-else-not-is_idle-clause-beside g c = λ past k t. c.is_beside.ensures.beside past k.memory c.if-not-is_beside.false

pub returns-else-not-is_idle-clause-idle : goal.returns-else-not-is_idle-clause-idle
returns-else-not-is_idle-clause-idle g c = λ t. c.is_idle.ensures c.if-not-is_idle.false

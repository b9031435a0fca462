use Rattle.engine.proofs.Engine.follow.Goals as goal

pub returns-clause-keeps : goal.returns-clause-keeps
returns-clause-keeps g c = λ past k. record {
  context = c.follow.ensures.stands past k.context;
  memory = k.memory;
  shown = k.shown;
  walking = k.walking;
  signalling = k.signalling;
}

pub returns-clause-bound : goal.returns-clause-bound
returns-clause-bound g c = λ past k e. c.follow.ensures.bound past k.context e

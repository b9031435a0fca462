use Rattle.observer.specs.Inputs.{turned-on}
use Rattle.observer.proofs.LookingBackMemory.input.Goals as goal

pub returns-clause-remembers : goal.returns-clause-remembers
returns-clause-remembers c = λ past k. record {
  inputs = turned-on _ _ past c.args.number c.args.on k.inputs c.turned-self.ensures;
  frame_history = k.frame_history;
  frames = k.frames;
  within = k.within;
}

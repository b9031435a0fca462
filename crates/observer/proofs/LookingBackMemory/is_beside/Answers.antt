use Rattle.observer.specs.Inputs.{none-on}
use Rattle.observer.proofs.LookingBackMemory.is_beside.Goals as goal

pub returns : goal.returns
returns c = record { beside = λ past k t. none-on c.args.self.now.inputs past k.inputs (c.is_empty.ensures.empty.0 t) }

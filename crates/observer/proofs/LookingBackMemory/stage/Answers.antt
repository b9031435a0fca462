use Rattle.preempt_stages.specs.Inputs.{preempts_seen}
use Rattle.preempt_stages.proofs.Inputs.{none-beyond}
use Rattle.observer.proofs.LookingBackMemory.stage.Goals as goal

pub returns : goal.returns
returns c = record {
  stage = λ past k x. c.stage.ensures past.moments (preempts_seen past) k.frame_history x.frame k.inputs (none-beyond past);
}

use Rattle.controller.proofs.RegistersMemory.stage.Goals as goal

pub returns : goal.returns
returns c = record { stage = λ past k x. c.stage.ensures.stage past k.preempts x.frame }

use Rattle.engine.proofs.Engine.go_on.Goals as goal

pub returns-clause-given : goal.returns-clause-given
returns-clause-given g c = λ past r s. (c.next_frame-next.ensures.given past r s).frame

pub returns-clause-keeps : goal.returns-clause-keeps
returns-clause-keeps g c = λ past r s. c.keep.ensures.keeps past r s (c.next_frame-next.ensures.given past r s)

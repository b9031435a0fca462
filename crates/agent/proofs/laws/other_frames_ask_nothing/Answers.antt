use Rattle.agent.proofs.Readings.{nothing_asked, nothing_else}
use Rattle.agent.proofs.laws.other_frames_ask_nothing.Goals as goal

pub returns-clause-nothing : goal.returns-clause-nothing
returns-clause-nothing c = nothing_asked

pub returns-clause-others : goal.returns-clause-others
returns-clause-others c = nothing_else

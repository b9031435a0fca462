use Rattle.run_definition.proofs.LaterRequests.{needs-no-more}
use Rattle.run_definition.proofs.sessions.answers_need_no_more.Goals as goal

pub returns : goal.returns
returns c = needs-no-more

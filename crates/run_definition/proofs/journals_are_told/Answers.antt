use Rattle.run_definition.proofs.Journals.{journals-told}
use Rattle.run_definition.proofs.journals_are_told.Goals as goal

pub returns : goal.returns
returns c = journals-told

use Rattle.run_definition.proofs.More.{fronts-more, continued}
use Rattle.run_definition.proofs.rounds_only_add.Goals as goal

pub returns-clause-adds : goal.returns-clause-adds
returns-clause-adds c = fronts-more

pub returns-clause-continued : goal.returns-clause-continued
returns-clause-continued c = continued

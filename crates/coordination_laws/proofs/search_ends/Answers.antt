use Rattle.coordination_laws.proofs.Searching.{search-begins, search-step, search-ends}
use Rattle.coordination_laws.proofs.search_ends.Goals as goal

pub returns-clause-begins : goal.returns-clause-begins
returns-clause-begins c = search-begins

pub returns-clause-step : goal.returns-clause-step
returns-clause-step c = search-step

pub returns-clause-ends : goal.returns-clause-ends
returns-clause-ends c = search-ends

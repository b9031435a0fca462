use Rattle.master_rounds.proofs.Counts.{turns_counted, polls_counted, loads_counted, are_delivered}
use Rattle.master_rounds.proofs.rounds.rounds_close.Goals as goal

pub returns-clause-turns : goal.returns-clause-turns
returns-clause-turns c = turns_counted

pub returns-clause-polls : goal.returns-clause-polls
returns-clause-polls c = polls_counted

pub returns-clause-loads : goal.returns-clause-loads
returns-clause-loads c = loads_counted

pub returns-clause-delivered : goal.returns-clause-delivered
returns-clause-delivered c = are_delivered

use Rattle.master_rounds.proofs.Lines.{carries_few}
use Rattle.master_rounds.proofs.Short.{round_is_short}
use Rattle.master_rounds.proofs.rounds_are_short.Goals as goal

pub returns-clause-carried : goal.returns-clause-carried
returns-clause-carried c = carries_few

pub returns-clause-streams : goal.returns-clause-streams
returns-clause-streams c = round_is_short

use Rattle.agent.proofs.Readings.{asked_read, read_asked}
use Rattle.agent.proofs.laws.frames_ask_one_thing.Goals as goal

pub returns-clause-read : goal.returns-clause-read
returns-clause-read c = asked_read

pub returns-clause-found : goal.returns-clause-found
returns-clause-found c = read_asked

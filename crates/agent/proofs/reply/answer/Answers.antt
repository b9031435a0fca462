use Rattle.agent.proofs.Asked.{bad_small}
use Rattle.agent.proofs.reply.answer.Goals as goal

pub repeated-requires-clause-few_statuses : goal.repeated-requires-clause-few_statuses
repeated-requires-clause-few_statuses c = (bad_small c.args.ask.now c.in-Bad.status c.in-Bad.index c.requires.asked c.in-Bad.is).0

pub repeated-requires-clause-few_places : goal.repeated-requires-clause-few_places
repeated-requires-clause-few_places c = (bad_small c.args.ask.now c.in-Bad.status c.in-Bad.index c.requires.asked c.in-Bad.is).1

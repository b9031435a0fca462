use Rattle.message_lines.proofs.Answered.{of_found, of_nothing}
use Rattle.message_lines.proofs.line.line_of_octets.Goals as goal

pub returns-in-Some-clause-message : goal.returns-in-Some-clause-message
returns-in-Some-clause-message c = of_found (λ line. line.items) c.args.octets.now c.in-Some.m c.in-Some.ensures.each c.line_of_message.result c.line_of_message.ensures

pub returns-in-None-clause-message : goal.returns-in-None-clause-message
returns-in-None-clause-message c = of_nothing (λ line. line.items) c.args.octets.now c.in-None.ensures.none c.none.result

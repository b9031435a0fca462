use Rattle.std.proofs.Common.{map, string_bytes}
use Rattle.command_words.specs.declared.command.Command.TheVariants.{Check}
use Rattle.station.proofs.Telling.{one_command, never_usage, found_answers, none_answers, found_unread}
use Rattle.station.proofs.top.station.Goals as goal

pub answer-requires-clause-asked : goal.answer-requires-clause-asked
answer-requires-clause-asked g c κs within =
    (map string_bytes c.args.words.now.items, (c.command_of.ensures c.in-Some.command).0 c.in-Some.is)

pub returns-in-Some-clause-usage : goal.returns-in-Some-clause-usage
returns-in-Some-clause-usage g c = (
  λ e. absurd (never_usage _ _ c.in-Some.command c.answer.ensures.answered e),
  λ never. absurd (never (c.in-Some.command, (c.command_of.ensures c.in-Some.command).0 c.in-Some.is)),
)

pub returns-in-Some-clause-untouched : goal.returns-in-Some-clause-untouched
returns-in-Some-clause-untouched g c = λ e. absurd (never_usage _ _ c.in-Some.command c.answer.ensures.answered e)

pub returns-in-Some-clause-unread : goal.returns-in-Some-clause-unread
returns-in-Some-clause-unread g c = λ none. c.answer.ensures.unread (found_unread _ _ c.in-Some.command c.in-Some.is c.command_of.ensures none)

pub returns-in-Some-clause-unwritten : goal.returns-in-Some-clause-unwritten
returns-in-Some-clause-unwritten g c = λ is.
    c.answer.ensures.unwritten (one_command _ c.in-Some.command Check c.in-Some.is ((c.command_of.ensures Check).1 is))

pub returns-in-Some-clause-answers : goal.returns-in-Some-clause-answers
returns-in-Some-clause-answers g c = found_answers _ _ _ _ c.in-Some.command c.in-Some.is c.command_of.ensures c.answer.ensures.answered

pub returns-in-None-clause-answers : goal.returns-in-None-clause-answers
returns-in-None-clause-answers g c = none_answers _ _ _ c.in-None.is c.command_of.ensures

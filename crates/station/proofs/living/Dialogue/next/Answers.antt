use Rattle.session_words.specs.Unread.{unread, PassesLong}
use Rattle.station.proofs.Sessions.{answers_long}
use Rattle.station.proofs.living.Dialogue.next.Goals as goal

pub returns-in-Ok-Long-clause-next : goal.returns-in-Ok-Long-clause-next
returns-in-Ok-Long-clause-next g c =
    let passes : PassesLong (unread c.args.self.now.reader (g.S.Source.left c.args.source.now)) (unread c.next_line.new.reader (g.S.Source.left c.next_line.new.source)) =
    rw c.in-Ok-Long.field-0-is at c.in-Ok-Long.ensures.next in
    rw c.answer_long.ensures.reader (answers_long c.answer_long.result _ _ _ _ _ passes c.answer_long.ensures.answers)

use Rattle.std.proofs.Common.{◌≤◌, length, refl, false}
use Rattle.session_words.specs.Unread.{given_line, unread, GivesLine, PassesLong}
use Rattle.station.proofs.LogReports.{judged_line, next_long, refuses_given}
use Rattle.station.proofs.judging.Hearing.next.Goals as goal

pub returns-in-Ok-Line-clause-next : goal.returns-in-Ok-Line-clause-next
returns-in-Ok-Line-clause-next g c =
    let line = given_line c.next_line.new.reader in
    let gives : GivesLine (unread c.args.self.now.reader (g.S.Source.left c.args.source.now)) (unread c.next_line.new.reader (g.S.Source.left c.next_line.new.source)) line × (length line ≤ 4096) =
    rw c.in-Ok-Line.field-0-is at c.in-Ok-Line.ensures.next in
    rw c.judge_line.ensures.reader
    (judged_line c.judge_line.result c.args.self.now.judge c.judge_line.new.self.judge _ _ line c.judge_line.new.self.report.items gives.0 gives.1 c.judge_line.ensures.over c.judge_line.ensures.taken)

pub returns-in-Ok-Line-clause-failed : goal.returns-in-Ok-Line-clause-failed
returns-in-Ok-Line-clause-failed g c = λ status e.
    let line = given_line c.next_line.new.reader in
    let gives : GivesLine (unread c.args.self.now.reader (g.S.Source.left c.args.source.now)) (unread c.next_line.new.reader (g.S.Source.left c.next_line.new.source)) line × (length line ≤ 4096) =
    rw c.in-Ok-Line.field-0-is at c.in-Ok-Line.ensures.next in
    rw c.judge_line.ensures.reader (refuses_given status c.args.number _ c.args.self.now.judge _ _ line gives.0 gives.1 (c.judge_line.ensures.failed status e))

pub returns-in-Ok-Long-clause-next : goal.returns-in-Ok-Long-clause-next
returns-in-Ok-Long-clause-next g c = λ s terms before stands.
    let passes : PassesLong (unread c.args.self.now.reader (g.S.Source.left c.args.source.now)) (unread c.next_line.new.reader (g.S.Source.left c.next_line.new.source)) =
    rw c.in-Ok-Long.field-0-is at c.in-Ok-Long.ensures.next in
    next_long s terms before c.args.self.now.judge _ _ c.clear.new.self.items false passes stands c.clear.ensures.items refl

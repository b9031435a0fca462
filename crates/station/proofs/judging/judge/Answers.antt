use Rattle.std.proofs.Common.{◌≡◌, refl, sym, ap, subst, List, ℕ, Option, Err}
use Rattle.scenario_data.specs.Content.{scenario_content}
use Rattle.scenario_data.specs.declared.refusal.Refusal.{Refusal}
use Rattle.trace_writer.proofs.Handed.{rises_later}
use Rattle.session_words.specs.Unread.{unread}
use Rattle.station.specs.Io.{Io, io_of}
use Rattle.station.specs.Judged.{JudgeAnswer}
use Rattle.station.specs.Judging.{IsJudging}
use Rattle.station.specs.declared.status.Status.TheVariants.{Scenario}
use Rattle.station.proofs.JudgeDue.{judge_answer}
use Rattle.station.proofs.LogReports.{at_head, ends_judged}
use Rattle.station.proofs.judging.judge.Goals as goal

pub returns-in-Err-Refused-clause-answered : goal.returns-in-Err-Refused-clause-answered
returns-in-Err-Refused-clause-answered g c =
    let used : Io = io_of g.S.Source.left g.S.Source.faults g.K.Sink.written g.K.Sink.faults c.args.source.now c.head.new.source c.args.sink.now c.args.sink.now in
    subst (λ (r : Refusal). JudgeAnswer c.args.terms (Scenario r) used) (sym c.in-Err-Refused.refusal-is)
    (judge_answer c.args.terms (Scenario c.in-Err-Refused.refusal) used.left used.ends used.unread used.old used.new used.unwritten
    (c.in-Err-Refused.ensures.refused c.in-Err-Refused.refusal (ap Err c.in-Err-Refused.field-0-is), refl))

pub returns-clause-answered : goal.returns-clause-answered
returns-clause-answered g c =
    let s = scenario_content c.in-Ok-head.scenario in
    let left : Option (List ℕ) = g.S.Source.left c.args.source.now in
    let behind : Option (List ℕ) = unread c.head.new.reader (g.S.Source.left c.head.new.source) in
    let ahead : Option (List ℕ) = unread c.in-Ok-opened.hearing.reader (g.S.Source.left c.head.new.source) in
    let same : ahead ≡ behind = ap (λ r. unread r (g.S.Source.left c.head.new.source)) c.in-Ok-opened.ensures.reader in
    let is : IsJudging left ahead (g.K.Sink.written c.args.sink.now) (g.K.Sink.written c.args.sink.now) s c.args.terms c.in-Ok-opened.hearing.judge 2 =
    at_head left ahead behind _ s c.args.terms c.in-Ok-opened.hearing.judge c.in-Ok-head.ensures.read same c.in-Ok-opened.ensures.stands in
    judge_answer c.args.terms c.go_on.result _ _ _ _ _ _
    (ends_judged c.args.terms c.go_on.result left _ _ _ _ _ _ _ s c.in-Ok-head.ensures.read.head (rises_later _ _ _ c.head.ensures.kept) (λ more. more)
    (c.go_on.ensures.ends left _ s c.args.terms is))

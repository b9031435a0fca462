use Rattle.std.proofs.Common.{◌≡◌, refl, sym, ap, subst, List, ℕ, Option, Err}
use Rattle.scenario_data.specs.Content.{scenario_content}
use Rattle.scenario_data.specs.declared.refusal.Refusal.{Refusal}
use Rattle.trace_writer.proofs.Handed.{rises_later}
use Rattle.session_words.specs.Unread.{unread}
use Rattle.run_definition.specs.Session.{opened_session}
use Rattle.station.specs.Io.{Io, io_of}
use Rattle.station.specs.Lived.{LiveAnswer}
use Rattle.station.specs.Living.{IsAnswering}
use Rattle.station.specs.declared.status.Status.TheVariants.{Scenario}
use Rattle.station.proofs.LiveDue.{live_answer}
use Rattle.station.proofs.Sessions.{ahead_at_first, at_opening, ends_lived, opening_lived, opening_undone}
use Rattle.station.proofs.living.live.Goals as goal

pub returns-in-Err-Refused-clause-answered : goal.returns-in-Err-Refused-clause-answered
returns-in-Err-Refused-clause-answered g c =
    let used : Io = io_of g.S.Source.left g.S.Source.faults g.K.Sink.written g.K.Sink.faults c.args.source.now c.base.new.source c.args.sink.now c.args.sink.now in
    subst (λ (r : Refusal). LiveAnswer (Scenario r) used) (sym c.in-Err-Refused.refusal-is)
    (live_answer (Scenario c.in-Err-Refused.refusal) used.left used.ends used.unread used.old used.new used.unwritten
    (c.in-Err-Refused.ensures.refused c.in-Err-Refused.refusal (ap Err c.in-Err-Refused.field-0-is), refl))

pub returns-in-Err-opened-clause-answered : goal.returns-in-Err-opened-clause-answered
returns-in-Err-opened-clause-answered g c =
    let s = scenario_content c.in-Ok-base.scenario in
    live_answer c.in-Err-opened.status _ _ _ _ _ _
    (opening_lived c.in-Err-opened.status _ _ _ _ _ _ _ s c.in-Ok-base.ensures.opened (c.opened.ensures.failed c.in-Err-opened.status c.in-Err-opened.is))

pub returns-in-Err-opened-clause-writes : goal.returns-in-Err-opened-clause-writes
returns-in-Err-opened-clause-writes g c = record {
  kept = c.opened.ensures.kept;
  done = λ is. absurd (opening_undone _ _ _ _ c.in-Err-opened.status (c.opened.ensures.failed c.in-Err-opened.status c.in-Err-opened.is) is);
}

pub returns-clause-answered : goal.returns-clause-answered
returns-clause-answered g c =
    let s = scenario_content c.in-Ok-base.scenario in
    let left : Option (List ℕ) = g.S.Source.left c.args.source.now in
    let behind : Option (List ℕ) = unread c.base.new.reader (g.S.Source.left c.base.new.source) in
    let ahead : Option (List ℕ) = unread c.in-Ok-opened.dialogue.reader (g.S.Source.left c.base.new.source) in
    let same : ahead ≡ behind = ap (λ r. unread r (g.S.Source.left c.base.new.source)) c.in-Ok-opened.ensures.reader in
    let is : IsAnswering left ahead (g.K.Sink.written c.args.sink.now) (g.K.Sink.written c.opened.new.sink) s opened_session =
    at_opening s left ahead _ _ (ahead_at_first left ahead behind s c.in-Ok-base.ensures.opened same) c.in-Ok-opened.ensures.written in
    let can = c.in-Ok-base.ensures.runnable in
    live_answer c.go_on.result _ _ _ _ _ _
    (ends_lived left _ behind _ _ s c.in-Ok-base.ensures.opened
    (λ requests compact. c.sessions_are_runs.ensures s c.in-Ok-base.ensures.opened.base.by_rounds can.some_rounds can.some_ticks can.can_open requests compact)
    c.go_on.result _ _ _ _ (rises_later _ _ _ c.base.ensures.kept) (rises_later _ _ _ c.opened.ensures.kept)
    (c.go_on.ensures.ends left _ s opened_session c.in-Ok-opened.ensures.stands is))

use Rattle.std.proofs.Common.{◌≡◌, ◌∙◌, ap, ◌++◌, List, ℕ, subst}
use Rattle.io_edge.specs.Edge.{Rises}
use Rattle.scenario_data.specs.Content.{scenario_content}
use Rattle.run_definition.specs.SessionAnswers.{Lines, open_lines}
use Rattle.run_definition.specs.SessionDialogue.{answer_text}
use Rattle.station.specs.declared.status.Status.{Status}
use Rattle.station.specs.Living.{StopsAtOpening}
use Rattle.station.proofs.Sessions.{opening_stops}
use Rattle.station.proofs.living.opened.Goals as goal

pub returns-in_default : goal.returns-in_default
returns-in_default g c = record {
  stands = tt;
  reader = tt;
  written = tt;
  failed = λ status e.
      let same : c.tell.result ≡ status = cc in
      let s = scenario_content c.args.scenario in
      let text : c.as_slice.result.now ≡ answer_text (Lines (open_lines s)) =
      c.as_slice.ensures.value ∙ c.in-Ok.ensures.text ∙ ap (λ (t : List ℕ). t ++ answer_text (Lines (open_lines s))) c.new-answer.ensures.items in
      subst (λ (x : Status). StopsAtOpening x (Rises (g.K.Sink.faults c.args.sink.now) (g.K.Sink.faults c.tell.new.sink)) (g.K.Sink.written c.args.sink.now) (g.K.Sink.written c.tell.new.sink) s) same (opening_stops c.tell.result c.as_slice.result.now _ _ _ s c.in_default.not-Done text c.tell.ensures.tells);
  exact = tt;
  kept = c.tell.ensures.writes.kept;
}

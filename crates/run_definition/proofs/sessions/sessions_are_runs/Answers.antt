use Rattle.std.proofs.Common.{◌∙◌, List, sym}
use Rattle.run_definition.specs.Orders.{AreJournals}
use Rattle.run_definition.specs.Session.{Step}
use Rattle.run_definition.specs.SessionAnswers.{rounds_by}
use Rattle.run_definition.specs.SessionRecord.{resulting, session_journals}
use Rattle.run_definition.proofs.SessionRounds.{AreRounds, journals-are, rest-told}
use Rattle.run_definition.proofs.SoundSessions.{session-rounds}
use Rattle.run_definition.proofs.SessionTelling.{all-told}
use Rattle.run_definition.proofs.sessions.sessions_are_runs.Goals as goal

pub returns : goal.returns
returns c = λ s early some_rounds some_ticks open_all lines compact.
    let all : List (List Step) = rounds_by s lines in
    let sound : AreRounds s all = session-rounds s lines some_ticks in
    let journals : AreJournals (resulting s all compact) (session_journals s all) = journals-are s all compact early sound in
    record {
      journals = journals;
      told = all-told s lines some_rounds ∙ sym (rest-told s all compact early sound);
      kept = c.any_order_is_safe.ensures (resulting s all compact) open_all (session_journals s all) journals;
    }

use Rattle.std.proofs.Common.{◌≡◌, ℕ, List, ◌++◌, sym, ◌∙◌, ap, subst}
use Rattle.session_words.specs.Unread.{given_line}
use Rattle.run_definition.specs.SessionAnswers.{answer_to}
use Rattle.run_definition.specs.SessionDialogue.{answer_text}
use Rattle.station.specs.Living.{AnswersThis}
use Rattle.station.proofs.living.Dialogue.answer_line.Goals as goal

pub returns-in-Ok-clause-answers : goal.returns-in-Ok-clause-answers
returns-in-Ok-clause-answers c = λ s h stands.
    let line = c.line.result.now in
    let given : line ≡ given_line c.args.self.now.reader = c.line.ensures in
    subst (λ (l : List ℕ). AnswersThis c.is_over.result s h c.take.new.self l c.take.new.out.items) given (record {
      answer = c.in-Ok.ensures.text s h stands ∙ ap (λ (t : List ℕ). t ++ answer_text (answer_to s h line)) c.requires.empty;
      over_is = c.is_over.ensures ∙ c.in-Ok.ensures.over s h stands;
      stands = λ on. c.in-Ok.ensures.stands s h stands (sym (c.is_over.ensures ∙ c.in-Ok.ensures.over s h stands) ∙ on);
    })

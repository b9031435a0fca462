-- The answers to some requests are first, whatever is asked later.
use Rattle.std.proofs.Common.{◌≡◌, ℕ, Bool, true, false, if◌then◌else◌, List, [], ◌∷◌, ◌++◌, refl, ap}
use Rattle.scenario_data.specs.Content.{ScenarioContent}
use Rattle.run_definition.specs.Session.{SessionHistory, opened_session, is_over}
use Rattle.run_definition.specs.SessionAnswers.{Answer, Lines, open_lines, answer_to, next_session, answers_from, answers_while}
use Rattle.run_definition.specs.SessionLaws.{NeedsNoMore}

-- some answers begin with others
abbrev Begins : List Answer → List Answer → Type 0
Begins answers first = (later : List Answer) × (answers ≡ first ++ later)

begins-if : (over : Bool) (answer : Answer) (answers first : List Answer) → Begins answers first
    → Begins (answer ∷ (if over then [] else answers)) (answer ∷ (if over then [] else first))
begins-if true answer answers first (later, begins) = ([], refl)
begins-if false answer answers first (later, begins) = (later, ap (λ (r : List Answer). answer ∷ r) begins)

begins-from : (s : ScenarioContent) (h : SessionHistory) (lines more : List (List ℕ)) → Begins (answers_from s h (lines ++ more)) (answers_while s h lines)
begins-from s h [] more = (answers_from s h more, refl)
begins-from s h (line ∷ lines) more =
    begins-if (is_over s (next_session s h line)) (answer_to s h line) (answers_from s (next_session s h line) (lines ++ more)) (answers_while s (next_session s h line) lines)
    (begins-from s (next_session s h line) lines more)

pub needs-no-more : (s : ScenarioContent) (lines more : List (List ℕ)) → NeedsNoMore s lines more
needs-no-more s lines more =
    let (later, begins) = begins-from s opened_session lines more in
    (later, ap (λ (r : List Answer). Lines (open_lines s) ∷ r) begins)

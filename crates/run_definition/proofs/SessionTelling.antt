-- The lines of a session's answers, in the order of a trace, are those of its rounds.
use Rattle.std.proofs.Common.{◌≡◌, ◌∙◌, ◌+◌, ◌==◌, ◌≤◌, if◌then◌else◌, ℕ, suc, Bool, true, false, List, [], ◌∷◌, ◌++◌, length, Result, Ok, Err, refl, sym, ap, arith, append-nil, append_assoc, ne_eqb}
use Rattle.trace_text.specs.declared.lines.Line.{Line}
use Rattle.trace_text.specs.declared.lines.Line.TheVariants.{R, Z}
use Rattle.scenario_data.specs.Content.{ScenarioContent, CabinetContent}
use Rattle.run_definition.specs.CabinetState.{CabinetState, opened_cabinet_states}
use Rattle.run_definition.specs.Lines.{notes_lines, opening_lines}
use Rattle.session_words.specs.declared.request.Request.{Request}
use Rattle.session_words.specs.declared.request.Untaken.{Untaken}
use Rattle.run_definition.specs.Session.{SessionHistory, Step, Ticks, opened_session, step_of, states_after_round, states_after, ticks_left, steps_with, is_last, with_round, steps_to_end, is_over}
use Rattle.run_definition.specs.SessionAnswers.{Answer, each_begin, begin_lines, each_step, each_journal, next_lines, end_lines, end_of_input_lines, taken, answer_by, next_by, answers_from, answers, rounds_from, rounds_by}
use Rattle.run_definition.specs.SessionRecord.{lines_in, begins_part, part_in_order, in_trace_order}
use Rattle.run_definition.proofs.SessionParts.{order-first, order-next, order-end}
use Rattle.run_definition.proofs.SessionRounds.{round_told, rounds_told, session_told}
use Rattle.run_definition.proofs.Ordering.{steps_lines, steps-more, body_lines, body-part, round-ordered, opening-part, opening-ordered}

-- ---- as many cabinets as the scenario has

opened-counted : (s : ScenarioContent) (cabinets : List CabinetContent) → length (opened_cabinet_states s cabinets) ≡ length cabinets
opened-counted s [] = refl
opened-counted s (c ∷ cabinets) = ap suc (opened-counted s cabinets)

behind-counted : (s : ScenarioContent) (first : ℕ) (ts : List CabinetState) (steps : List Step) → length (states_after_round s first ts steps) ≡ length ts
behind-counted s first [] steps = refl
behind-counted s first (t ∷ ts) steps = ap suc (behind-counted s (first + 1) ts steps)

states-counted : (s : ScenarioContent) (rounds : List (List Step)) → length (states_after s rounds) ≡ length s.cabinets
states-counted s [] = opened-counted s s.cabinets
states-counted s (steps ∷ before) = behind-counted s 1 (states_after s before) steps ∙ states-counted s before

-- ---- the round under way

-- the session with these closed rounds, and these steps in the round under way
abbrev under_way : List (List Step) → List Step → SessionHistory
under_way closed steps = record { closed = closed; steps = steps }

-- what is reported of it so far
abbrev so_far : ScenarioContent → SessionHistory → List Line
so_far s h =
    begin_lines s (length h.closed + 1) (states_after s h.closed) ++ steps_lines s (states_after s h.closed) [] h.steps

-- the session with one step more in that round
abbrev with_one : SessionHistory → Step → SessionHistory
with_one h step = under_way h.closed (steps_with h step)

so-far-more : (s : ScenarioContent) (h : SessionHistory) (step : Step) (rest : List Line)
    → so_far s h ++ (each_step s 1 (states_after s h.closed) h.steps step ++ rest)
    ≡ so_far s (with_one h step) ++ rest
so-far-more s h step rest =
    let ts : List CabinetState = states_after s h.closed in
    let begun : List Line = begin_lines s (length h.closed + 1) ts in
    let stepped : List Line = steps_lines s ts [] h.steps in
    let own : List Line = each_step s 1 ts h.steps step in
    sym (append_assoc (begun ++ stepped) own rest)
    ∙ ap (λ (x : List Line). x ++ rest) (append_assoc begun stepped own)
    ∙ ap (λ (x : List Line). (begun ++ x) ++ rest) (sym (steps-more s ts [] h.steps step))

-- a round with these steps, and its journals after them
whole-body : (s : ScenarioContent) (round : ℕ) (ts : List CabinetState) (steps : List Step) (rest : List Line)
    → (begin_lines s round ts ++ steps_lines s ts [] steps) ++ (each_journal s 1 ts steps ++ rest) ≡ R round ∷ (body_lines s ts steps ++ rest)
whole-body s round ts steps rest =
    let begun : List Line = begin_lines s round ts in
    let stepped : List Line = steps_lines s ts [] steps in
    let journals : List Line = each_journal s 1 ts steps in
    sym (append_assoc (begun ++ stepped) journals rest) ∙ ap (λ (x : List Line). x ++ rest) (append_assoc begun stepped journals)

-- a round is closed: its part comes in order
round-closed : (s : ScenarioContent) (closed : List (List Step)) (steps : List Step) (b : Line) (rest : List Line) → begins_part b ≡ true
    → rounds_told s closed
    ++ in_trace_order (length s.cabinets)
    (so_far s (under_way closed steps) ++ (each_journal s 1 (states_after s closed) steps ++ (b ∷ rest)))
    ≡ rounds_told s (steps ∷ closed) ++ in_trace_order (length s.cabinets) (b ∷ rest)
round-closed s closed steps b rest begins =
    let ts : List CabinetState = states_after s closed in
    let round : ℕ = length closed + 1 in
    let many : ℕ = length s.cabinets in
    let body : List Line = body_lines s ts steps in
    let ordered : part_in_order many (R round ∷ body) ≡ round_told s round ts steps =
    ap (λ (n : ℕ). part_in_order n (R round ∷ body)) (sym (states-counted s closed)) ∙ round-ordered s round ts steps in
    ap (λ (x : List Line). rounds_told s closed ++ in_trace_order many x) (whole-body s round ts steps (b ∷ rest))
    ∙ ap (λ (x : List Line). rounds_told s closed ++ x) (order-next many (R round) body b rest refl (body-part s ts steps) begins)
    ∙ ap (λ (x : List Line). rounds_told s closed ++ (x ++ in_trace_order many (b ∷ rest))) ordered
    ∙ sym (append_assoc (rounds_told s closed) (round_told s round ts steps) (in_trace_order many (b ∷ rest)))

-- and the session is over
session-closed : (s : ScenarioContent) (closed : List (List Step)) (steps : List Step) (n : ℕ) → n ≡ length (steps ∷ closed)
    → rounds_told s closed
    ++ in_trace_order (length s.cabinets)
    (so_far s (under_way closed steps) ++ (each_journal s 1 (states_after s closed) steps ++ Z n ∷ []))
    ≡ rounds_told s (steps ∷ closed) ++ Z (length (steps ∷ closed)) ∷ []
session-closed s closed steps n all =
    round-closed s closed steps (Z n) [] refl
    ∙ ap (λ (x : List Line). rounds_told s (steps ∷ closed) ++ x) (order-end (length s.cabinets) n)
    ∙ ap (λ (m : ℕ). rounds_told s (steps ∷ closed) ++ Z m ∷ []) all

-- ---- answer by answer

-- after that many closed rounds: the lines of these answers, with what was reported of the round under way
abbrev told_with : ScenarioContent → SessionHistory → List Line → List Line
told_with s h lines = rounds_told s h.closed ++ in_trace_order (length s.cabinets) (so_far s h ++ lines)

-- the lines of all rounds
abbrev told_whole : ScenarioContent → List (List Step) → List Line
told_whole s all = rounds_told s all ++ Z (length all) ∷ []

-- the answers from here on give all rounds from here on
abbrev TellsFrom : ScenarioContent → SessionHistory → List (List ℕ) → Type 0
TellsFrom s h lines = told_with s h (lines_in (answers_from s h lines)) ≡ told_whole s (rounds_from s h lines)

tells-end : (s : ScenarioContent) (h : SessionHistory) → TellsFrom s h []
tells-end s h =
    let ts : List CabinetState = states_after s h.closed in
    let left : Step = Ticks (ticks_left s h) in
    let all : List Step = steps_to_end s h in
    let rest : List Line = each_journal s 1 ts all ++ Z (length h.closed + 1) ∷ [] in
    let counted : length h.closed + 1 ≡ length (all ∷ h.closed) = omega arith in
    ap (told_with s h) (append-nil (end_of_input_lines s h))
    ∙ ap (λ (x : List Line). rounds_told s h.closed ++ in_trace_order (length s.cabinets) x) (so-far-more s h left rest)
    ∙ session-closed s h.closed all (length h.closed + 1) counted

-- a step that leaves the round under way
tells-more : (s : ScenarioContent) (h : SessionHistory) (step : Step) (lines : List Line)
    → told_with s h ((each_step s 1 (states_after s h.closed) h.steps step ++ []) ++ lines)
    ≡ told_with s (with_one h step) lines
tells-more s h step lines =
    let own : List Line = each_step s 1 (states_after s h.closed) h.steps step in
    ap (λ (x : List Line). told_with s h (x ++ lines)) (append-nil own)
    ∙ ap (λ (x : List Line). rounds_told s h.closed ++ in_trace_order (length s.cabinets) x) (so-far-more s h step lines)

-- a step that ends its round
ends-round : (s : ScenarioContent) (h : SessionHistory) (step : Step) (more lines : List Line)
    → told_with s h ((each_step s 1 (states_after s h.closed) h.steps step ++ (each_journal s 1 (states_after s h.closed) (steps_with h step) ++ more)) ++ lines)
    ≡ told_with s (with_one h step) (each_journal s 1 (states_after s h.closed) (steps_with h step) ++ (more ++ lines))
ends-round s h step more lines =
    let own : List Line = each_step s 1 (states_after s h.closed) h.steps step in
    let journals : List Line = each_journal s 1 (states_after s h.closed) (steps_with h step) in
    ap (told_with s h) (append_assoc own (journals ++ more) lines ∙ ap (λ (x : List Line). own ++ x) (append_assoc journals more lines))
    ∙ ap (λ (x : List Line). rounds_told s h.closed ++ in_trace_order (length s.cabinets) x) (so-far-more s h step (journals ++ (more ++ lines)))

-- what a round's end is followed by, and whether the session is then over
abbrev following : Bool → ScenarioContent → SessionHistory → List (List ℕ) → List Answer
following over s h lines = if over then [] else answers_from s h lines

abbrev rounds_following : Bool → ScenarioContent → SessionHistory → List (List ℕ) → List (List Step)
rounds_following over s h lines = if over then h.closed else rounds_from s h lines

closes : (over : Bool) (s : ScenarioContent) (closed : List (List Step)) (steps : List Step) (lines : List (List ℕ))
    → (over ≡ false → TellsFrom s (under_way (steps ∷ closed) []) lines)
    → told_with s (under_way closed steps) (each_journal s 1 (states_after s closed) steps
    ++ ((if over then Z (length closed + 1) ∷ [] else begin_lines s (length closed + 1 + 1) (states_after s (steps ∷ closed)))
    ++ lines_in (following over s (under_way (steps ∷ closed) []) lines)))
    ≡ told_whole s (rounds_following over s (under_way (steps ∷ closed) []) lines)
closes true s closed steps lines ih =
    let counted : length closed + 1 ≡ length (steps ∷ closed) = omega arith in
    session-closed s closed steps (length closed + 1) counted
closes false s closed steps lines ih =
    let next : SessionHistory = under_way (steps ∷ closed) [] in
    let ts : List CabinetState = states_after s (steps ∷ closed) in
    let behind : List Line = lines_in (answers_from s next lines) in
    let counted : length closed + 1 + 1 ≡ length (steps ∷ closed) + 1 = omega arith in
    let begun : List Line = begin_lines s (length (steps ∷ closed) + 1) ts in
    ap (λ (n : ℕ). told_with s (under_way closed steps) (each_journal s 1 (states_after s closed) steps ++ (begin_lines s n ts ++ behind))) counted
    ∙ round-closed s closed steps (R (length (steps ∷ closed) + 1)) ((notes_lines s 1 ts ++ each_begin s 1 ts) ++ behind) refl
    ∙ ap (λ (x : List Line). rounds_told s (steps ∷ closed) ++ in_trace_order (length s.cabinets) (x ++ behind)) (sym (append-nil begun))
    ∙ ih refl

-- what a session comes to by a step
abbrev behind_step : Bool → SessionHistory → Step → SessionHistory
behind_step last h step = if last then with_round h (steps_with h step) else with_one h step

-- a step, whether it is the last of its round
steps-on : (last : Bool) (s : ScenarioContent) (h : SessionHistory) (step : Step) (lines : List (List ℕ)) → is_over s h ≡ false
    → (last ≡ false → TellsFrom s (with_one h step) lines)
    → (last ≡ true → is_over s (with_round h (steps_with h step)) ≡ false → TellsFrom s (with_round h (steps_with h step)) lines)
    → told_with s h ((each_step s 1 (states_after s h.closed) h.steps step ++ (if last then end_lines s h (steps_with h step) else []))
    ++ lines_in (following (is_over s (behind_step last h step)) s (behind_step last h step) lines))
    ≡ told_whole s (rounds_following (is_over s (behind_step last h step)) s (behind_step last h step) lines)
steps-on false s h step lines still goes ends =
    let next : SessionHistory = with_one h step in
    tells-more s h step (lines_in (following (is_over s h) s next lines))
    ∙ ap (λ (b : Bool). told_with s next (lines_in (following b s next lines))) still
    ∙ goes refl
    ∙ ap (λ (b : Bool). told_whole s (rounds_following b s next lines)) (sym still)
steps-on true s h step lines still goes ends =
    let steps : List Step = steps_with h step in
    let next : SessionHistory = with_round h steps in
    let same : (length h.closed + 1 == s.rounds) ≡ is_over s next =
    let counted : length h.closed + 1 ≡ length (steps ∷ h.closed) = omega arith in
    ap (λ (n : ℕ). n == s.rounds) counted in
    ends-round s h step (next_lines s (length h.closed + 1) (states_after s (steps ∷ h.closed))) (lines_in (following (is_over s next) s next lines))
    ∙ ap (λ (b : Bool). told_with s (under_way h.closed steps) (each_journal s 1 (states_after s h.closed) steps
    ++ ((if b then Z (length h.closed + 1) ∷ [] else begin_lines s (length h.closed + 1 + 1) (states_after s (steps ∷ h.closed)))
    ++ lines_in (following (is_over s next) s next lines)))) same
    ∙ closes (is_over s next) s h.closed steps lines (ends refl)

-- a line, whatever was read in it
line-told : (s : ScenarioContent) (h : SessionHistory) (read : Result Request Untaken) (lines : List (List ℕ)) → is_over s h ≡ false
    → ((next : SessionHistory) → is_over s next ≡ false → TellsFrom s next lines)
    → told_with s h (lines_in (answer_by s h read ∷ following (is_over s (next_by s h read)) s (next_by s h read) lines))
    ≡ told_whole s (rounds_following (is_over s (next_by s h read)) s (next_by s h read) lines)
line-told s h (Ok request) lines still ih =
    let step : Step = step_of request in
    steps-on (is_last s h step) s h step lines still
    (λ last. ih (with_one h step) still)
    (λ last goes. ih (with_round h (steps_with h step)) goes)
line-told s h (Err untaken) lines still ih =
    ap (λ (b : Bool). told_with s h (lines_in (following b s h lines))) still
    ∙ ih h still
    ∙ ap (λ (b : Bool). told_whole s (rounds_following b s h lines)) (sym still)

tells-from : (s : ScenarioContent) (lines : List (List ℕ)) (h : SessionHistory) → is_over s h ≡ false → TellsFrom s h lines
tells-from s [] h still = tells-end s h
tells-from s (line ∷ lines) h still = line-told s h (taken s h line) lines still (tells-from s lines)

-- ---- the session

pub all-told : (s : ScenarioContent) (lines : List (List ℕ)) → 1 ≤ s.rounds
    → in_trace_order (length s.cabinets) (lines_in (answers s lines)) ≡ session_told s (rounds_by s lines)
all-told s lines some =
    let ts : List CabinetState = opened_cabinet_states s s.cabinets in
    let many : ℕ = length s.cabinets in
    let start : List Line = opening_lines 1 ts in
    let behind : List Line = lines_in (answers_from s opened_session lines) in
    let body : List Line = (notes_lines s 1 ts ++ each_begin s 1 ts) ++ behind in
    let still : is_over s opened_session ≡ false = ne_eqb 0 s.rounds (λ e. absurd (omega (arith, e, some))) in
    let ordered : part_in_order many start ≡ start =
    ap (λ (n : ℕ). part_in_order n start) (sym (states-counted s [])) ∙ opening-ordered ts in
    ap (in_trace_order many) (append_assoc start (begin_lines s 1 ts) behind)
    ∙ order-first many start (R 1) body (opening-part ts) refl
    ∙ ap (λ (x : List Line). x ++ in_trace_order many (R 1 ∷ body)) ordered
    ∙ ap (λ (x : List Line). start ++ in_trace_order many (x ++ behind)) (sym (append-nil (begin_lines s 1 ts)))
    ∙ ap (λ (x : List Line). start ++ x) (tells-from s lines opened_session still)

-- A session as bytes: its input, and the text of its answers. The first line of the input is a scenario, and each
-- line after it is a request.
use Rattle.std.specs.Prelude.{◌≡◌, ℕ, ◌+◌, nat_lt, if◌then◌else◌, List, [], ◌∷◌, ◌++◌, codes, decimal, Option, Some, None}
use Rattle.safety_laws.specs.TraceText.{lines_text}
use Rattle.std.specs.Option.{option_map}
use Rattle.scenario_data.specs.Content.{ScenarioContent}
use Rattle.scenario_data.specs.Causes.{Limit, Names}
use Rattle.scenario_data.specs.declared.refusal.Refusal.{Refusal}
use Rattle.session_words.specs.Requests.{untaken_word}
pub use Rattle.session_words.specs.Lines.{first_line, behind_first, before_lines, whole_lines}
use Rattle.run_definition.specs.SessionAnswers.{Answer, Lines, NotTaken, answers}

-- the requests of an input: the lines after its first line
abbrev pub requests_in : List ℕ → List (List ℕ)
requests_in input = whole_lines (behind_first input)

-- the line at the end of each answer: a dot
abbrev pub dot : List ℕ
dot = 46 ∷ 10 ∷ []

-- the text of an answer: its lines, or one line with the reason why a request isn't accepted, and then the dot
abbrev pub answer_text : Answer → List ℕ
answer_text (Lines lines) = lines_text lines ++ dot
answer_text (NotTaken untaken) = 63 ∷ 32 ∷ (untaken_word untaken ++ 10 ∷ dot)

abbrev pub answers_text : List Answer → List ℕ
answers_text [] = []
answers_text (answer ∷ answers) = answer_text answer ++ answers_text answers

-- the text of the session with this scenario and these requests
abbrev pub session_text : ScenarioContent → List (List ℕ) → List ℕ
session_text s lines = answers_text (answers s lines)

-- the place of the first item whose round is before the round of the preceding item. Places are counted from `place`;
-- for the first item, `last` is the preceding round
abbrev pub first_early : {A : Type 0} → (A → ℕ) → ℕ → ℕ → List A → Option ℕ
first_early round_of place last [] = None
first_early round_of place last (x ∷ xs) =
    if nat_lt (round_of x) last then Some place else first_early round_of (place + 1) (round_of x) xs

-- the first load, or the first priority request, that isn't in the order of rounds
abbrev pub early_load : ScenarioContent → Option ℕ
early_load s = first_early (λ l. l.round) 0 0 s.loads

abbrev pub early_priority : ScenarioContent → Option ℕ
early_priority s = first_early (λ p. p.round) 0 0 s.priority

-- the loads and the priority requests are in the order of their rounds
pub record IsByRounds (s : ScenarioContent) : Type 0 where
  pub loads : early_load s ≡ None
  pub priority : early_priority s ≡ None

-- the path of the round of an item
abbrev pub round_path : List ℕ → ℕ → List ℕ
round_path name place = name ++ (codes "[" ++ (decimal place ++ codes "].round"))

-- the path of the first item that isn't in the order of rounds; the loads are checked first
abbrev pub early_path : Option ℕ → Option ℕ → Option (List ℕ)
early_path (Some place) priority = Some (round_path (codes "loads") place)
early_path None (Some place) = Some (round_path (codes "priority") place)
early_path None None = None

abbrev pub order_fault : ScenarioContent → Option (List ℕ)
order_fault s = early_path (early_load s) (early_priority s)

-- the refusal names this item: its round is out of range
abbrev pub IsOrderFault : ScenarioContent → Refusal → Type 0
IsOrderFault s refusal = Names refusal (option_map Limit (order_fault s))

-- The rounds of a session are rounds of the scenario that results: its journals take all items, and its cabinets reach
-- the same.
use Rattle.std.proofs.Common.{◌≡◌, ◌∙◌, ◌+◌, ◌≤◌, ℕ, suc, List, [], ◌∷◌, ◌++◌, length, map, refl, sym, ap, subst, arith, append_assoc, append-nil}
use Rattle.std.proofs.lemmas.List.{length-append}
use Rattle.std.specs.List.{AllByRecursion}
use Rattle.sig_types.specs.declared.notes.MasterNote.{MasterNote}
use Rattle.trace_text.specs.declared.lines.Line.{Line}
use Rattle.trace_text.specs.declared.lines.Line.TheVariants.{R, M, J, Z}
use Rattle.scenario_data.specs.Content.{ScenarioContent, CabinetContent}
use Rattle.cabinet_history.specs.CabinetHistory.{after}
use Rattle.cabinet_history.specs.Journals.{Act, IsMerge, items_in, runs_of}
use Rattle.cabinet_history.specs.CabinetAnswers.{acts_replies}
use Rattle.master_rounds.specs.Rounds.{noted}
use Rattle.run_definition.specs.CabinetState.{CabinetState, answers_in, coming_streams, round_acts, next_cabinet_state, opened_cabinet_states, each_cabinet_state, cabinet_states_after}
use Rattle.run_definition.specs.Lines.{acts_lines, each_lines, notes_lines, head_lines, round_lines, opening_lines, front_lines, rest_lines}
use Rattle.run_definition.specs.Orders.{EachMerges, AreMerges, AreJournals}
use Rattle.run_definition.proofs.More.{fronts-more}
use Rattle.run_definition.specs.Session.{Step, session_acts, state_after_round, states_after_round, states_after}
use Rattle.run_definition.specs.SessionAnswers.{journal_by}
use Rattle.run_definition.specs.SessionRecord.{resulting, round_journals, session_journals}
use Rattle.run_definition.specs.SessionDialogue.{IsByRounds}
use Rattle.run_definition.proofs.Acts.{acts-again, passes-counted}
use Rattle.run_definition.proofs.Bringing.{IsRoundOf, round-within}
use Rattle.run_definition.proofs.Turning.{noted-kept}
use Rattle.run_definition.proofs.SessionStreams.{IsRound, streams-whole}

-- each of these cabinets has answered in that many rounds
abbrev pub HaveAnswered : ℕ → List CabinetState → Type 0
HaveAnswered rounds ts = AllByRecursion (λ (t : CabinetState). length t.answered ≡ rounds) ts

-- each of these rounds is one
abbrev pub AreRounds : ScenarioContent → List (List Step) → Type 0
AreRounds s rounds = AllByRecursion (IsRound s) rounds

-- what is the same in a round of the session and in that of the scenario that results
pub record Context (s : ScenarioContent) (all : List (List Step)) (steps : List Step) (before : List (List Step)) : Type 0 where
  pub early : IsByRounds s
  pub place : IsRoundOf all steps before
  pub round : IsRound s steps

-- ---- one cabinet

acts-kept : (s : ScenarioContent) (all : List (List Step)) (compact : List ℕ) (steps : List Step) (before : List (List Step)) (cab : ℕ) (t : CabinetState)
    → Context s all steps before → length t.answered ≡ length before
    → round_acts (resulting s all compact) cab t (journal_by s cab t steps) ≡ session_acts s cab t steps
acts-kept s all compact steps before cab t context at =
    acts-again (coming_streams (resulting s all compact) cab t) [] (session_acts s cab t steps)
    (λ p. streams-whole s all compact steps before cab t context.early context.place context.round at p)

merge-kept : (s : ScenarioContent) (all : List (List Step)) (compact : List ℕ) (steps : List Step) (before : List (List Step)) (cab : ℕ) (t : CabinetState)
    → Context s all steps before → length t.answered ≡ length before
    → IsMerge (coming_streams (resulting s all compact) cab t) (journal_by s cab t steps)
merge-kept s all compact steps before cab t context at = λ p.
    passes-counted p (session_acts s cab t steps)
    ∙ ap length (sym (streams-whole s all compact steps before cab t context.early context.place context.round at p))

state-kept : (s : ScenarioContent) (all : List (List Step)) (compact : List ℕ) (steps : List Step) (before : List (List Step)) (cab : ℕ) (t : CabinetState)
    → Context s all steps before → length t.answered ≡ length before
    → next_cabinet_state (resulting s all compact) cab t (journal_by s cab t steps) ≡ state_after_round s cab t steps
state-kept s all compact steps before cab t context at =
    let come : List Act → CabinetState = λ acts. record {
      cabinet = t.cabinet;
      cabinet_history = after t.cabinet_history (items_in acts);
      answered = answers_in (acts_replies t.cabinet_history acts) ∷ t.answered;
    } in
    ap come (acts-kept s all compact steps before cab t context at)

-- ---- each cabinet

each-state : (s : ScenarioContent) (all : List (List Step)) (compact : List ℕ) (steps : List Step) (before : List (List Step)) (first : ℕ) (ts : List CabinetState)
    → Context s all steps before → HaveAnswered (length before) ts
    → each_cabinet_state (resulting s all compact) first ts (round_journals s first ts steps) ≡ states_after_round s first ts steps
each-state s all compact steps before first [] context have = refl
each-state s all compact steps before first (t ∷ ts) context have =
    ap (λ (u : CabinetState). u ∷ each_cabinet_state (resulting s all compact) (first + 1) ts (round_journals s (first + 1) ts steps)) (state-kept s all compact steps before first t context have.0)
    ∙ ap (λ (r : List CabinetState). state_after_round s first t steps ∷ r) (each-state s all compact steps before (first + 1) ts context have.1)

each-merge : (s : ScenarioContent) (all : List (List Step)) (compact : List ℕ) (steps : List Step) (before : List (List Step)) (first : ℕ) (ts : List CabinetState)
    → Context s all steps before → HaveAnswered (length before) ts
    → EachMerges (resulting s all compact) first ts (round_journals s first ts steps)
each-merge s all compact steps before first [] context have = tt
each-merge s all compact steps before first (t ∷ ts) context have =
    (merge-kept s all compact steps before first t context have.0, each-merge s all compact steps before (first + 1) ts context have.1)

-- the lines of each cabinet in a round of a session: its journal, and those of its acts
abbrev pub cabinet_told : ScenarioContent → List Step → ℕ → CabinetState → List Line
cabinet_told s steps cab t = J cab (runs_of (journal_by s cab t steps)) ∷ acts_lines cab t.cabinet_history (session_acts s cab t steps)

abbrev pub each_told : ScenarioContent → ℕ → List CabinetState → List Step → List Line
each_told s first [] steps = []
each_told s first (t ∷ ts) steps = cabinet_told s steps first t ++ each_told s (first + 1) ts steps

each-line : (s : ScenarioContent) (all : List (List Step)) (compact : List ℕ) (steps : List Step) (before : List (List Step)) (first : ℕ) (ts : List CabinetState)
    → Context s all steps before → HaveAnswered (length before) ts
    → each_lines (resulting s all compact) first ts (round_journals s first ts steps) ≡ each_told s first ts steps
each-line s all compact steps before first [] context have = refl
each-line s all compact steps before first (t ∷ ts) context have =
    let told : List Act → List Line = λ acts. J first (runs_of (journal_by s first t steps)) ∷ acts_lines first t.cabinet_history acts in
    ap (λ (acts : List Act). told acts ++ each_lines (resulting s all compact) (first + 1) ts (round_journals s (first + 1) ts steps)) (acts-kept s all compact steps before first t context have.0)
    ∙ ap (λ (r : List Line). cabinet_told s steps first t ++ r) (each-line s all compact steps before (first + 1) ts context have.1)

notes-kept : (s : ScenarioContent) (all : List (List Step)) (compact : List ℕ) (steps : List Step) (before : List (List Step)) (first : ℕ) (ts : List CabinetState)
    → Context s all steps before → HaveAnswered (length before) ts
    → notes_lines (resulting s all compact) first ts ≡ notes_lines s first ts
notes-kept s all compact steps before first [] context have = refl
notes-kept s all compact steps before first (t ∷ ts) context have =
    let within : length t.answered + 1 ≤ length all = omega (arith, have.0, round-within all steps before context.place) in
    ap (λ (notes : List MasterNote). map M notes ++ notes_lines (resulting s all compact) (first + 1) ts) (noted-kept s all compact first t.cabinet t.answered context.early.loads within)
    ∙ ap (λ (r : List Line). map M (noted s first t.cabinet t.answered) ++ r) (notes-kept s all compact steps before (first + 1) ts context have.1)

-- ---- rounds

-- the lines of a round of a session, and those of the rounds of one
abbrev pub round_told : ScenarioContent → ℕ → List CabinetState → List Step → List Line
round_told s round ts steps = head_lines s round ts ++ each_told s 1 ts steps

abbrev pub rounds_told : ScenarioContent → List (List Step) → List Line
rounds_told s [] = []
rounds_told s (steps ∷ before) = rounds_told s before ++ round_told s (length before + 1) (states_after s before) steps

round-kept : (s : ScenarioContent) (all : List (List Step)) (compact : List ℕ) (steps : List Step) (before : List (List Step)) (round : ℕ) (ts : List CabinetState)
    → Context s all steps before → HaveAnswered (length before) ts
    → round_lines (resulting s all compact) round ts (round_journals s 1 ts steps) ≡ round_told s round ts steps
round-kept s all compact steps before round ts context have =
    ap (λ (r : List Line). (R round ∷ r) ++ each_lines (resulting s all compact) 1 ts (round_journals s 1 ts steps)) (notes-kept s all compact steps before 1 ts context have)
    ∙ ap (λ (r : List Line). head_lines s round ts ++ r) (each-line s all compact steps before 1 ts context have)

opened-answered : (s : ScenarioContent) (cabinets : List CabinetContent) → HaveAnswered 0 (opened_cabinet_states s cabinets)
opened-answered s [] = tt
opened-answered s (c ∷ cabinets) = (refl, opened-answered s cabinets)

behind-answered : (s : ScenarioContent) (rounds first : ℕ) (ts : List CabinetState) (steps : List Step) → HaveAnswered rounds ts → HaveAnswered (suc rounds) (states_after_round s first ts steps)
behind-answered s rounds first [] steps have = tt
behind-answered s rounds first (t ∷ ts) steps have = (ap suc have.0, behind-answered s rounds (first + 1) ts steps have.1)

pub after-answered : (s : ScenarioContent) (before : List (List Step)) → HaveAnswered (length before) (states_after s before)
after-answered s [] = opened-answered s s.cabinets
after-answered s (steps ∷ before) = behind-answered s (length before) 1 (states_after s before) steps (after-answered s before)

-- ---- one round after others

states-more : (s : ScenarioContent) (ts : List CabinetState) (js : List (List (List ℕ))) (one : List (List ℕ))
    → cabinet_states_after s ts (js ++ one ∷ []) ≡ each_cabinet_state s 1 (cabinet_states_after s ts js) one
states-more s ts [] one = refl
states-more s ts (j ∷ js) one = states-more s (each_cabinet_state s 1 ts j) js one

merges-more : (s : ScenarioContent) (ts : List CabinetState) (js : List (List (List ℕ))) (one : List (List ℕ)) → AreMerges s ts js
    → EachMerges s 1 (cabinet_states_after s ts js) one → AreMerges s ts (js ++ one ∷ [])
merges-more s ts [] one are last = (last, tt)
merges-more s ts (j ∷ js) one are last = (are.0, merges-more s (each_cabinet_state s 1 ts j) js one are.1 last)

pub journals-counted : (s : ScenarioContent) (rounds : List (List Step)) → length (session_journals s rounds) ≡ length rounds
journals-counted s [] = refl
journals-counted s (steps ∷ before) =
    let counted = length-append (session_journals s before) (round_journals s 1 (states_after s before) steps ∷ []) in
    omega (arith, counted, journals-counted s before)

-- ---- all rounds

-- so far the cabinets of the resulting scenario reach the same state, by its journals, and have the same lines
pub record RoundsKept (s : ScenarioContent) (all : List (List Step)) (compact : List ℕ) (rounds : List (List Step)) : Type 0 where
  pub states : cabinet_states_after (resulting s all compact) (opened_cabinet_states s s.cabinets) (session_journals s rounds) ≡ states_after s rounds
  pub merges : AreMerges (resulting s all compact) (opened_cabinet_states s s.cabinets) (session_journals s rounds)
  pub lines : front_lines (resulting s all compact) (session_journals s rounds) ≡ opening_lines 1 (opened_cabinet_states s s.cabinets) ++ rounds_told s rounds

round-more : (s : ScenarioContent) (all : List (List Step)) (compact : List ℕ) (steps : List Step) (before : List (List Step)) → Context s all steps before
    → RoundsKept s all compact before → RoundsKept s all compact (steps ∷ before)
round-more s all compact steps before context kept =
    let start : List CabinetState = opened_cabinet_states s s.cabinets in
    let ts : List CabinetState = states_after s before in
    let js : List (List (List ℕ)) = session_journals s before in
    let one : List (List ℕ) = round_journals s 1 ts steps in
    let have : HaveAnswered (length before) ts = after-answered s before in
    let front : List Line = opening_lines 1 start in
    let round : ℕ = length before + 1 in
    let same : length js + 1 ≡ round = omega (arith, journals-counted s before) in
    let next : List CabinetState → ℕ → List Line = λ x n. round_lines (resulting s all compact) n x one in
    record {
      states = states-more (resulting s all compact) start js one
          ∙ ap (λ (x : List CabinetState). each_cabinet_state (resulting s all compact) 1 x one) kept.states
          ∙ each-state s all compact steps before 1 ts context have;
      merges = merges-more (resulting s all compact) start js one kept.merges
          (subst (λ (x : List CabinetState). EachMerges (resulting s all compact) 1 x one) (sym kept.states) (each-merge s all compact steps before 1 ts context have));
      lines = fronts-more (resulting s all compact) js (one ∷ [])
          ∙ ap (λ (x : List Line). x ++ (next (cabinet_states_after (resulting s all compact) start js) (length js + 1) ++ [])) kept.lines
          ∙ ap (λ (x : List CabinetState). (front ++ rounds_told s before) ++ (next x (length js + 1) ++ [])) kept.states
          ∙ ap (λ (n : ℕ). (front ++ rounds_told s before) ++ (next ts n ++ [])) same
          ∙ ap (λ (x : List Line). (front ++ rounds_told s before) ++ x) (append-nil (next ts round) ∙ round-kept s all compact steps before round ts context have)
          ∙ append_assoc front (rounds_told s before) (round_told s round ts steps);
    }

rounds-kept : (s : ScenarioContent) (all : List (List Step)) (compact : List ℕ) (later rounds : List (List Step)) → IsByRounds s → all ≡ later ++ rounds
    → AreRounds s rounds → RoundsKept s all compact rounds
rounds-kept s all compact later [] early whole are = record { states = refl; merges = tt; lines = refl }
rounds-kept s all compact later (steps ∷ before) early whole are =
    round-more s all compact steps before (record { early = early; place = record { later = later; whole = whole }; round = are.0 })
    (rounds-kept s all compact (later ++ steps ∷ []) before early (whole ∙ sym (append_assoc later (steps ∷ []) before)) are.1)

-- ---- the run

pub journals-are : (s : ScenarioContent) (all : List (List Step)) (compact : List ℕ) → IsByRounds s → AreRounds s all
    → AreJournals (resulting s all compact) (session_journals s all)
journals-are s all compact early are = record {
  all = journals-counted s all;
  merges = (rounds-kept s all compact [] all early refl are).merges;
}

-- the lines of the run after its scenario
abbrev pub session_told : ScenarioContent → List (List Step) → List Line
session_told s all = opening_lines 1 (opened_cabinet_states s s.cabinets) ++ (rounds_told s all ++ Z (length all) ∷ [])

pub rest-told : (s : ScenarioContent) (all : List (List Step)) (compact : List ℕ) → IsByRounds s → AreRounds s all
    → rest_lines (resulting s all compact) (session_journals s all) ≡ session_told s all
rest-told s all compact early are =
    let start : List Line = opening_lines 1 (opened_cabinet_states s s.cabinets) in
    ap (λ (x : List Line). x ++ Z (length all) ∷ []) (rounds-kept s all compact [] all early refl are).lines
    ∙ append_assoc start (rounds_told s all) (Z (length all) ∷ [])

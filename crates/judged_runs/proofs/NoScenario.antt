-- Only the first line of a run has a scenario.
use Rattle.std.proofs.Common.{◌+◌, ℕ, List, [], ◌∷◌, ◌++◌, map, Option, Some, None}
use Rattle.std.specs.List.{AllByRecursion}
use Rattle.sig_types.specs.declared.frame.Frame.{Frame}
use Rattle.sig_types.specs.declared.notes.MasterNote.{MasterNote}
use Rattle.trace_text.specs.declared.lines.Line.{Line}
use Rattle.trace_text.specs.declared.lines.Line.TheVariants.{S, M, Z}
use Rattle.scenario_data.specs.Content.{ScenarioContent}
use Rattle.cabinet_history.specs.declared.Load.{Load}
use Rattle.cabinet_history.specs.declared.Reply.{Reply}
use Rattle.cabinet_history.specs.CabinetHistory.{CabinetHistory, with_item}
use Rattle.cabinet_history.specs.Journals.{Act}
use Rattle.cabinet_history.specs.CabinetAnswers.{item_replies, item_written}
use Rattle.master_rounds.specs.Rounds.{noted}
use Rattle.run_definition.specs.CabinetState.{CabinetState, opened_cabinet_states, round_acts, each_cabinet_state}
use Rattle.run_definition.specs.Lines.{frame_lines, load_lines, reply_lines, item_lines, acts_lines, cabinet_lines, each_lines, notes_lines, head_lines, round_lines, rounds_lines, opening_lines, front_lines, rest_lines}

-- the line has none
abbrev pub HasNoScenario : Line → Type 0
HasNoScenario (S json) = ⊥
HasNoScenario line = Unit {0}

both : (xs ys : List Line) → AllByRecursion HasNoScenario xs → AllByRecursion HasNoScenario ys → AllByRecursion HasNoScenario (xs ++ ys)
both [] ys a b = b
both (x ∷ xs) ys a b = (a.0, both xs ys a.1 b)

frames-none : (cab : ℕ) (frames : List (ℕ × Frame)) → AllByRecursion HasNoScenario (frame_lines cab frames)
frames-none cab [] = tt
frames-none cab (f ∷ frames) = (tt, frames-none cab frames)

load-none : (cab : ℕ) (load : Option Load) → AllByRecursion HasNoScenario (load_lines cab load)
load-none cab None = tt
load-none cab (Some load) = (tt, tt)

replies-none : (cab : ℕ) (replies : List Reply) → AllByRecursion HasNoScenario (reply_lines cab replies)
replies-none cab [] = tt
replies-none cab (r ∷ replies) = both (load_lines cab r.load) _ (load-none cab r.load) (tt, replies-none cab replies)

acts-none : (cab : ℕ) (h : CabinetHistory) (acts : List Act) → AllByRecursion HasNoScenario (acts_lines cab h acts)
acts-none cab h [] = tt
acts-none cab h (act ∷ acts) =
    both (item_lines cab h act.pass act.item) (acts_lines cab (with_item h act.item) acts)
    (both (frame_lines cab (item_written h act.item)) (reply_lines cab (item_replies h act.pass act.item))
    (frames-none cab (item_written h act.item)) (replies-none cab (item_replies h act.pass act.item)))
    (acts-none cab (with_item h act.item) acts)

each-none : (s : ScenarioContent) (first : ℕ) (ts : List CabinetState) (js : List (List ℕ)) → AllByRecursion HasNoScenario (each_lines s first ts js)
each-none s first [] js = tt
each-none s first (t ∷ ts) [] = tt
each-none s first (t ∷ ts) (j ∷ js) =
    both (cabinet_lines s first t j) (each_lines s (first + 1) ts js) (tt, acts-none first t.cabinet_history (round_acts s first t j)) (each-none s (first + 1) ts js)

notes-none : (notes : List MasterNote) → AllByRecursion HasNoScenario (map M notes)
notes-none [] = tt
notes-none (note ∷ notes) = (tt, notes-none notes)

all-notes-none : (s : ScenarioContent) (first : ℕ) (ts : List CabinetState) → AllByRecursion HasNoScenario (notes_lines s first ts)
all-notes-none s first [] = tt
all-notes-none s first (t ∷ ts) =
    both (map M (noted s first t.cabinet t.answered)) (notes_lines s (first + 1) ts) (notes-none (noted s first t.cabinet t.answered)) (all-notes-none s (first + 1) ts)

rounds-none : (s : ScenarioContent) (round : ℕ) (ts : List CabinetState) (journals : List (List (List ℕ))) → AllByRecursion HasNoScenario (rounds_lines s round ts journals)
rounds-none s round ts [] = tt
rounds-none s round ts (js ∷ later) =
    both (round_lines s round ts js) (rounds_lines s (round + 1) (each_cabinet_state s 1 ts js) later)
    (both (head_lines s round ts) (each_lines s 1 ts js) (tt, all-notes-none s 1 ts) (each-none s 1 ts js))
    (rounds-none s (round + 1) (each_cabinet_state s 1 ts js) later)

opening-none : (first : ℕ) (ts : List CabinetState) → AllByRecursion HasNoScenario (opening_lines first ts)
opening-none first [] = tt
opening-none first (t ∷ ts) = (tt, opening-none (first + 1) ts)

pub rest-none : (s : ScenarioContent) (journals : List (List (List ℕ))) → AllByRecursion HasNoScenario (rest_lines s journals)
rest-none s journals =
    let ts : List CabinetState = opened_cabinet_states s s.cabinets in
    both (front_lines s journals) (Z s.rounds ∷ [])
    (both (opening_lines 1 ts) (rounds_lines s 1 ts journals) (opening-none 1 ts) (rounds-none s 1 ts journals))
    (tt, tt)

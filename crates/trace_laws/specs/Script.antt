-- All runs of a scenario as one tree. A place of the tree has the next expected line, or the cabinet whose journal is
-- next and determines how the tree continues. A text is compared with the tree line by line, and leaves it at its
-- first fault.
use Rattle.std.specs.Prelude.{ℕ, zero, suc, ◌+◌, ◌≡◌, ◌≢◌, if◌then◌else◌, List, [], ◌∷◌, ◌++◌, length}
use Rattle.trace_text.specs.declared.lines.Line.{Line}
use Rattle.trace_text.specs.declared.lines.Line.TheVariants.{J, Z}
use Rattle.trace_text.specs.Line.{line_text}
use Rattle.trace_text.specs.IsLine.{IsLine}
use Rattle.safety_laws.specs.TraceText.{lines_text}
use Rattle.scenario_data.specs.Content.{ScenarioContent}
use Rattle.sig_types.specs.Items.{Item}
use Rattle.cabinet_history.specs.Journals.{IsMerge, runs_of}
use Rattle.run_definition.specs.CabinetState.{CabinetState, opened_cabinet_states, coming_streams, round_acts, next_cabinet_state}
use Rattle.run_definition.specs.Lines.{acts_lines, head_lines, opening_lines}
use Rattle.trace_laws.specs.Faults.{same_head, rule_of, first_piece, IsNoLine}

-- nothing more is expected; or a line is expected; or the journal of a cabinet is expected, which may be any merge of
-- its streams and determines how the script continues
pub data Script : Type 0 where
  Ends : Script
  Says : (line : Line) → (rest : Script) → Script
  Hears : (cab : ℕ) → (streams : List (List Item)) → (next : List ℕ → Script) → Script

-- these lines, followed by the rest
abbrev pub say : List Line → Script → Script
say [] rest = rest
say (line ∷ lines) rest = Says line (say lines rest)

-- the lines lead from the first script to the second
abbrev pub Goes : Script → List Line → Script → Type 0
Goes script [] end = script ≡ end
Goes Ends (line ∷ lines) end = ⊥
Goes (Says due rest) (line ∷ lines) end = (line ≡ due) × Goes rest lines end
Goes (Hears cab streams next) (line ∷ lines) end =
    (journal : List ℕ) × (line ≡ J cab (runs_of journal)) × IsMerge streams journal × Goes (next journal) lines end

-- the script of a cabinet's round: its journal, the lines of what the journal brings, and then what follows
abbrev pub cabinet_script : ScenarioContent → ℕ → CabinetState → (List ℕ → Script) → Script
cabinet_script s cab t next =
    Hears cab (coming_streams s cab t) (λ journal. say (acts_lines cab t.cabinet_history (round_acts s cab t journal)) (next journal))

-- the script of the rounds of the cabinets from this number on; the cabinets before have these states after the
-- round, in order
abbrev pub cabinets_script : ScenarioContent → ℕ → List CabinetState → List CabinetState → (List CabinetState → Script) → Script
cabinets_script s first gone [] rest = rest gone
cabinets_script s first gone (t ∷ ts) rest =
    cabinet_script s first t (λ journal. cabinets_script s (first + 1) (gone ++ next_cabinet_state s first t journal ∷ []) ts rest)

-- the script of a round: its number, the master's notes, and the round of each cabinet
abbrev pub round_script : ScenarioContent → ℕ → List CabinetState → (List CabinetState → Script) → Script
round_script s round ts rest = say (head_lines s round ts) (cabinets_script s 1 [] ts rest)

-- the script of `n` rounds from this number on, and then the end
abbrev pub rounds_script : ScenarioContent → ℕ → ℕ → List CabinetState → Script
rounds_script s round zero ts = Says (Z s.rounds) Ends
rounds_script s round (suc n) ts = round_script s round ts (rounds_script s (round + 1) n)

-- the script of the lines after the first: the F lines before any tick, the rounds, and the end
abbrev pub script_of : ScenarioContent → Script
script_of s =
    say (opening_lines 1 (opened_cabinet_states s s.cabinets)) (rounds_script s 1 s.rounds (opened_cabinet_states s s.cabinets))

-- the rule that a line breaks if another is expected
abbrev pub rule_for : Line → Line → ℕ
rule_for due line = if same_head due line then rule_of line else 4

-- the script doesn't continue with this line, and this is the rule that the line breaks
abbrev pub Refuses : Script → Line → ℕ → Type 0
Refuses Ends line rule = ⊥
Refuses (Says due rest) line rule = (line ≢ due) × (rule ≡ rule_for due line)
Refuses (Hears cab streams next) line rule =
    ((journal : List ℕ) → line ≡ J cab (runs_of journal) → IsMerge streams journal → ⊥) × (rule ≡ rule_for (J cab []) line)

-- the script doesn't continue with the bytes that are left, and this is the rule that they break
pub data Stops (script : Script) : List ℕ → ℕ → Type 0 where
  Lacking : script ≢ Ends → Stops script [] 10
  Beyond : (left : List ℕ) → script ≡ Ends → left ≢ [] → Stops script left 11
  Unread : (left : List ℕ) → script ≢ Ends → left ≢ [] → IsNoLine (first_piece left) → Stops script left 2
  Other : (line : Line) → (left : List ℕ) → (rule : ℕ) → IsLine line → Refuses script line rule → Stops script (line_text line ++ left) rule

-- the text leaves the script after `n` lines
pub record FaultIn (script : Script) (text : List ℕ) (n rule : ℕ) : Type 0 where
  pub before : List Line
  pub left : List ℕ
  pub split : text ≡ lines_text before ++ left
  pub place : n ≡ length before
  pub mid : Script
  pub goes : Goes script before mid
  pub stops : Stops mid left rule

-- the first line of the text has the number `line`, and the text leaves the script at the line with the number `at`
pub record FaultsAt (script : Script) (text : List ℕ) (line at rule : ℕ) : Type 0 where
  pub n : ℕ
  pub place : at ≡ line + n
  pub fault : FaultIn script text n rule

-- the text begins with lines that lead from one place of the script to another. Its first line has the number `line`,
-- and the rest begins with the number `next`
pub record Walks (from : Script) (text : List ℕ) (line : ℕ) (to : Script) (rest : List ℕ) (next : ℕ) : Type 0 where
  pub taken : List Line
  pub split : text ≡ lines_text taken ++ rest
  pub place : next ≡ line + length taken
  pub goes : Goes from taken to

-- The first fault of a text that is not a trace: the first line that can't follow the lines before it in any run, and
-- the rule that it breaks.
use Rattle.std.specs.Prelude.{ℕ, ◌+◌, ◌≡◌, ◌≢◌, ◌<◌, ◌⊎◌, ◌==◌, Bool, true, false, if◌then◌else◌, List, [], ◌∷◌, ◌++◌, length}
use Rattle.sig_types.specs.declared.notes.MasterNote.{MasterNote}
use Rattle.sig_types.specs.declared.notes.MasterNote.TheVariants as note
use Rattle.trace_text.specs.declared.lines.Line.{Line}
use Rattle.trace_text.specs.declared.lines.Line.TheVariants.{F, R, M, J, L, A, Z}
use Rattle.trace_text.specs.Line.{line_text}
use Rattle.trace_text.specs.IsLine.{IsLine}
use Rattle.safety_laws.specs.TraceText.{lines_text}
use Rattle.scenario_data.specs.Content.{ScenarioContent}
use Rattle.trace_laws.specs.Traces.{Opens, IsCheckable, IsTraceOf, IsFrontOf, MayFollow}

-- the cabinet of a note
abbrev pub cabinet_of : MasterNote → ℕ
cabinet_of (note.Fail cab) = cab
cabinet_of (note.Good cab) = cab
cabinet_of (note.Pattern cab pattern) = cab
cabinet_of (note.LoadDone cab load) = cab
cabinet_of (note.LoadRefused cab load status index) = cab

-- both lines are of one kind and of the same cabinet; two R lines or two Z lines also have the same number
abbrev pub same_head : Line → Line → Bool
same_head (F cab tick veh ped mode counter target version) (F other _ _ _ _ _ _ _) = cab == other
same_head (R round) (R other) = round == other
same_head (M a) (M b) = cabinet_of a == cabinet_of b
same_head (J cab runs) (J other _) = cab == other
same_head (L cab id outcome) (L other _ _) = cab == other
same_head (A cab pass reply) (A other _ _) = cab == other
same_head (Z rounds) (Z other) = rounds == other
same_head _ _ = false

-- the rule of a line that differs from the expected line, although it has the kind and the cabinet of that line
abbrev pub rule_of : Line → ℕ
rule_of (J cab runs) = 5
rule_of (F cab tick veh ped mode counter target version) = 6
rule_of (A cab pass reply) = 7
rule_of (L cab id outcome) = 8
rule_of (M note) = 9
rule_of _ = 4

-- the line can't follow these lines, and this is its rule. Rule 4: every line that may follow has a different kind,
-- cabinet or number. The other rules: a line with the same kind and cabinet may follow, but it differs from this line
abbrev pub IsRule : ScenarioContent → List Line → Line → ℕ → Type 0
IsRule s before line rule =
    (((next : Line) → MayFollow s before next → same_head next line ≡ false) × (rule ≡ 4))
    ⊎ ((next : Line) × MayFollow s before next × (same_head next line ≡ true) × (rule ≡ rule_of line))

-- the bytes up to the first newline, with this newline; all bytes if there is no newline
abbrev pub first_piece : List ℕ → List ℕ
first_piece [] = []
first_piece (b ∷ bytes) = if b == 10 then b ∷ [] else b ∷ first_piece bytes

-- the bytes aren't the text of a line
abbrev pub IsNoLine : List ℕ → Type 0
IsNoLine bytes = (line : Line) → IsLine line → bytes ≡ line_text line → ⊥

-- no run continues these lines with the bytes that are left, and this is the rule. Rule 10: no bytes are left, but no
-- run ends here. Rule 11: bytes are left, but a run ends here. Rule 2: the bytes up to the newline aren't a line. The
-- other rules: the next line can't follow
pub data Departs (s : ScenarioContent) (before : List Line) : List ℕ → ℕ → Type 0 where
  Short : (IsTraceOf s before → ⊥) → Departs s before [] 10
  Behind : (left : List ℕ) → IsTraceOf s before → left ≢ [] → Departs s before left 11
  NoLine : (left : List ℕ) → (IsTraceOf s before → ⊥) → left ≢ [] → IsNoLine (first_piece left) → Departs s before left 2
  Differs : (line : Line) → (left : List ℕ) → (rule : ℕ) → (IsTraceOf s before → ⊥) → IsLine line → (MayFollow s before line → ⊥)
      → IsRule s before line rule → Departs s before (line_text line ++ left) rule

-- after the first line the text has `n` lines with which a run begins. No run continues with the bytes after them,
-- and `rule` is the rule that they break
pub record FaultOf (s : ScenarioContent) (text : List ℕ) (n rule : ℕ) : Type 0 where
  pub before : List Line
  pub left : List ℕ
  pub split : text ≡ lines_text before ++ left
  pub place : n ≡ length before
  pub front : IsFrontOf s before
  pub departs : Departs s before left rule

-- the first fault of a text: the number of its line, counted from 1, and its rule. A text that is too long has line 0
-- and rule 1
pub data FirstFault : List ℕ → ℕ → ℕ → Type 0 where
  TooLong : (text : List ℕ) → 67108864 < length text → FirstFault text 0 1
  Empty : FirstFault [] 1 10
  NoFirst : (text : List ℕ) → IsCheckable text → text ≢ [] → IsNoLine (first_piece text) → FirstFault text 1 2
  NoScenario : (line : Line) → (left : List ℕ) → IsCheckable (line_text line ++ left) → IsLine line
      → ((s : ScenarioContent) → Opens line s → ⊥) → FirstFault (line_text line ++ left) 1 3
  Later : (s : ScenarioContent) → (line : Line) → (left : List ℕ) → (n rule : ℕ) → IsCheckable (line_text line ++ left) → Opens line s
      → FaultOf s left n rule → FirstFault (line_text line ++ left) (n + 2) rule

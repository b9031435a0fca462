-- Of whole texts: a text has one first fault at most, a trace has none, and it gives its scenario and its journals.
use Rattle.std.proofs.Common.{◌≡◌, ◌≢◌, ◌<◌, ◌∙◌, ◌+◌, ℕ, List, [], ◌∷◌, ◌++◌, length, refl, sym, ap, subst, arith}
use Rattle.trace_text.specs.declared.lines.Line.{Line}
use Rattle.trace_text.specs.declared.lines.Line.TheVariants.{S}
use Rattle.trace_text.specs.Line.{line_text}
use Rattle.trace_text.specs.IsLine.{IsLine}
use Rattle.safety_laws.specs.TraceText.{AreLines, lines_text}
use Rattle.scenario_data.specs.Content.{ScenarioContent}
use Rattle.scenario_read.specs.Answers.{IsScenario}
use Rattle.runnable.specs.Runnable.{Runnable}
use Rattle.run_definition.specs.Lines.{rest_lines, run_lines, run_text}
use Rattle.run_definition.specs.Orders.{AreJournals}
use Rattle.trace_laws.specs.Text.{TellsAllKept}
use Rattle.trace_laws.specs.Traces.{Opens, IsTrace, IsCheckable}
use Rattle.trace_laws.specs.Faults.{IsNoLine, first_piece, FaultOf, FirstFault, TooLong, Empty, NoFirst, NoScenario, Later}
use Rattle.trace_laws.specs.Laws.{FrontsAreProper, JournalsAreTold, FaultsAreDetermined, TracesHaveNoFault, TellsOfRun}
use Rattle.trace_laws.specs.Script.{script_of}
use Rattle.trace_laws.proofs.Runs.{run-path}
use Rattle.trace_laws.proofs.Texts.{lines-tell, are-first}
use Rattle.trace_laws.proofs.Exact.{no-trace, fault-one-place}
use Rattle.trace_laws.proofs.Back.{fault-in}

-- the text of a scenario's line
json_in : Line → List ℕ
json_in (S json) = json
json_in _ = []

same-json : (a b : List ℕ) → S a ≡ S b → a ≡ b
unfolding json_in
same-json a b e = ap json_in e

-- what other crates have proved of scenarios and of the lines of runs
pub record Laws : Type 0 where
  pub one : (bytes : List ℕ) (a b : ScenarioContent) → IsScenario bytes a → IsScenario bytes b → a ≡ b
  pub runs : (bytes : List ℕ) (s : ScenarioContent) → IsScenario bytes s → Runnable s
  pub proper : (s : ScenarioContent) → Runnable s → (journals : List (List (List ℕ))) → AreJournals s journals → AreLines (run_lines s journals)

-- the line that has a scenario is a line
opens-line : Laws → (first : Line) (s : ScenarioContent) → Opens first s → IsLine first
opens-line laws first s opens =
    let run : Runnable s = laws.runs s.compact s opens.1 in
    subst (λ (x : Line). IsLine x) (sym opens.0) (run.one_line, tt)

-- and it gives one scenario
opens-one : Laws → (first : Line) (s t : ScenarioContent) → Opens first s → Opens first t → s ≡ t
opens-one laws first s t a b =
    let same : s.compact ≡ t.compact = same-json s.compact t.compact (sym a.0 ∙ b.0) in
    laws.one s.compact s t a.1 (subst (λ (x : List ℕ). IsScenario x t) (sym same) b.1)

pub fronts-proper : ((s : ScenarioContent) → Runnable s → (journals : List (List (List ℕ))) → AreJournals s journals → AreLines (run_lines s journals)) → FrontsAreProper
fronts-proper proper s before run front =
    let (rest, (journals, are, is)) = front in
    are-first before rest (subst (λ (x : List Line). AreLines x) (sym is) (proper s run journals are).1)

-- ---- faults after the first line

rest-determined : Laws → (s : ScenarioContent) (text : List ℕ) (n rule m also : ℕ) → Runnable s → FaultOf s text n rule → FaultOf s text m also → (n ≡ m) × (rule ≡ also)
unfolding fault-in
rest-determined laws s text n rule m also run f g =
    let proper : FrontsAreProper = fronts-proper laws.proper in
    fault-one-place lines-tell (script_of s) text n rule m also (fault-in s text n rule f) (fault-in s text m also g)
    (proper s f.before run f.front) (proper s g.before run g.front)

rest-faultless : Laws → (s : ScenarioContent) (text : List ℕ) (n rule : ℕ) (journals : List (List (List ℕ))) → Runnable s → AreJournals s journals → text ≡ lines_text (rest_lines s journals)
    → FaultOf s text n rule → ⊥
unfolding fault-in
rest-faultless laws s text n rule journals run are is f =
    let inside = fault-in s text n rule f in
    no-trace lines-tell (script_of s) inside.mid inside.before (rest_lines s journals) inside.left rule
    (fronts-proper laws.proper s f.before run f.front) (laws.proper s run journals are).1
    inside.goes (run-path s (rest_lines s journals) (journals, are, refl)) (sym inside.split ∙ is) inside.stops

-- ---- whole texts

-- a text that begins with a line has a first piece that is one
no-line-first : (first : Line) (left : List ℕ) → IsLine first → IsNoLine (first_piece (line_text first ++ left)) → ⊥
no-line-first first left is none = none first is (lines-tell.piece first left is)

too-long : (text : List ℕ) → 67108864 < length text → IsCheckable text → ⊥
too-long text long short = omega (arith, long, short)

long-one : (text : List ℕ) (m q : ℕ) → 67108864 < length text → FirstFault text m q → (0 ≡ m) × (1 ≡ q)
long-one text m q long (TooLong t l) = (refl, refl)
long-one text m q long Empty = absurd (omega (arith, long))
long-one text m q long (NoFirst t short some none) = absurd (too-long t long short)
long-one text m q long (NoScenario line left short is none) = absurd (too-long (line_text line ++ left) long short)
long-one text m q long (Later s line left n rule short opens f) = absurd (too-long (line_text line ++ left) long short)

empty-one : Laws → (text : List ℕ) (m q : ℕ) → text ≡ [] → FirstFault text m q → (1 ≡ m) × (10 ≡ q)
empty-one laws text m q e (TooLong t l) = absurd (let none : length t ≡ 0 = ap length e in omega (arith, none, l))
empty-one laws text m q e Empty = (refl, refl)
empty-one laws text m q e (NoFirst t short some none) = absurd (some e)
empty-one laws text m q e (NoScenario line left short is none) = absurd (lines-tell.some line left is e)
empty-one laws text m q e (Later s line left n rule short opens f) = absurd (lines-tell.some line left (opens-line laws line s opens) e)

unread-one : Laws → (text : List ℕ) (m q : ℕ) → IsCheckable text → text ≢ [] → IsNoLine (first_piece text) → FirstFault text m q → (1 ≡ m) × (2 ≡ q)
unread-one laws text m q few some none (TooLong t l) = absurd (too-long t l few)
unread-one laws text m q few some none Empty = absurd (some refl)
unread-one laws text m q few some none (NoFirst t short also nothing) = (refl, refl)
unread-one laws text m q few some none (NoScenario line left short is untold) = absurd (no-line-first line left is none)
unread-one laws text m q few some none (Later s line left n rule short opens f) = absurd (no-line-first line left (opens-line laws line s opens) none)

-- the same first line, and the same after it
same-first : (text : List ℕ) (first line : Line) (behind left : List ℕ) → IsLine first → IsLine line → text ≡ line_text first ++ behind → text ≡ line_text line ++ left
    → (first ≡ line) × (behind ≡ left)
same-first text first line behind left is also e f = lines-tell.told first line behind left is also (sym e ∙ f)

untold-one : Laws → (text : List ℕ) (m q : ℕ) (first : Line) (behind : List ℕ) → IsCheckable text → text ≡ line_text first ++ behind → IsLine first → ((s : ScenarioContent) → Opens first s → ⊥)
    → FirstFault text m q → (1 ≡ m) × (3 ≡ q)
untold-one laws text m q first behind few e is untold (TooLong t l) = absurd (too-long t l few)
untold-one laws text m q first behind few e is untold Empty = absurd (lines-tell.some first behind is (sym e))
untold-one laws text m q first behind few e is untold (NoFirst t short some none) = absurd (no-line-first first behind is (subst (λ (x : List ℕ). IsNoLine (first_piece x)) e none))
untold-one laws text m q first behind few e is untold (NoScenario line left short also none) = (refl, refl)
untold-one laws text m q first behind few e is untold (Later s line left n rule short opens f) =
    let same : first ≡ line = (same-first (line_text line ++ left) first line behind left is (opens-line laws line s opens) e refl).0 in
    absurd (untold s (subst (λ (x : Line). Opens x s) (sym same) opens))

later-one : Laws → (text : List ℕ) (m q : ℕ) (s : ScenarioContent) (first : Line) (behind : List ℕ) (k rule : ℕ) → IsCheckable text → text ≡ line_text first ++ behind → Opens first s → FaultOf s behind k rule
    → FirstFault text m q → (k + 2 ≡ m) × (rule ≡ q)
later-one laws text m q s first behind k rule few e opens f (TooLong t l) = absurd (too-long t l few)
later-one laws text m q s first behind k rule few e opens f Empty = absurd (lines-tell.some first behind (opens-line laws first s opens) (sym e))
later-one laws text m q s first behind k rule few e opens f (NoFirst t short some none) =
    absurd (no-line-first first behind (opens-line laws first s opens) (subst (λ (x : List ℕ). IsNoLine (first_piece x)) e none))
later-one laws text m q s first behind k rule few e opens f (NoScenario line left short also none) =
    let same : first ≡ line = (same-first (line_text line ++ left) first line behind left (opens-line laws first s opens) also e refl).0 in
    absurd (none s (subst (λ (x : Line). Opens x s) same opens))
later-one laws text m q s first behind k rule few e opens f (Later t line left n also short tells g) =
    let both = same-first (line_text line ++ left) first line behind left (opens-line laws first s opens) (opens-line laws line t tells) e refl in
    let one : t ≡ s = opens-one laws line t s tells (subst (λ (x : Line). Opens x s) both.0 opens) in
    let there : FaultOf s left n also = subst (λ (x : ScenarioContent). FaultOf x left n also) one g in
    let here : FaultOf s left k rule = subst (λ (x : List ℕ). FaultOf s x k rule) both.1 f in
    let (places, rules) = rest-determined laws s left k rule n also (laws.runs s.compact s opens.1) here there in
    (ap (λ (x : ℕ). x + 2) places, rules)

pub faults-determined : Laws → FaultsAreDetermined
faults-determined laws text line rule at also (TooLong t l) g = long-one t at also l g
faults-determined laws text line rule at also Empty g = empty-one laws [] at also refl g
faults-determined laws text line rule at also (NoFirst t short some none) g = unread-one laws t at also short some none g
faults-determined laws text line rule at also (NoScenario first left short is none) g = untold-one laws (line_text first ++ left) at also first left short refl is none g
faults-determined laws text line rule at also (Later s first left n r short opens f) g = later-one laws (line_text first ++ left) at also s first left n r short refl opens f g

-- ---- traces

trace-one : Laws → (text : List ℕ) (line rule : ℕ) (s : ScenarioContent) (journals : List (List (List ℕ))) → IsCheckable text → IsScenario s.compact s → AreJournals s journals
    → text ≡ line_text (S s.compact) ++ lines_text (rest_lines s journals) → FirstFault text line rule → ⊥
trace-one laws text line rule s journals few told are e (TooLong t l) = too-long t l few
trace-one laws text line rule s journals few told are e Empty = lines-tell.some (S s.compact) (lines_text (rest_lines s journals)) (opens-line laws (S s.compact) s (refl, told)) (sym e)
trace-one laws text line rule s journals few told are e (NoFirst t short some none) =
    no-line-first (S s.compact) (lines_text (rest_lines s journals)) (opens-line laws (S s.compact) s (refl, told)) (subst (λ (x : List ℕ). IsNoLine (first_piece x)) e none)
trace-one laws text line rule s journals few told are e (NoScenario first left short is none) =
    let same : S s.compact ≡ first = (same-first (line_text first ++ left) (S s.compact) first (lines_text (rest_lines s journals)) left (opens-line laws (S s.compact) s (refl, told)) is e refl).0 in
    none s (sym same, told)
trace-one laws text line rule s journals few told are e (Later t first left n r short opens f) =
    let both = same-first (line_text first ++ left) (S s.compact) first (lines_text (rest_lines s journals)) left (opens-line laws (S s.compact) s (refl, told)) (opens-line laws first t opens) e refl in
    let one : t ≡ s = opens-one laws first t s opens (sym both.0, told) in
    rest-faultless laws s left n r journals (laws.runs s.compact s told) are (sym both.1) (subst (λ (x : ScenarioContent). FaultOf x left n r) one f)

pub trace-faultless : Laws → TracesHaveNoFault
trace-faultless laws text line rule few trace f = let (s, journals, told, are, is) = trace in trace-one laws text line rule s journals few told are is f

-- the scenario of lines that begin with one
first-of : (json : List ℕ) (a : Line) (xs ys : List Line) → S json ∷ xs ≡ a ∷ ys → S json ≡ a
first-of json a xs ys e = cc

pub journals-told : Laws → ((a b : List Line) → AreLines a → AreLines b → lines_text a ≡ lines_text b → a ≡ b)
    → ((s : ScenarioContent) (journals others : List (List (List ℕ))) → AreJournals s journals → AreJournals s others → run_lines s journals ≡ run_lines s others → journals ≡ others)
    → JournalsAreTold
journals-told laws texts told s t js ks is also are ares e =
    let lines : run_lines s js ≡ run_lines t ks = texts (run_lines s js) (run_lines t ks) (laws.proper s (laws.runs s.compact s is) js are) (laws.proper t (laws.runs t.compact t also) ks ares) e in
    let one : s ≡ t = opens-one laws (S s.compact) s t (refl, is) (first-of s.compact (S t.compact) (rest_lines s js) (rest_lines t ks) lines, also) in
    (one, told s js ks are (subst (λ (x : ScenarioContent). AreJournals x ks) (sym one) ares) (lines ∙ ap (λ (x : ScenarioContent). run_lines x ks) (sym one)))

pub trace-tells : Laws → ((s : ScenarioContent) → Runnable s → (journals : List (List (List ℕ))) → AreJournals s journals → TellsAllKept s journals (run_text s journals))
    → (text : List ℕ) → IsTrace text → TellsOfRun text
trace-tells laws tells text trace =
    let (s, journals, told, are, is) = trace in
    let run : Runnable s = laws.runs s.compact s told in
    record {
      scenario = s;
      journals = journals;
      told = told;
      runs = run;
      are = are;
      text_is = is;
      kept = subst (λ (x : List ℕ). TellsAllKept s journals x) (sym is) (tells s run journals are);
    }

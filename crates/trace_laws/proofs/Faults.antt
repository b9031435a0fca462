-- Where the text leaves the script is the first fault.
use Rattle.std.proofs.Common.{◌≡◌, ◌+◌, ◌∙◌, inl, inr, ℕ, List, [], ◌∷◌, ◌++◌, length, Bool, true, false, if◌then◌else◌, refl, sym, ap, subst, arith, append_assoc}
use Rattle.std.proofs.lemmas.List.{length-append}
use Rattle.trace_text.specs.declared.lines.Line.{Line}
use Rattle.trace_text.specs.declared.lines.Line.TheVariants.{S, F, R, M, J, L, A, Z}
use Rattle.trace_text.specs.Line.{line_text}
use Rattle.scenario_data.specs.Content.{ScenarioContent}
use Rattle.cabinet_history.specs.Journals.{serial, runs_of}
use Rattle.safety_laws.specs.TraceText.{lines_text}
use Rattle.trace_laws.specs.Traces.{IsTraceOf, IsFrontOf, MayFollow}
use Rattle.trace_laws.specs.Faults.{same_head, rule_of, IsRule, Departs, Short, Behind, NoLine, Differs, FaultOf}
use Rattle.trace_laws.specs.Script.{Script, Ends, Says, Hears, Goes, Refuses, Stops, Lacking, Beyond, Unread, Other, FaultIn, script_of}
use Rattle.run_definition.proofs.Merges.{serial-merge}
use Rattle.trace_laws.proofs.Paths.{goes-append, goes-same, goes-split, finishes, says-goes-on, hears-goes-on}
use Rattle.trace_laws.proofs.Runs.{path-is-run, run-path}

pub text-append : (xs ys : List Line) → lines_text (xs ++ ys) ≡ lines_text xs ++ lines_text ys
text-append [] ys = refl
text-append (x ∷ xs) ys = ap (λ (t : List ℕ). line_text x ++ t) (text-append xs ys) ∙ sym (append_assoc (line_text x) (lines_text xs) (lines_text ys))

-- a fault after some lines
pub fault-later : (a b : Script) (xs : List Line) (text : List ℕ) (n rule : ℕ) → Goes a xs b → FaultIn b text n rule → FaultIn a (lines_text xs ++ text) (length xs + n) rule
fault-later a b xs text n rule go f = record {
  before = xs ++ f.before;
  left = f.left;
  split = ap (λ (t : List ℕ). lines_text xs ++ t) f.split ∙ sym (append_assoc (lines_text xs) (lines_text f.before) f.left) ∙ ap (λ (t : List ℕ). t ++ f.left) (sym (text-append xs f.before));
  place = omega (arith, f.place, length-append xs f.before);
  mid = f.mid;
  goes = goes-append a b f.mid xs f.before go f.goes;
  stops = f.stops;
}

-- a place of the script is that of a prefix
pub front-of : (s : ScenarioContent) (before : List Line) (mid : Script) → Goes (script_of s) before mid → IsFrontOf s before
front-of s before mid go =
    let (rest, on) = finishes mid in
    (rest, path-is-run s (before ++ rest) (goes-append (script_of s) mid Ends before rest go on))

-- a front has a place
pub place-of : (s : ScenarioContent) (before : List Line) → IsFrontOf s before → (mid : Script) × Goes (script_of s) before mid
place-of s before front =
    let (rest, trace) = front in
    let b = goes-split (script_of s) Ends before rest (run-path s (before ++ rest) trace) in (b.mid, b.first)

-- what follows a front is a step from its place
pub step-of : (s : ScenarioContent) (before : List Line) (mid : Script) (line : Line) → Goes (script_of s) before mid → MayFollow s before line → (next : Script) × Goes mid (line ∷ []) next
step-of s before mid line go may =
    let (next, on) = place-of s (before ++ line ∷ []) may in
    let b = goes-split (script_of s) next before (line ∷ []) on in
    let same : b.mid ≡ mid = goes-same (script_of s) b.mid mid before b.first go in
    (next, subst (λ (x : Script). Goes x (line ∷ []) next) same b.then_on)

pub step-may : (s : ScenarioContent) (before : List Line) (mid next : Script) (line : Line) → Goes (script_of s) before mid → Goes mid (line ∷ []) next → MayFollow s before line
step-may s before mid next line go step = front-of s (before ++ line ∷ []) next (goes-append (script_of s) mid next before (line ∷ []) go step)

pub ends-whole : (s : ScenarioContent) (before : List Line) (mid : Script) → Goes (script_of s) before mid → IsTraceOf s before → mid ≡ Ends
ends-whole s before mid go trace = goes-same (script_of s) mid Ends before go (run-path s before trace)

-- of a journal's line only its cabinet is looked at
pub same-heads : (cab : ℕ) (a b : List (ℕ × ℕ)) (line : Line) → same_head (J cab a) line ≡ same_head (J cab b) line
same-heads cab a b (S json) = refl
same-heads cab a b (F other tick veh ped mode counter target version) = refl
same-heads cab a b (R round) = refl
same-heads cab a b (M note) = refl
same-heads cab a b (J other runs) = refl
same-heads cab a b (L other id outcome) = refl
same-heads cab a b (A other pass reply) = refl
same-heads cab a b (Z rounds) = refl

-- the rule where this line is expected
rule-where : (s : ScenarioContent) (before : List Line) (due line : Line) (rule : ℕ) (test : Bool) → same_head due line ≡ test → rule ≡ (if test then rule_of line else 4) → MayFollow s before due
    → ((next : Line) → MayFollow s before next → same_head next line ≡ same_head due line) → IsRule s before line rule
rule-where s before due line rule true e is may only = inr (due, may, e, is)
rule-where s before due line rule false e is may only = inl ((λ next follows. only next follows ∙ e), is)

refused : (s : ScenarioContent) (before : List Line) (mid : Script) (line : Line) (rule : ℕ) → Goes (script_of s) before mid → Refuses mid line rule
    → (IsTraceOf s before → ⊥) × (MayFollow s before line → ⊥) × IsRule s before line rule
refused s before Ends line rule go refuses = absurd refuses
refused s before (Says due rest) line rule go refuses = (
  (λ trace. says-goes-on due rest (ends-whole s before (Says due rest) go trace)),
  (λ may. let (next, step) = step-of s before (Says due rest) line go may in refuses.0 step.0),
  rule-where s before due line rule (same_head due line) refl refuses.1 (step-may s before (Says due rest) rest due go (refl, refl))
      (λ next follows. let (after, step) = step-of s before (Says due rest) next go follows in ap (λ (x : Line). same_head x line) step.0),
)
refused s before (Hears cab streams next) line rule go refuses =
    let due : Line = J cab (runs_of (serial streams)) in (
      (λ trace. hears-goes-on cab streams next (ends-whole s before (Hears cab streams next) go trace)),
      (λ may. let (after, step) = step-of s before (Hears cab streams next) line go may in let (journal, is, merge, on) = step in refuses.0 journal is merge),
      rule-where s before due line rule (same_head due line) refl (refuses.1 ∙ ap (λ (b : Bool). if b then rule_of line else 4) (same-heads cab [] (runs_of (serial streams)) line))
          (step-may s before (Hears cab streams next) (next (serial streams)) due go (serial streams, refl, serial-merge streams, refl))
          (λ other follows. let (after, step) = step-of s before (Hears cab streams next) other go follows in let (journal, is, merge, on) = step in
          ap (λ (x : Line). same_head x line) is ∙ same-heads cab (runs_of journal) (runs_of (serial streams)) line),
    )

departs-at : (s : ScenarioContent) (before : List Line) (mid : Script) (left : List ℕ) (rule : ℕ) → Goes (script_of s) before mid → Stops mid left rule → Departs s before left rule
departs-at s before mid left rule go (Lacking open_) = Short (λ trace. open_ (ends-whole s before mid go trace))
departs-at s before mid left rule go (Beyond l ended some) = Behind l (path-is-run s before (subst (λ (x : Script). Goes (script_of s) before x) ended go)) some
departs-at s before mid left rule go (Unread l open_ some none) = NoLine l (λ trace. open_ (ends-whole s before mid go trace)) some none
departs-at s before mid left rule go (Other line l r is refuses) =
    let both = refused s before mid line r go refuses in Differs line l r both.0 is both.1 both.2

-- a text that leaves the script has its first fault there
pub fault-of : (s : ScenarioContent) (text : List ℕ) (n rule : ℕ) → FaultIn (script_of s) text n rule → FaultOf s text n rule
fault-of s text n rule f = record {
  before = f.before;
  left = f.left;
  split = f.split;
  place = f.place;
  front = front-of s f.before f.mid f.goes;
  departs = departs-at s f.before f.mid f.left rule f.goes f.stops;
}

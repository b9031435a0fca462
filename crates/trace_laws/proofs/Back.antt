-- The first fault is where the text leaves the script.
use Rattle.std.proofs.Common.{◌∙◌, inl, inr, ℕ, List, [], Bool, if◌then◌else◌, refl, sym, ap, subst}
use Rattle.trace_text.specs.declared.lines.Line.{Line}
use Rattle.trace_text.specs.declared.lines.Line.TheVariants.{J}
use Rattle.scenario_data.specs.Content.{ScenarioContent}
use Rattle.cabinet_history.specs.Journals.{serial, runs_of}
use Rattle.trace_laws.specs.Traces.{IsTraceOf, MayFollow}
use Rattle.trace_laws.specs.Faults.{same_head, rule_of, IsRule, Departs, Short, Behind, NoLine, Differs, FaultOf}
use Rattle.trace_laws.specs.Script.{Script, Ends, Says, Hears, Goes, Refuses, Stops, Lacking, Beyond, Unread, Other, FaultIn, script_of}
use Rattle.run_definition.proofs.Merges.{serial-merge}
use Rattle.trace_laws.proofs.Runs.{path-is-run}
use Rattle.trace_laws.proofs.Faults.{place-of, step-of, step-may, same-heads, ends-whole}

-- a line that may not follow is refused
refused-back : (s : ScenarioContent) (before : List Line) (mid : Script) (line : Line) (rule : ℕ) → Goes (script_of s) before mid → (IsTraceOf s before → ⊥) → (MayFollow s before line → ⊥) → IsRule s before line rule
    → Refuses mid line rule
refused-back s before Ends line rule go unended never is = absurd (unended (path-is-run s before go))
refused-back s before (Says due rest) line rule go unended never is = (
  (λ e. never (step-may s before (Says due rest) rest line go (e, refl))),
  elim is [
    | inl none ↦ none.1 ∙ ap (λ (b : Bool). if b then rule_of line else 4) (sym (none.0 due (step-may s before (Says due rest) rest due go (refl, refl))))
    | inr found ↦ let (next, may, same, r) = found in let (after, step) = step-of s before (Says due rest) next go may in
        r ∙ ap (λ (b : Bool). if b then rule_of line else 4) (sym same ∙ ap (λ (x : Line). same_head x line) step.0)
  ],
)
refused-back s before (Hears cab streams next) line rule go unended never is = (
  (λ journal e merge. never (step-may s before (Hears cab streams next) (next journal) line go (journal, e, merge, refl))),
  elim is [
    | inl none ↦ none.1 ∙ ap (λ (b : Bool). if b then rule_of line else 4)
        (sym (none.0 (J cab (runs_of (serial streams))) (step-may s before (Hears cab streams next) (next (serial streams)) (J cab (runs_of (serial streams))) go (serial streams, refl, serial-merge streams, refl)))
        ∙ same-heads cab (runs_of (serial streams)) [] line)
    | inr found ↦ let (other, may, same, r) = found in let (after, step) = step-of s before (Hears cab streams next) other go may in let (journal, line_is, merge, on) = step in
        r ∙ ap (λ (b : Bool). if b then rule_of line else 4) (sym same ∙ ap (λ (x : Line). same_head x line) line_is ∙ same-heads cab (runs_of journal) [] line)
  ],
)

pub stop-at : (s : ScenarioContent) (before : List Line) (mid : Script) (left : List ℕ) (rule : ℕ) → Goes (script_of s) before mid → Departs s before left rule → Stops mid left rule
stop-at s before mid left rule go (Short unended) = Lacking (λ e. unended (path-is-run s before (subst (λ (x : Script). Goes (script_of s) before x) e go)))
stop-at s before mid left rule go (Behind l trace some) = Beyond l (ends-whole s before mid go trace) some
stop-at s before mid left rule go (NoLine l unended some none) = Unread l (λ e. unended (path-is-run s before (subst (λ (x : Script). Goes (script_of s) before x) e go))) some none
stop-at s before mid left rule go (Differs line l r unended proper never is) = Other line l r proper (refused-back s before mid line r go unended never is)

unfoldable pub fault-in : (s : ScenarioContent) (text : List ℕ) (n rule : ℕ) → FaultOf s text n rule → FaultIn (script_of s) text n rule
fault-in s text n rule f =
    let (mid, go) = place-of s f.before f.front in
    record { before = f.before; left = f.left; split = f.split; place = f.place; mid = mid; goes = go; stops = stop-at s f.before mid f.left rule go f.departs }

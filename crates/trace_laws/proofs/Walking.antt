-- Lines that are in a text, and lead from one place of the script to another; and where it leaves the script.
use Rattle.std.proofs.Common.{◌≡◌, ◌+◌, ◌∙◌, ℕ, List, [], ◌∷◌, ◌++◌, length, refl, sym, ap, subst, arith, append_assoc, append-nil}
use Rattle.std.proofs.lemmas.List.{length-append}
use Rattle.trace_text.specs.declared.lines.Line.{Line}
use Rattle.trace_text.specs.declared.lines.Line.TheVariants.{S}
use Rattle.trace_text.specs.Line.{line_text}
use Rattle.safety_laws.specs.TraceText.{lines_text}
use Rattle.scenario_data.specs.Content.{ScenarioContent}
use Rattle.trace_laws.specs.Traces.{Opens, IsTrace, IsCheckable}
use Rattle.trace_laws.specs.Faults.{FirstFault, Later}
use Rattle.trace_laws.specs.Script.{Script, Ends, Says, Walks, Stops, FaultIn, FaultsAt, script_of}
use Rattle.trace_laws.proofs.Paths.{goes-append}
use Rattle.trace_laws.proofs.Runs.{path-is-run}
use Rattle.trace_laws.proofs.Faults.{fault-later, fault-of, text-append}

-- no line
pub walks-none : (a : Script) (text : List ℕ) (line : ℕ) → Walks a text line a text line
walks-none a text line = record { taken = []; split = refl; place = omega arith; goes = refl }

-- one way and then another
pub walks-on : (a b c : Script) (text mid rest : List ℕ) (line next last : ℕ) → Walks a text line b mid next → Walks b mid next c rest last → Walks a text line c rest last
walks-on a b c text mid rest line next last w v = record {
  taken = w.taken ++ v.taken;
  split = w.split ∙ ap (λ (x : List ℕ). lines_text w.taken ++ x) v.split ∙ sym (append_assoc (lines_text w.taken) (lines_text v.taken) rest) ∙ ap (λ (x : List ℕ). x ++ rest) (sym (text-append w.taken v.taken));
  place = omega (arith, w.place, v.place, length-append w.taken v.taken);
  goes = goes-append a b c w.taken v.taken w.goes v.goes;
}

-- a fault after a way
pub faults-on : (a b : Script) (text mid : List ℕ) (line next at rule : ℕ) → Walks a text line b mid next → FaultsAt b mid next at rule → FaultsAt a text line at rule
faults-on a b text mid line next at rule w f = record {
  n = length w.taken + f.n;
  place = omega (arith, w.place, f.place);
  fault = subst (λ (x : List ℕ). FaultIn a x (length w.taken + f.n) rule) (sym w.split) (fault-later a b w.taken mid f.n rule w.goes f.fault);
}

-- the expected line
pub walks-line : (due : Line) (rest : Script) (text left : List ℕ) (line : ℕ) → text ≡ line_text due ++ left → Walks (Says due rest) text line rest left (line + 1)
walks-line due rest text left line is = record {
  taken = due ∷ [];
  split = is ∙ ap (λ (x : List ℕ). x ++ left) (sym (append-nil (line_text due)));
  place = refl;
  goes = (refl, refl);
}

-- the text stops at its first line
pub stops-here : (a : Script) (text : List ℕ) (line rule : ℕ) → Stops a text rule → FaultsAt a text line line rule
stops-here a text line rule stops = record {
  n = 0;
  place = omega arith;
  fault = record { before = []; left = text; split = refl; place = refl; mid = a; goes = refl; stops = stops };
}

-- after a first line that has a scenario, the text leads to the end: it is a trace
pub whole-is-trace : (s : ScenarioContent) (first : Line) (left : List ℕ) (next : ℕ) → Opens first s → Walks (script_of s) left 2 Ends [] next → IsTrace (line_text first ++ left)
whole-is-trace s first left next opens w =
    let (journals, are, is) = path-is-run s w.taken w.goes in (
      s,
      journals,
      opens.1,
      are,
      ap (λ (x : Line). line_text x ++ left) opens.0
          ∙ ap (λ (x : List ℕ). line_text (S s.compact) ++ x) (w.split ∙ append-nil (lines_text w.taken) ∙ ap lines_text is),
    )

-- or it leaves the script: that is the first fault
pub fault-is-first : (s : ScenarioContent) (first : Line) (left : List ℕ) (at rule : ℕ) → IsCheckable (line_text first ++ left) → Opens first s → FaultsAt (script_of s) left 2 at rule
    → FirstFault (line_text first ++ left) at rule
fault-is-first s first left at rule short opens f =
    let same : f.n + 2 ≡ at = omega (arith, f.place) in
    subst (λ (n : ℕ). FirstFault (line_text first ++ left) n rule) same (Later s first left f.n rule short opens (fault-of s left f.n rule f.fault))

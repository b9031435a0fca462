-- Each text is a trace or has a first fault. Which of them is not decided here, so it is said of both together: not both can fail.
use Rattle.std.proofs.Common.{◌≡◌, ◌≢◌, ◌∙◌, ◌+◌, ◌==◌, if◌then◌else◌, Bool, true, false, ℕ, List, [], ◌∷◌, ◌++◌, length, refl, sym, ap, subst, arith, append-nil}
use Rattle.std.proofs.lemmas.Bool.{leb-true, leb-false}
use Rattle.std.specs.Prelude.{nat_le}
use Rattle.trace_text.specs.declared.lines.Line.{Line}
use Rattle.trace_text.specs.declared.lines.Line.TheVariants.{J}
use Rattle.trace_text.specs.Line.{line_text}
use Rattle.trace_text.specs.IsLine.{IsLine}
use Rattle.scenario_data.specs.Content.{ScenarioContent}
use Rattle.cabinet_history.specs.Journals.{IsMerge, runs_of}
use Rattle.trace_laws.specs.Traces.{Opens, IsTrace, IsCheckable}
use Rattle.trace_laws.specs.Faults.{first_piece, FirstFault, TooLong, Empty, NoFirst, NoScenario}
use Rattle.trace_laws.specs.Laws.{NothingElse}
use Rattle.trace_laws.specs.Script.{Script, Ends, Says, Hears, Lacking, Beyond, Unread, Other, FaultsAt, Walks, script_of, rule_for}
use Rattle.trace_laws.proofs.Paths.{says-goes-on, hears-goes-on}
use Rattle.trace_laws.proofs.Walking.{walks-none, walks-on, faults-on, walks-line, stops-here, whole-is-trace, fault-is-first}

-- what follows the first piece
behind_piece : List ℕ → List ℕ
behind_piece [] = []
behind_piece (b ∷ bytes) = if b == 10 then bytes else behind_piece bytes

piece-and-rest : (bytes : List ℕ) → bytes ≡ first_piece bytes ++ behind_piece bytes
unfolding behind_piece
piece-and-rest [] = refl
piece-and-rest (b ∷ bytes) = split (b == 10) (piece-and-rest bytes)
  where
    split : (t : Bool) → bytes ≡ first_piece bytes ++ behind_piece bytes
        → b ∷ bytes ≡ (if t then b ∷ [] else b ∷ first_piece bytes) ++ (if t then bytes else behind_piece bytes)
    split true e = refl
    split false e = ap (λ (x : List ℕ). b ∷ x) e

-- the text leads to the end
abbrev Ended : Script → List ℕ → ℕ → Type 0
Ended a text line = (next : ℕ) × Walks a text line Ends [] next

-- the text neither leads to the end nor leaves the script
record Neither (a : Script) (text : List ℕ) (line : ℕ) : Type 0 where
  ends : Ended a text line → ⊥
  faults : (at rule : ℕ) → FaultsAt a text line at rule → ⊥

-- nor does what follows lines that lead on
neither-on : (a b : Script) (text left : List ℕ) (line next : ℕ) → Walks a text line b left next → Neither a text line → Neither b left next
neither-on a b text left line next w n = record {
  ends = λ e. n.ends (let (last, v) = e in (last, walks-on a b Ends text left [] line next last w v));
  faults = λ at rule f. n.faults at rule (faults-on a b text left line next at rule w f);
}

-- the text begins with a line, since it is not so that it begins with none
not-stopped : (a : Script) (text : List ℕ) (line : ℕ) → Neither a text line → a ≢ Ends → text ≢ [] → ((l : Line) (left : List ℕ) → IsLine l → text ≡ line_text l ++ left → ⊥) → ⊥
not-stopped a text line n on some none =
    n.faults line 2 (stops-here a text line 2 (Unread text on some
    (λ l is e. none l (behind_piece text) is (piece-and-rest text ∙ ap (λ (x : List ℕ). x ++ behind_piece text) e))))

no-way-out : (a : Script) (text : List ℕ) (line : ℕ) → Neither a text line → ⊥
no-way-out Ends [] line n = n.ends (line, walks-none Ends [] line)
no-way-out Ends (b ∷ bytes) line n = n.faults line 11 (stops-here Ends (b ∷ bytes) line 11 (Beyond (b ∷ bytes) refl (λ e. omega (arith, ap length e))))
no-way-out (Says due rest) [] line n = n.faults line 10 (stops-here (Says due rest) [] line 10 (Lacking (says-goes-on due rest)))
no-way-out (Says due rest) (b ∷ bytes) line n =
    let begins : (left : List ℕ) → b ∷ bytes ≡ line_text due ++ left → ⊥ =
    λ left e. no-way-out rest left (line + 1) (neither-on (Says due rest) rest (b ∷ bytes) left line (line + 1) (walks-line due rest (b ∷ bytes) left line e) n) in
    not-stopped (Says due rest) (b ∷ bytes) line n (says-goes-on due rest) (λ e. omega (arith, ap length e))
    (λ l left is e. n.faults line (rule_for due l) (subst (λ (x : List ℕ). FaultsAt (Says due rest) x line line (rule_for due l)) (sym e)
    (stops-here (Says due rest) (line_text l ++ left) line (rule_for due l)
    (Other l left (rule_for due l) is ((λ same. begins left (e ∙ ap (λ (x : Line). line_text x ++ left) same)), refl)))))
no-way-out (Hears cab streams next) [] line n = n.faults line 10 (stops-here (Hears cab streams next) [] line 10 (Lacking (hears-goes-on cab streams next)))
no-way-out (Hears cab streams next) (b ∷ bytes) line n =
    let heard : (journal : List ℕ) (left : List ℕ) → IsMerge streams journal → b ∷ bytes ≡ line_text (J cab (runs_of journal)) ++ left → ⊥ =
    λ journal left merge e. no-way-out (next journal) left (line + 1)
    (neither-on (Hears cab streams next) (next journal) (b ∷ bytes) left line (line + 1)
    (record { taken = J cab (runs_of journal) ∷ []; split = e ∙ ap (λ (x : List ℕ). x ++ left) (sym (append-nil (line_text (J cab (runs_of journal))))); place = refl; goes = (journal, refl, merge, refl) }) n) in
    not-stopped (Hears cab streams next) (b ∷ bytes) line n (hears-goes-on cab streams next) (λ e. omega (arith, ap length e))
    (λ l left is e. n.faults line (rule_for (J cab []) l) (subst (λ (x : List ℕ). FaultsAt (Hears cab streams next) x line line (rule_for (J cab []) l)) (sym e)
    (stops-here (Hears cab streams next) (line_text l ++ left) line (rule_for (J cab []) l)
    (Other l left (rule_for (J cab []) l) is ((λ journal same merge. heard journal left merge (e ∙ ap (λ (x : Line). line_text x ++ left) same)), refl)))))

-- a first line that has a scenario
opened : (s : ScenarioContent) (first : Line) (left : List ℕ) → IsCheckable (line_text first ++ left) → Opens first s → (IsTrace (line_text first ++ left) → ⊥)
    → ((line rule : ℕ) → FirstFault (line_text first ++ left) line rule → ⊥) → ⊥
opened s first left few opens untrue faultless =
    no-way-out (script_of s) left 2 (record {
      ends = λ e. let (next, w) = e in untrue (whole-is-trace s first left next opens w);
      faults = λ at rule f. faultless at rule (fault-is-first s first left at rule few opens f);
    })

-- a text that is not too long
checkable : (text : List ℕ) → IsCheckable text → (IsTrace text → ⊥) → ((line rule : ℕ) → FirstFault text line rule → ⊥) → ⊥
checkable [] few untrue faultless = faultless 1 10 Empty
checkable (b ∷ bytes) few untrue faultless =
    faultless 1 2 (NoFirst (b ∷ bytes) few (λ e. omega (arith, ap length e))
    (λ first is e.
    let left : List ℕ = behind_piece (b ∷ bytes) in
    let all : b ∷ bytes ≡ line_text first ++ left = piece-and-rest (b ∷ bytes) ∙ ap (λ (x : List ℕ). x ++ left) e in
    let short : IsCheckable (line_text first ++ left) = subst (λ (x : List ℕ). IsCheckable x) all few in
    let no-trace : IsTrace (line_text first ++ left) → ⊥ = λ t. untrue (subst (λ (x : List ℕ). IsTrace x) (sym all) t) in
    let no-fault : (line rule : ℕ) → FirstFault (line_text first ++ left) line rule → ⊥ = λ line rule f. faultless line rule (subst (λ (x : List ℕ). FirstFault x line rule) (sym all) f) in
    no-fault 1 3 (NoScenario first left short is (λ s opens. opened s first left short opens no-trace no-fault))))

pub nothing-else : NothingElse
nothing-else text untrue faultless = by-length (nat_le (length text) 67108864) refl
  where
    by-length : (few : Bool) → nat_le (length text) 67108864 ≡ few → ⊥
    by-length true e = checkable text (leb-true (length text) 67108864 e) untrue faultless
    by-length false e = faultless 0 1 (TooLong text (omega (arith, leb-false (length text) 67108864 e)))

-- A text with a fault is not a trace: by what it means that a line's text describes the line.
use Rattle.std.proofs.Common.{◌≡◌, ◌∙◌, ℕ, suc, List, [], ◌∷◌, ◌++◌, length, refl, sym, ap, subst, append_assoc}
use Rattle.trace_text.specs.declared.lines.Line.{Line}
use Rattle.trace_text.specs.Line.{line_text}
use Rattle.trace_text.specs.IsLine.{IsLine}
use Rattle.safety_laws.specs.TraceText.{AreLines, lines_text}
use Rattle.run_definition.proofs.Runs.{same-journal}
use Rattle.trace_laws.specs.Faults.{first_piece}
use Rattle.trace_laws.specs.Laws.{LinesTell}
use Rattle.trace_laws.specs.Script.{Script, Ends, Says, Hears, Goes, Refuses, Stops, Lacking, Beyond, Unread, Other, FaultIn}

-- what is refused does not continue
refused-not-goes : (a b : Script) (line : Line) (more : List Line) (rule : ℕ) → Refuses a line rule → Goes a (line ∷ more) b → ⊥
refused-not-goes Ends b line more rule refuses go = go
refused-not-goes (Says due rest) b line more rule refuses go = refuses.0 go.0
refused-not-goes (Hears cab streams next) b line more rule refuses go = let (journal, is, merge, on) = go in refuses.0 journal is merge

ended-not-goes : (a b : Script) (line : Line) (more : List Line) → a ≡ Ends → Goes a (line ∷ more) b → ⊥
ended-not-goes a b line more e go = subst (λ (x : Script). Goes x (line ∷ more) b) e go

-- where a text stops, there is no line of a path
stops-not-line : LinesTell → (a b : Script) (left : List ℕ) (rule : ℕ) (line : Line) (more : List Line) (rest : List ℕ) → Stops a left rule → IsLine line → left ≡ line_text line ++ rest → Goes a (line ∷ more) b → ⊥
stops-not-line tell a b left rule line more rest (Lacking unended) is e go = tell.some line rest is (sym e)
stops-not-line tell a b left rule line more rest (Beyond l ended some) is e go = ended-not-goes a b line more ended go
stops-not-line tell a b left rule line more rest (Unread l unended some none) is e go =
    none line is (ap first_piece e ∙ tell.piece line rest is)
stops-not-line tell a b left rule line more rest (Other other l r is_other refuses) is e go =
    let one : other ≡ line = (tell.told other line l rest is_other is e).0 in
    refused-not-goes a b line more r (subst (λ (x : Line). Refuses a x r) one refuses) go

-- where a text stops, it does not end well
stops-not-end : (a : Script) (left : List ℕ) (rule : ℕ) → LinesTell → Stops a left rule → a ≡ Ends → left ≡ [] → ⊥
stops-not-end a left rule tell (Lacking unended) ended none = unended ended
stops-not-end a left rule tell (Beyond l e some) ended none = some none
stops-not-end a left rule tell (Unread l unended some no_line) ended none = unended ended
stops-not-end a left rule tell (Other line l r is refuses) ended none = tell.some line l is none

pub no-trace : LinesTell → (a mid : Script) (before lines : List Line) (left : List ℕ) (rule : ℕ) → AreLines before → AreLines lines → Goes a before mid → Goes a lines Ends
    → lines_text before ++ left ≡ lines_text lines → Stops mid left rule → ⊥
no-trace tell a mid [] [] left rule are also go on e stops = stops-not-end mid left rule tell stops (sym go ∙ on) e
no-trace tell a mid [] (y ∷ lines) left rule are also go on e stops =
    stops-not-line tell a Ends left rule y lines (lines_text lines) (subst (λ (x : Script). Stops x left rule) (sym go) stops) also.0 e on
no-trace tell a mid (x ∷ before) [] left rule are also go on e stops =
    tell.some x (lines_text before ++ left) are.0 (sym (append_assoc (line_text x) (lines_text before) left) ∙ e)
no-trace tell Ends mid (x ∷ before) (y ∷ lines) left rule are also go on e stops = go
no-trace tell (Says due rest) mid (x ∷ before) (y ∷ lines) left rule are also go on e stops =
    let both = tell.told x y (lines_text before ++ left) (lines_text lines) are.0 also.0 (sym (append_assoc (line_text x) (lines_text before) left) ∙ e) in
    no-trace tell rest mid before lines left rule are.1 also.1 go.1 on.1 both.1 stops
no-trace tell (Hears cab streams next) mid (x ∷ before) (y ∷ lines) left rule are also go on e stops =
    let both = tell.told x y (lines_text before ++ left) (lines_text lines) are.0 also.0 (sym (append_assoc (line_text x) (lines_text before) left) ∙ e) in
    let (journal, is, merge, more) = go in
    let (other, is2, merge2, more2) = on in
    let one : other ≡ journal = same-journal cab other journal (sym is2 ∙ sym both.0 ∙ is) in
    no-trace tell (next journal) mid before lines left rule are.1 also.1 more (subst (λ (j : List ℕ). Goes (next j) lines Ends) one more2) both.1 stops

refused-rule : (a : Script) (line : Line) (rule also : ℕ) → Refuses a line rule → Refuses a line also → rule ≡ also
refused-rule Ends line rule also refuses others = absurd refuses
refused-rule (Says due rest) line rule also refuses others = refuses.1 ∙ sym others.1
refused-rule (Hears cab streams next) line rule also refuses others = refuses.1 ∙ sym others.1

-- two faults are at one place, by one rule
same-rule : LinesTell → (a : Script) (left : List ℕ) (rule : ℕ) → Stops a left rule → (other : List ℕ) (also : ℕ) → Stops a other also → left ≡ other → rule ≡ also
same-rule tell a left rule (Lacking unended) other also (Lacking u) e = refl
same-rule tell a left rule (Lacking unended) other also (Beyond l ended some) e = absurd (unended ended)
same-rule tell a left rule (Lacking unended) other also (Unread l u some none) e = absurd (some (sym e))
same-rule tell a left rule (Lacking unended) other also (Other line l r is refuses) e = absurd (tell.some line l is (sym e))
same-rule tell a left rule (Beyond l ended some) other also (Lacking u) e = absurd (u ended)
same-rule tell a left rule (Beyond l ended some) other also (Beyond m e2 s2) e = refl
same-rule tell a left rule (Beyond l ended some) other also (Unread m u s2 none) e = absurd (u ended)
same-rule tell a left rule (Beyond l ended some) other also (Other line m r is refuses) e = absurd (subst (λ (x : Script). Refuses x line r) ended refuses)
same-rule tell a left rule (Unread l unended some none) other also (Lacking u) e = absurd (some e)
same-rule tell a left rule (Unread l unended some none) other also (Beyond m ended s2) e = absurd (unended ended)
same-rule tell a left rule (Unread l unended some none) other also (Unread m u s2 none2) e = refl
same-rule tell a left rule (Unread l unended some none) other also (Other line m r is refuses) e = absurd (none line is (ap first_piece e ∙ tell.piece line m is))
same-rule tell a left rule (Other line l r is refuses) other also (Lacking u) e = absurd (tell.some line l is e)
same-rule tell a left rule (Other line l r is refuses) other also (Beyond m ended some) e = absurd (subst (λ (x : Script). Refuses x line r) ended refuses)
same-rule tell a left rule (Other line l r is refuses) other also (Unread m u some none) e = absurd (none line is (ap first_piece (sym e) ∙ tell.piece line l is))
same-rule tell a left rule (Other line l r is refuses) other also (Other line2 m q is2 refuses2) e =
    let one : line ≡ line2 = (tell.told line line2 l m is is2 e).0 in
    refused-rule a line r q refuses (subst (λ (x : Line). Refuses a x q) (sym one) refuses2)

one-place : LinesTell → (a m k : Script) (xs ys : List Line) (left others : List ℕ) (rule also : ℕ) → AreLines xs → AreLines ys → Goes a xs m → Goes a ys k → lines_text xs ++ left ≡ lines_text ys ++ others
    → Stops m left rule → Stops k others also → (length xs ≡ length ys) × (rule ≡ also)
one-place tell a m k [] [] left others rule also are ares go on e stops stop =
    (refl, same-rule tell a left rule (subst (λ (x : Script). Stops x left rule) (sym go) stops) others also (subst (λ (x : Script). Stops x others also) (sym on) stop) e)
one-place tell a m k [] (y ∷ ys) left others rule also are ares go on e stops stop =
    absurd (stops-not-line tell a k left rule y ys (lines_text ys ++ others) (subst (λ (x : Script). Stops x left rule) (sym go) stops) ares.0 (e ∙ append_assoc (line_text y) (lines_text ys) others) on)
one-place tell a m k (x ∷ xs) [] left others rule also are ares go on e stops stop =
    absurd (stops-not-line tell a m others also x xs (lines_text xs ++ left) (subst (λ (z : Script). Stops z others also) (sym on) stop) are.0 (sym e ∙ append_assoc (line_text x) (lines_text xs) left) go)
one-place tell Ends m k (x ∷ xs) (y ∷ ys) left others rule also are ares go on e stops stop = absurd go
one-place tell (Says due rest) m k (x ∷ xs) (y ∷ ys) left others rule also are ares go on e stops stop =
    let both = tell.told x y (lines_text xs ++ left) (lines_text ys ++ others) are.0 ares.0 (sym (append_assoc (line_text x) (lines_text xs) left) ∙ e ∙ append_assoc (line_text y) (lines_text ys) others) in
    let (n, r) = one-place tell rest m k xs ys left others rule also are.1 ares.1 go.1 on.1 both.1 stops stop in (ap suc n, r)
one-place tell (Hears cab streams next) m k (x ∷ xs) (y ∷ ys) left others rule also are ares go on e stops stop =
    let both = tell.told x y (lines_text xs ++ left) (lines_text ys ++ others) are.0 ares.0 (sym (append_assoc (line_text x) (lines_text xs) left) ∙ e ∙ append_assoc (line_text y) (lines_text ys) others) in
    let (journal, is, merge, more) = go in
    let (other, is2, merge2, more2) = on in
    let one : other ≡ journal = same-journal cab other journal (sym is2 ∙ sym both.0 ∙ is) in
    let (n, r) = one-place tell (next journal) m k xs ys left others rule also are.1 ares.1 more (subst (λ (j : List ℕ). Goes (next j) ys k) one more2) both.1 stops stop in (ap suc n, r)

pub fault-one-place : LinesTell → (a : Script) (text : List ℕ) (n rule m also : ℕ) → (f : FaultIn a text n rule) → (g : FaultIn a text m also) → AreLines f.before → AreLines g.before → (n ≡ m) × (rule ≡ also)
fault-one-place tell a text n rule m also f g are ares =
    let (places, rules) = one-place tell a f.mid g.mid f.before g.before f.left g.left rule also are ares f.goes g.goes (sym f.split ∙ g.split) f.stops g.stops in
    (f.place ∙ places ∙ sym g.place, rules)

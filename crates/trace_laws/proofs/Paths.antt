-- Paths through a script: one line at a time, by one way only, and always to an end.
use Rattle.std.proofs.Common.{◌≡◌, ◌∙◌, ℕ, List, [], ◌∷◌, ◌++◌, refl, sym, ap, subst}
use Rattle.trace_text.specs.declared.lines.Line.{Line}
use Rattle.trace_text.specs.declared.lines.Line.TheVariants.{J}
use Rattle.sig_types.specs.Items.{Item}
use Rattle.cabinet_history.specs.Journals.{serial, runs_of}
use Rattle.run_definition.proofs.Merges.{serial-merge}
use Rattle.run_definition.proofs.Runs.{same-journal}
use Rattle.trace_laws.specs.Script.{Script, Ends, Says, Hears, say, Goes}

-- one way and then another
pub goes-append : (a b c : Script) (xs ys : List Line) → Goes a xs b → Goes b ys c → Goes a (xs ++ ys) c
goes-append a b c [] ys go on = subst (λ (x : Script). Goes x ys c) (sym go) on
goes-append Ends b c (x ∷ xs) ys go on = absurd go
goes-append (Says due rest) b c (x ∷ xs) ys go on = (go.0, goes-append rest b c xs ys go.1 on)
goes-append (Hears cab streams next) b c (x ∷ xs) ys go on =
    let (journal, line, merge, more) = go in (journal, line, merge, goes-append (next journal) b c xs ys more on)

-- lines lead to one place
pub goes-same : (a b c : Script) (xs : List Line) → Goes a xs b → Goes a xs c → b ≡ c
goes-same a b c [] go also = sym go ∙ also
goes-same Ends b c (x ∷ xs) go also = absurd go
goes-same (Says due rest) b c (x ∷ xs) go also = goes-same rest b c xs go.1 also.1
goes-same (Hears cab streams next) b c (x ∷ xs) go also =
    let (journal, line, merge, more) = go in
    let (other, line2, merge2, more2) = also in
    let one : other ≡ journal = same-journal cab other journal (sym line2 ∙ line) in
    goes-same (next journal) b c xs more (subst (λ (j : List ℕ). Goes (next j) xs c) one more2)

-- the place in between
pub record Between (a : Script) (xs ys : List Line) (c : Script) : Type 0 where
  pub mid : Script
  pub first : Goes a xs mid
  pub then_on : Goes mid ys c

pub goes-split : (a c : Script) (xs ys : List Line) → Goes a (xs ++ ys) c → Between a xs ys c
goes-split a c [] ys go = record { mid = a; first = refl; then_on = go }
goes-split Ends c (x ∷ xs) ys go = absurd go
goes-split (Says due rest) c (x ∷ xs) ys go =
    let b = goes-split rest c xs ys go.1 in record { mid = b.mid; first = (go.0, b.first); then_on = b.then_on }
goes-split (Hears cab streams next) c (x ∷ xs) ys go =
    let (journal, line, merge, more) = go in
    let b = goes-split (next journal) c xs ys more in record { mid = b.mid; first = (journal, line, merge, b.first); then_on = b.then_on }

-- from everywhere there is a way to the end: by the serial journals
pub finishes : (a : Script) → (rest : List Line) × Goes a rest Ends
finishes Ends = ([], refl)
finishes (Says due rest) = let (lines, go) = finishes rest in (due ∷ lines, (refl, go))
finishes (Hears cab streams next) =
    let (lines, go) = finishes (next (serial streams)) in (J cab (runs_of (serial streams)) ∷ lines, (serial streams, refl, serial-merge streams, go))

pub goes-say : (lines : List Line) (rest : Script) → Goes (say lines rest) lines rest
goes-say [] rest = refl
goes-say (x ∷ lines) rest = (refl, goes-say lines rest)

ScriptGoesOn : Script → Type 0
ScriptGoesOn Ends = ⊥
ScriptGoesOn _ = Unit {0}

pub says-goes-on : (due : Line) (rest : Script) → Says due rest ≡ Ends → ⊥
unfolding ScriptGoesOn
says-goes-on due rest e = subst ScriptGoesOn e tt

pub hears-goes-on : (cab : ℕ) (streams : List (List Item)) (next : List ℕ → Script) → Hears cab streams next ≡ Ends → ⊥
unfolding ScriptGoesOn
hears-goes-on cab streams next e = subst ScriptGoesOn e tt

-- what is said is said first
pub unsay : (lines all : List Line) (rest : Script) → Goes (say lines rest) all Ends → (more : List Line) × (all ≡ lines ++ more) × Goes rest more Ends
unsay [] all rest go = (all, refl, go)
unsay (x ∷ lines) [] rest go = absurd (says-goes-on x (say lines rest) go)
unsay (x ∷ lines) (y ∷ all) rest go =
    let (more, is, on) = unsay lines all rest go.1 in
    let here : y ≡ x = go.0 in
    (more, ap (λ (l : Line). l ∷ all) here ∙ ap (λ (t : List Line). x ∷ t) is, on)

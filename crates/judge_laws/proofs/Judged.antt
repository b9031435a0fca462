-- No breaches of lines, and a safe street at each cabinet.
use Rattle.std.proofs.Common.{◌≡◌, ◌↔◌, ℕ, ◌==◌, nat_le, Bool, true, false, if◌then◌else◌, List, [], ◌∷◌, ◌++◌, refl, sym, ◌∙◌, ap, subst, reverse}
use Rattle.std.proofs.lemmas.Bool.Decides.{Decides-eqb}
use Rattle.std.proofs.lemmas.List.{reverse-append, reverse-reverse}
use Rattle.sig_tables.specs.declared.tables.Tables.{Tables}
use Rattle.trace_text.specs.declared.lines.Line.{Line}
use Rattle.trace_text.specs.declared.lines.Line.TheVariants.{S, F, R, M, J, L, A, Z}
use Rattle.safety_laws.specs.Safe.{Indications, dark, told, shown_at, Intersection, intersection_of, Safe}
use Rattle.judge_laws.specs.declared.Terms.{Terms}
use Rattle.judge_laws.specs.Breaches.{exact, line_breaches, breaches_back, breaches, Rising}
use Rattle.judge_laws.proofs.Runs.{back_at}
use Rattle.judge_laws.proofs.Tests.{funext, append-none, none-append}
use Rattle.judge_laws.proofs.Parts.{Fine, AllFine, all-parts, parts-all, parts-safe, safe-parts, street}
use Rattle.judge_laws.proofs.Findings.{none-fine, fine-none}

-- one line more
pub breaches-more : (terms : Terms) (tables : ℕ → ℕ → Tables) (lines : List Line) (line : Line)
    → breaches terms tables (lines ++ line ∷ []) ≡ breaches terms tables lines ++ line_breaches terms tables (reverse lines) line
breaches-more terms tables lines line = ap (breaches_back terms tables) (reverse-append lines (line ∷ []))

-- what more lines say
pub told-append : (cab : ℕ) (xs ys : List Line) → told cab (xs ++ ys) ≡ told cab xs ++ told cab ys
told-append cab [] ys = refl
told-append cab (F c tick veh ped mode counter target version ∷ xs) ys = split (c == cab) (told-append cab xs ys)
  where
    shown : ℕ × Indications
    shown = (tick, record { colours = veh; signals = ped; mode = mode; version = version })

    split : (b : Bool) → told cab (xs ++ ys) ≡ told cab xs ++ told cab ys
        → (if b then shown ∷ told cab (xs ++ ys) else told cab (xs ++ ys)) ≡ (if b then shown ∷ told cab xs else told cab xs) ++ told cab ys
    split true e = ap (λ (x : List (ℕ × Indications)). shown ∷ x) e
    split false e = e
told-append cab (L c id result ∷ xs) ys = told-append cab xs ys
told-append cab (S json ∷ xs) ys = told-append cab xs ys
told-append cab (R round ∷ xs) ys = told-append cab xs ys
told-append cab (M note ∷ xs) ys = told-append cab xs ys
told-append cab (J c runs ∷ xs) ys = told-append cab xs ys
told-append cab (A c pass reply ∷ xs) ys = told-append cab xs ys
told-append cab (Z rounds ∷ xs) ys = told-append cab xs ys

one-or-none : (b : Bool) (x : ℕ × Indications) → reverse (if b then x ∷ [] else []) ≡ (if b then x ∷ [] else [])
one-or-none true x = refl
one-or-none false x = refl

pub told-reverse : (cab : ℕ) (back : List Line) → told cab (reverse back) ≡ reverse (told cab back)
told-reverse cab [] = refl
told-reverse cab (line ∷ back) =
    ap (told cab) (reverse-append (line ∷ []) back) ∙ told-append cab (reverse back) (line ∷ [])
    ∙ ap (λ (x : List (ℕ × Indications)). x ++ told cab (line ∷ [])) (told-reverse cab back)
    ∙ one (told cab (line ∷ [])) (told cab back) (short line)
    ∙ ap reverse (sym (told-append cab (line ∷ []) back))
  where
    -- at most one
    short : (line : Line) → reverse (told cab (line ∷ [])) ≡ told cab (line ∷ [])
    short (F c tick veh ped mode counter target version) = one-or-none (c == cab) (tick, record { colours = veh; signals = ped; mode = mode; version = version })
    short (L c id result) = refl
    short (S json) = refl
    short (R round) = refl
    short (M note) = refl
    short (J c runs) = refl
    short (A c pass reply) = refl
    short (Z rounds) = refl

    one : (x rest : List (ℕ × Indications)) → reverse x ≡ x → reverse rest ++ x ≡ reverse (x ++ rest)
    one x rest e = ap (λ (y : List (ℕ × Indications)). reverse rest ++ y) (sym e) ∙ sym (reverse-append x rest)

-- what a cabinet shows at a tick is what the newest line at or before it says
shown-more : (tick : ℕ) (before : Indications) (xs : List (ℕ × Indications)) (x : ℕ × Indications)
    → shown_at tick before (xs ++ x ∷ []) ≡ (if nat_le x.0 tick then x.1 else shown_at tick before xs)
shown-more tick before [] x = refl
shown-more tick before (y ∷ ys) x = shown-more tick (if nat_le y.0 tick then y.1 else before) ys x

shown-back : (tick : ℕ) (back : List (ℕ × Indications)) → shown_at tick dark (reverse back) ≡ back_at back tick
shown-back tick [] = refl
shown-back tick (x ∷ back) =
    ap (shown_at tick dark) (reverse-append (x ∷ []) back) ∙ shown-more tick dark (reverse back) x
    ∙ ap (λ (y : Indications). if nat_le x.0 tick then x.1 else y) (shown-back tick back)

same-street : (cab : ℕ) (tables : ℕ → Tables) (lines : List Line) → street tables (told cab (reverse lines)) ≡ intersection_of cab tables lines
same-street cab tables lines = ap (λ (f : ℕ → Indications). make f) (funext (back_at (told cab (reverse lines))) (λ tick. shown_at tick dark (told cab lines))
    (λ tick. sym (shown-back tick (told cab (reverse lines))) ∙ ap (shown_at tick dark) (sym (told-reverse cab (reverse lines)) ∙ ap (told cab) (reverse-reverse lines))))
  where
    make : (ℕ → Indications) → Intersection
    make f = record { tables = tables; shown = f }

-- the lines of each cabinet are fine where no line shows a breach
pub none-all : (tables : ℕ → ℕ → Tables) (back : List Line) → breaches_back exact tables back ≡ [] → (cab : ℕ) → AllFine (tables cab) (told cab back)
none-all tables [] h cab = tt
none-all tables (F c tick veh ped mode counter target version ∷ back) h cab =
    let b = append-none (breaches_back exact tables back) _ h in
    split (c == cab) refl (none-all tables back b.0 cab) (none-fine (tables c) c (told c back) shown b.1)
  where
    shown : ℕ × Indications
    shown = (tick, record { colours = veh; signals = ped; mode = mode; version = version })

    split : (b : Bool) → (c == cab) ≡ b → AllFine (tables cab) (told cab back) → Fine (tables c) (told c back) shown
        → AllFine (tables cab) (if b then shown ∷ told cab back else told cab back)
    split true e all fine = (all, subst (λ (n : ℕ). Fine (tables n) (told n back) shown) ((Decides-eqb c cab).0 e) fine)
    split false e all fine = all
none-all tables (L c id result ∷ back) h cab = none-all tables back (append-none (breaches_back exact tables back) [] h).0 cab
none-all tables (S json ∷ back) h cab = none-all tables back (append-none (breaches_back exact tables back) [] h).0 cab
none-all tables (R round ∷ back) h cab = none-all tables back (append-none (breaches_back exact tables back) [] h).0 cab
none-all tables (M note ∷ back) h cab = none-all tables back (append-none (breaches_back exact tables back) [] h).0 cab
none-all tables (J c runs ∷ back) h cab = none-all tables back (append-none (breaches_back exact tables back) [] h).0 cab
none-all tables (A c pass reply ∷ back) h cab = none-all tables back (append-none (breaches_back exact tables back) [] h).0 cab
none-all tables (Z rounds ∷ back) h cab = none-all tables back (append-none (breaches_back exact tables back) [] h).0 cab

pub all-none : (tables : ℕ → ℕ → Tables) (back : List Line) → ((cab : ℕ) → AllFine (tables cab) (told cab back)) → breaches_back exact tables back ≡ []
all-none tables [] all = refl
all-none tables (F c tick veh ped mode counter target version ∷ back) all =
    none-append (breaches_back exact tables back) _ (all-none tables back (λ cab. less (c == cab) cab (all cab)))
    (fine-none (tables c) c (told c back) shown (now (c == c) ((Decides-eqb c c).1 refl) (all c)))
  where
    shown : ℕ × Indications
    shown = (tick, record { colours = veh; signals = ped; mode = mode; version = version })

    less : (b : Bool) (cab : ℕ) → AllFine (tables cab) (if b then shown ∷ told cab back else told cab back) → AllFine (tables cab) (told cab back)
    less true cab h = h.0
    less false cab h = h

    now : (b : Bool) → b ≡ true → AllFine (tables c) (if b then shown ∷ told c back else told c back) → Fine (tables c) (told c back) shown
    now true e h = h.1
    now false e h = cc
all-none tables (L c id result ∷ back) all = none-append (breaches_back exact tables back) [] (all-none tables back all) refl
all-none tables (S json ∷ back) all = none-append (breaches_back exact tables back) [] (all-none tables back all) refl
all-none tables (R round ∷ back) all = none-append (breaches_back exact tables back) [] (all-none tables back all) refl
all-none tables (M note ∷ back) all = none-append (breaches_back exact tables back) [] (all-none tables back all) refl
all-none tables (J c runs ∷ back) all = none-append (breaches_back exact tables back) [] (all-none tables back all) refl
all-none tables (A c pass reply ∷ back) all = none-append (breaches_back exact tables back) [] (all-none tables back all) refl
all-none tables (Z rounds ∷ back) all = none-append (breaches_back exact tables back) [] (all-none tables back all) refl

-- no breaches are what a safe street has
pub judged : (tables : ℕ → ℕ → Tables) (lines : List Line) → ((cab : ℕ) → Rising cab lines)
    → breaches exact tables lines ≡ [] ↔ ((cab : ℕ) → Safe (intersection_of cab (tables cab) lines))
judged tables lines rising = (
  (λ none cab. subst Safe (same-street cab (tables cab) lines)
      (parts-safe (tables cab) (told cab (reverse lines)) (all-parts (tables cab) (told cab (reverse lines)) (rising cab) (none-all tables (reverse lines) none cab)))),
  (λ safe. all-none tables (reverse lines) (λ cab. parts-all (tables cab) (told cab (reverse lines)) (rising cab)
      (safe-parts (tables cab) (told cab (reverse lines)) (subst Safe (sym (same-street cab (tables cab) lines)) (safe cab))))),
)

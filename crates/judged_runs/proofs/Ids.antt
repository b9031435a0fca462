-- The numbers of the accepted loads that lines tell.
use Rattle.std.proofs.Common.{◌≡◌, ◌∙◌, ◌==◌, if◌then◌else◌, ℕ, Bool, true, false, List, [], ◌∷◌, ◌++◌, Ok, Err, refl, sym, ap, reverse, arith, length}
use Rattle.std.proofs.lemmas.List.{reverse-append}
use Rattle.trace_text.specs.declared.lines.Line.{Line}
use Rattle.trace_text.specs.declared.lines.Line.TheVariants.{S, F, R, M, J, L, A, Z}
use Rattle.safety_laws.specs.Safe.{Indications, told}
use Rattle.safety_laws.specs.CabinetTold.{CabinetTold, Shows, Loads, told_in}

-- those of a cabinet, in the order of the lines
abbrev pub ids_told : ℕ → List Line → List ℕ
ids_told cab [] = []
ids_told cab (L c id (Ok version) ∷ lines) = if c == cab then id ∷ ids_told cab lines else ids_told cab lines
ids_told cab (_ ∷ lines) = ids_told cab lines

pub ids-append : (cab : ℕ) (lines more : List Line) → ids_told cab (lines ++ more) ≡ ids_told cab lines ++ ids_told cab more
ids-append cab [] more = refl
ids-append cab (L c id (Ok version) ∷ lines) more = split (c == cab) (ids-append cab lines more)
  where
    split : (b : Bool) → ids_told cab (lines ++ more) ≡ ids_told cab lines ++ ids_told cab more
        → (if b then id ∷ ids_told cab (lines ++ more) else ids_told cab (lines ++ more))
        ≡ (if b then id ∷ ids_told cab lines else ids_told cab lines) ++ ids_told cab more
    split true e = ap (λ (x : List ℕ). id ∷ x) e
    split false e = e
ids-append cab (L c id (Err broken) ∷ lines) more = ids-append cab lines more
ids-append cab (F c tick veh ped mode counter target version ∷ lines) more = ids-append cab lines more
ids-append cab (S json ∷ lines) more = ids-append cab lines more
ids-append cab (R round ∷ lines) more = ids-append cab lines more
ids-append cab (M note ∷ lines) more = ids-append cab lines more
ids-append cab (J c runs ∷ lines) more = ids-append cab lines more
ids-append cab (A c pass reply ∷ lines) more = ids-append cab lines more
ids-append cab (Z rounds ∷ lines) more = ids-append cab lines more

one-or-none : (b : Bool) (id : ℕ) → reverse (if b then id ∷ [] else []) ≡ (if b then id ∷ [] else [])
one-or-none true id = refl
one-or-none false id = refl

one-line : (cab : ℕ) (line : Line) → reverse (ids_told cab (line ∷ [])) ≡ ids_told cab (line ∷ [])
one-line cab (L c id (Ok version)) = one-or-none (c == cab) id
one-line cab (L c id (Err broken)) = refl
one-line cab (F c tick veh ped mode counter target version) = refl
one-line cab (S json) = refl
one-line cab (R round) = refl
one-line cab (M note) = refl
one-line cab (J c runs) = refl
one-line cab (A c pass reply) = refl
one-line cab (Z rounds) = refl

-- those of the lines with the newest first
pub ids-reverse : (cab : ℕ) (lines : List Line) → ids_told cab (reverse lines) ≡ reverse (ids_told cab lines)
ids-reverse cab [] = refl
ids-reverse cab (line ∷ lines) =
    ap (ids_told cab) (reverse-append (line ∷ []) lines) ∙ ids-append cab (reverse lines) (line ∷ [])
    ∙ ap (λ (x : List ℕ). x ++ ids_told cab (line ∷ [])) (ids-reverse cab lines)
    ∙ ap (λ (x : List ℕ). reverse (ids_told cab lines) ++ x) (sym (one-line cab line))
    ∙ sym (reverse-append (ids_told cab (line ∷ [])) (ids_told cab lines))
    ∙ ap reverse (sym (ids-append cab (line ∷ []) lines))

-- lines that tell nothing of a cabinet: neither loads nor what is shown
some-told : (x : CabinetTold) (rest : List CabinetTold) → x ∷ rest ≡ [] → ⊥
some-told x rest e = let n : length (x ∷ rest) ≡ 0 = ap length e in omega (arith, n)

pub no-ids : (cab : ℕ) (lines : List Line) → told_in cab lines ≡ [] → ids_told cab lines ≡ []
no-ids cab [] e = refl
no-ids cab (L c id (Ok version) ∷ lines) e = split (c == cab) (no-ids cab lines) e
  where
    split : (b : Bool) → (told_in cab lines ≡ [] → ids_told cab lines ≡ []) → (if b then Loads version ∷ told_in cab lines else told_in cab lines) ≡ []
        → (if b then id ∷ ids_told cab lines else ids_told cab lines) ≡ []
    split true less e = absurd (some-told (Loads version) (told_in cab lines) e)
    split false less e = less e
no-ids cab (L c id (Err broken) ∷ lines) e = no-ids cab lines e
no-ids cab (F c tick veh ped mode counter target version ∷ lines) e = split (c == cab) (no-ids cab lines) e
  where
    said : CabinetTold
    said = Shows tick (record { colours = veh; signals = ped; mode = mode; version = version })

    split : (b : Bool) → (told_in cab lines ≡ [] → ids_told cab lines ≡ []) → (if b then said ∷ told_in cab lines else told_in cab lines) ≡ [] → ids_told cab lines ≡ []
    split true less e = absurd (some-told said (told_in cab lines) e)
    split false less e = less e
no-ids cab (S json ∷ lines) e = no-ids cab lines e
no-ids cab (R round ∷ lines) e = no-ids cab lines e
no-ids cab (M note ∷ lines) e = no-ids cab lines e
no-ids cab (J c runs ∷ lines) e = no-ids cab lines e
no-ids cab (A c pass reply ∷ lines) e = no-ids cab lines e
no-ids cab (Z rounds ∷ lines) e = no-ids cab lines e

pub nothing-told : (cab : ℕ) (lines : List Line) → told_in cab lines ≡ [] → told cab lines ≡ []
nothing-told cab [] e = refl
nothing-told cab (F c tick veh ped mode counter target version ∷ lines) e = split (c == cab) (nothing-told cab lines) e
  where
    shown : Indications
    shown = record { colours = veh; signals = ped; mode = mode; version = version }

    split : (b : Bool) → (told_in cab lines ≡ [] → told cab lines ≡ []) → (if b then Shows tick shown ∷ told_in cab lines else told_in cab lines) ≡ []
        → (if b then (tick, shown) ∷ told cab lines else told cab lines) ≡ []
    split true less e = absurd (some-told (Shows tick shown) (told_in cab lines) e)
    split false less e = less e
nothing-told cab (L c id (Ok version) ∷ lines) e = split (c == cab) (nothing-told cab lines) e
  where
    split : (b : Bool) → (told_in cab lines ≡ [] → told cab lines ≡ []) → (if b then Loads version ∷ told_in cab lines else told_in cab lines) ≡ [] → told cab lines ≡ []
    split true less e = absurd (some-told (Loads version) (told_in cab lines) e)
    split false less e = less e
nothing-told cab (L c id (Err broken) ∷ lines) e = nothing-told cab lines e
nothing-told cab (S json ∷ lines) e = nothing-told cab lines e
nothing-told cab (R round ∷ lines) e = nothing-told cab lines e
nothing-told cab (M note ∷ lines) e = nothing-told cab lines e
nothing-told cab (J c runs ∷ lines) e = nothing-told cab lines e
nothing-told cab (A c pass reply ∷ lines) e = nothing-told cab lines e
nothing-told cab (Z rounds ∷ lines) e = nothing-told cab lines e

-- What lines say, one after another.
use Rattle.std.proofs.Common.{◌≡◌, ◌+◌, ◌==◌, ℕ, Bool, true, false, if◌then◌else◌, List, [], ◌∷◌, ◌++◌, Ok, Err, refl, sym, ap, arith}
use Rattle.std.proofs.lemmas.Bool.{eq-eqb}
use Rattle.sig_types.specs.declared.frame.Colour.{Colour}
use Rattle.sig_types.specs.declared.frame.Ped.{Ped}
use Rattle.sig_types.specs.declared.frame.Mode.{Mode}
use Rattle.trace_text.specs.declared.lines.Line.{Line}
use Rattle.trace_text.specs.declared.lines.Line.TheVariants.{S, F, R, M, J, L, A, Z}
use Rattle.safety_laws.specs.Safe.{Indications, told}
use Rattle.safety_laws.specs.Whole.{downloads}

pub told-append : (cab : ℕ) (lines more : List Line) → told cab (lines ++ more) ≡ told cab lines ++ told cab more
told-append cab [] more = refl
told-append cab (F c tick veh ped mode counter target version ∷ lines) more = split (c == cab) (told-append cab lines more)
  where
    said : ℕ × Indications
    said = (tick, record { colours = veh; signals = ped; mode = mode; version = version })

    split : (b : Bool) → told cab (lines ++ more) ≡ told cab lines ++ told cab more
        → (if b then said ∷ told cab (lines ++ more) else told cab (lines ++ more)) ≡ (if b then said ∷ told cab lines else told cab lines) ++ told cab more
    split true e = ap (λ (x : List (ℕ × Indications)). said ∷ x) e
    split false e = e
told-append cab (S json ∷ lines) more = told-append cab lines more
told-append cab (R round ∷ lines) more = told-append cab lines more
told-append cab (M note ∷ lines) more = told-append cab lines more
told-append cab (J c runs ∷ lines) more = told-append cab lines more
told-append cab (L c id outcome ∷ lines) more = told-append cab lines more
told-append cab (A c pass reply ∷ lines) more = told-append cab lines more
told-append cab (Z rounds ∷ lines) more = told-append cab lines more

pub downloads-append : (cab : ℕ) (lines more : List Line) → downloads cab (lines ++ more) ≡ downloads cab lines + downloads cab more
downloads-append cab [] more = sym (omega arith)
downloads-append cab (L c id (Ok version) ∷ lines) more = split (c == cab) (downloads-append cab lines more)
  where
    split : (b : Bool) → downloads cab (lines ++ more) ≡ downloads cab lines + downloads cab more
        → (if b then downloads cab (lines ++ more) + 1 else downloads cab (lines ++ more))
        ≡ (if b then downloads cab lines + 1 else downloads cab lines) + downloads cab more
    split true e = omega (arith, e)
    split false e = e
downloads-append cab (L c id (Err broken) ∷ lines) more = downloads-append cab lines more
downloads-append cab (F c tick veh ped mode counter target version ∷ lines) more = downloads-append cab lines more
downloads-append cab (S json ∷ lines) more = downloads-append cab lines more
downloads-append cab (R round ∷ lines) more = downloads-append cab lines more
downloads-append cab (M note ∷ lines) more = downloads-append cab lines more
downloads-append cab (J c runs ∷ lines) more = downloads-append cab lines more
downloads-append cab (A c pass reply ∷ lines) more = downloads-append cab lines more
downloads-append cab (Z rounds ∷ lines) more = downloads-append cab lines more

pub told-frame : (cab tick : ℕ) (veh : List Colour) (ped : List Ped) (mode : Mode) (counter target version : ℕ) (lines : List Line)
    → told cab (F cab tick veh ped mode counter target version ∷ lines)
    ≡ (tick, record { colours = veh; signals = ped; mode = mode; version = version }) ∷ told cab lines
told-frame cab tick veh ped mode counter target version lines = let e : (cab == cab) ≡ true = eq-eqb cab cab refl in rw e refl

pub one-download : (cab id version : ℕ) (lines : List Line) → downloads cab (L cab id (Ok version) ∷ lines) ≡ downloads cab lines + 1
one-download cab id version lines = let e : (cab == cab) ≡ true = eq-eqb cab cab refl in rw e refl

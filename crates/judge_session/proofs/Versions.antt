-- The tables of versions, one line after another.
use Rattle.std.proofs.Common.{◌≡◌, ℕ, ◌+◌, ◌≤◌, ◌==◌, ◌&&◌, Bool, true, false, if◌then◌else◌, List, [], ◌∷◌, Option, Some, None, Ok, Err, refl, arith}
use Rattle.std.proofs.lemmas.Bool.{eq-eqb, eqb-true, false≢true}
use Rattle.std.proofs.lemmas.Option.{none-some}
use Rattle.sig_tables.specs.declared.cells.Cell.{Cell}
use Rattle.sig_tables.specs.Cells.{Content}
use Rattle.sig_tables.specs.declared.tables.Tables.{Tables}
use Rattle.trace_text.specs.declared.lines.Line.{Line}
use Rattle.trace_text.specs.declared.lines.Line.TheVariants.{S, F, R, M, J, L, A, Z}
use Rattle.safety_laws.specs.Whole.{downloads}
use Rattle.judge_laws.specs.TablesTold.{loaded, tables_told, version_told}

module _ (load : ℕ → Option (List (Cell × Content))) (opening : Tables) (cab : ℕ) where
  -- the tables in force are those of the newest version
  pub version-now : (before : List Line) → version_told load opening cab before (downloads cab before) ≡ tables_told load opening cab before
  version-now [] = refl
  version-now (L c id (Ok made) ∷ before) = split (c == cab) refl (version-now before)
    where
      split : (b : Bool) → (c == cab) ≡ b → version_told load opening cab before (downloads cab before) ≡ tables_told load opening cab before
          → version_told load opening cab (L c id (Ok made) ∷ before) (downloads cab (L c id (Ok made) ∷ before)) ≡ tables_told load opening cab (L c id (Ok made) ∷ before)
      split true e known = let s : (downloads cab before + 1 == downloads cab before + 1) ≡ true = eq-eqb _ _ refl in rw e (rw s (refl {a = loaded (load id) (tables_told load opening cab before)}))
      split false e known = rw e known
  version-now (L c id (Err broken) ∷ before) = version-now before
  version-now (S json ∷ before) = version-now before
  version-now (F c tick veh ped mode counter target version ∷ before) = version-now before
  version-now (R round ∷ before) = version-now before
  version-now (M note ∷ before) = version-now before
  version-now (J c runs ∷ before) = version-now before
  version-now (A c pass reply ∷ before) = version-now before
  version-now (Z rounds ∷ before) = version-now before

  -- no version is known before a load has made it
  pub version-made : (before : List Line) (version : ℕ) (t : Tables) → version_told load opening cab before version ≡ Some t → version ≤ downloads cab before
  version-made [] version t h = split (version == 0) refl h
    where
      split : (b : Bool) → (version == 0) ≡ b → (if b then Some opening else None) ≡ Some t → version ≤ 0
      split true e g = let z : version ≡ 0 = eqb-true version 0 e in omega (arith, z)
      split false e g = absurd (none-some t g)
  version-made (L c id (Ok made) ∷ before) version t h = split (c == cab) refl h (version-made before version t)
    where
      last : (b : Bool) → (version == downloads cab before + 1) ≡ b → (version_told load opening cab before version ≡ Some t → version ≤ downloads cab before)
          → (if b then loaded (load id) (tables_told load opening cab before) else version_told load opening cab before version) ≡ Some t → version ≤ downloads cab before + 1
      last true e known g = let z : version ≡ downloads cab before + 1 = eqb-true version _ e in omega (arith, z)
      last false e known g = let z : version ≤ downloads cab before = known g in omega (arith, z)

      split : (b : Bool) → (c == cab) ≡ b
          → (if b && version == downloads cab before + 1 then loaded (load id) (tables_told load opening cab before) else version_told load opening cab before version) ≡ Some t
          → (version_told load opening cab before version ≡ Some t → version ≤ downloads cab before)
          → version ≤ (if b then downloads cab before + 1 else downloads cab before)
      split true e g known = last (version == downloads cab before + 1) refl known g
      split false e g known = known g
  version-made (L c id (Err broken) ∷ before) version t h = version-made before version t h
  version-made (S json ∷ before) version t h = version-made before version t h
  version-made (F c tick veh ped mode counter target v ∷ before) version t h = version-made before version t h
  version-made (R round ∷ before) version t h = version-made before version t h
  version-made (M note ∷ before) version t h = version-made before version t h
  version-made (J c runs ∷ before) version t h = version-made before version t h
  version-made (A c pass reply ∷ before) version t h = version-made before version t h
  version-made (Z rounds ∷ before) version t h = version-made before version t h

  -- a load changes the tables of no version that is known
  pub version-kept : (before : List Line) (c id made version : ℕ) (t : Tables) → version_told load opening cab before version ≡ Some t
      → version_told load opening cab (L c id (Ok made) ∷ before) version ≡ Some t
  version-kept before c id made version t h = split (c == cab && version == downloads cab before + 1) refl
    where
      later : (a b : Bool) → (a && b) ≡ true → b ≡ true
      later true b e = e
      later false b e = absurd (false≢true e)

      split : (b : Bool) → (c == cab && version == downloads cab before + 1) ≡ b
          → (if b then loaded (load id) (tables_told load opening cab before) else version_told load opening cab before version) ≡ Some t
      split true e = absurd (
          let z : version ≡ downloads cab before + 1 = eqb-true version _ (later (c == cab) _ e) in
          let few : version ≤ downloads cab before = version-made before version t h in
          omega (arith, z, few))
      split false e = h

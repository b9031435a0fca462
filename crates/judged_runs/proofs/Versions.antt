-- The tables of each version that the lines of a log tell are made by the loads whose numbers they tell.
use Rattle.std.proofs.Common.{◌≡◌, ◌∙◌, ◌+◌, ◌==◌, ◌&&◌, if◌then◌else◌, ℕ, zero, suc, Bool, true, false, List, [], ◌∷◌, length, drop, map, Option, Some, None, Ok, Err, refl, sym, ap, ap₂, arith, inl, inr, unwrap_or}
use Rattle.std.specs.List.{AllByRecursion}
use Rattle.std.proofs.lemmas.Bool.Decides.{eqb_tells}
use Rattle.sig_tables.specs.declared.tables.Tables.{Tables}
use Rattle.sig_tables.specs.declared.cells.Cell.{Cell}
use Rattle.sig_tables.specs.Cells.{Content}
use Rattle.sig_tables.specs.Putting.{with_cells}
use Rattle.trace_text.specs.declared.lines.Line.{Line}
use Rattle.trace_text.specs.declared.lines.Line.TheVariants.{S, F, R, M, J, L, A, Z}
use Rattle.safety_laws.specs.Whole.{downloads}
use Rattle.cabinet_history.specs.Downloads.{with_downloads}
use Rattle.judge_laws.specs.TablesTold.{loaded, tables_told, version_told}
use Rattle.judged_runs.specs.Loads.{IsLoadIfAny}
use Rattle.judged_runs.proofs.Ids.{ids_told}

-- the tables that the loads with these numbers make, the newest first, if each is known
abbrev pub made_by : (ℕ → Option (List (Cell × Content))) → Tables → List ℕ → Option Tables
made_by load opening [] = Some opening
made_by load opening (id ∷ ids) = loaded (load id) (made_by load opening ids)

pub count-told : (cab : ℕ) (back : List Line) → downloads cab back ≡ length (ids_told cab back)
count-told cab [] = refl
count-told cab (L c id (Ok version) ∷ back) = split (c == cab) (count-told cab back)
  where
    split : (b : Bool) → downloads cab back ≡ length (ids_told cab back)
        → (if b then downloads cab back + 1 else downloads cab back) ≡ length (if b then id ∷ ids_told cab back else ids_told cab back)
    split true e = omega (arith, e)
    split false e = e
count-told cab (L c id (Err broken) ∷ back) = count-told cab back
count-told cab (F c tick veh ped mode counter target version ∷ back) = count-told cab back
count-told cab (S json ∷ back) = count-told cab back
count-told cab (R round ∷ back) = count-told cab back
count-told cab (M note ∷ back) = count-told cab back
count-told cab (J c runs ∷ back) = count-told cab back
count-told cab (A c pass reply ∷ back) = count-told cab back
count-told cab (Z rounds ∷ back) = count-told cab back

module _ (load : ℕ → Option (List (Cell × Content))) (opening : Tables) (cab : ℕ) where
  pub told-made : (back : List Line) → tables_told load opening cab back ≡ made_by load opening (ids_told cab back)
  told-made [] = refl
  told-made (L c id (Ok version) ∷ back) = split (c == cab) (told-made back)
    where
      split : (b : Bool) → tables_told load opening cab back ≡ made_by load opening (ids_told cab back)
          → (if b then loaded (load id) (tables_told load opening cab back) else tables_told load opening cab back)
          ≡ made_by load opening (if b then id ∷ ids_told cab back else ids_told cab back)
      split true e = ap (loaded (load id)) e
      split false e = e
  told-made (L c id (Err broken) ∷ back) = told-made back
  told-made (F c tick veh ped mode counter target version ∷ back) = told-made back
  told-made (S json ∷ back) = told-made back
  told-made (R round ∷ back) = told-made back
  told-made (M note ∷ back) = told-made back
  told-made (J c runs ∷ back) = told-made back
  told-made (A c pass reply ∷ back) = told-made back
  told-made (Z rounds ∷ back) = told-made back

  -- a version is made by the loads up to it
  pub version-made : (back : List Line) (version later : ℕ) → version + later ≡ length (ids_told cab back)
      → version_told load opening cab back version ≡ made_by load opening (drop later (ids_told cab back))
  version-made [] zero zero e = refl
  version-made [] zero (suc later) e = absurd (let bad : zero + suc later ≡ 0 = e in omega (arith, bad))
  version-made [] (suc version) later e = absurd (let bad : suc version + later ≡ 0 = e in omega (arith, bad))
  version-made (L c id (Ok made) ∷ back) version later e = split (version-made back version) (c == cab) (version == downloads cab back + 1) refl later e
    where
      kept : List ℕ
      kept = ids_told cab back

      split : ((rest : ℕ) → version + rest ≡ length kept → version_told load opening cab back version ≡ made_by load opening (drop rest kept))
          → (b n : Bool) → (version == downloads cab back + 1) ≡ n → (later : ℕ) → version + later ≡ length (if b then id ∷ kept else kept)
          → (if b && n then loaded (load id) (tables_told load opening cab back) else version_told load opening cab back version)
          ≡ made_by load opening (drop later (if b then id ∷ kept else kept))
      split before true true same zero sum = ap (loaded (load id)) (told-made back)
      split before true true same (suc later) sum = elim (eqb_tells version (downloads cab back + 1)) [
        | inl (is, equal) ↦ absurd (let n : downloads cab back ≡ length kept = count-told cab back in omega (arith, equal, n, sum))
        | inr (is, unequal) ↦ cc
      ]
      split before true false same zero sum = elim (eqb_tells version (downloads cab back + 1)) [
        | inl (is, equal) ↦ cc
        | inr (is, unequal) ↦ absurd (unequal (let n : downloads cab back ≡ length kept = count-told cab back in omega (arith, n, sum)))
      ]
      split before true false same (suc later) sum = before later (omega (arith, sum))
      split before false true same later sum = before later sum
      split before false false same later sum = before later sum
  version-made (L c id (Err broken) ∷ back) version later e = version-made back version later e
  version-made (F c tick veh ped mode counter target made ∷ back) version later e = version-made back version later e
  version-made (S json ∷ back) version later e = version-made back version later e
  version-made (R round ∷ back) version later e = version-made back version later e
  version-made (M note ∷ back) version later e = version-made back version later e
  version-made (J c runs ∷ back) version later e = version-made back version later e
  version-made (A c pass reply ∷ back) version later e = version-made back version later e
  version-made (Z rounds ∷ back) version later e = version-made back version later e

  -- ---- the loads are the downloads

  known-step : (own : Option (List (Cell × Content))) (before : Option Tables) (cells : List (Cell × Content)) (t u : Tables)
      → IsLoadIfAny own cells → ((x : Tables) → before ≡ Some x → x ≡ t) → loaded own before ≡ Some u → u ≡ with_cells t cells
  known-step None before cells t u is same e = absurd (some-none u e)
    where
      some-none : (x : Tables) → None ≡ Some x → ⊥
      some-none x e = cc
  known-step (Some own) None cells t u is same e = absurd (some-none u e)
    where
      some-none : (x : Tables) → None ≡ Some x → ⊥
      some-none x e = cc
  known-step (Some own) (Some x) cells t u is same e = ap (λ (o : Option Tables). unwrap_or o opening) (sym e) ∙ ap₂ with_cells (same x refl) is

  -- tables that are known are those that the downloads made
  pub known-made : (ds : List (ℕ × List (Cell × Content))) (u : Tables) → AllByRecursion (λ d. IsLoadIfAny (load d.0) d.1) ds
      → made_by load opening (map (λ d. d.0) ds) ≡ Some u → u ≡ with_downloads opening (map (λ d. d.1) ds)
  known-made [] u own e = ap (λ (o : Option Tables). unwrap_or o opening) (sym e)
  known-made (d ∷ ds) u own e =
      known-step (load d.0) (made_by load opening (map (λ d. d.0) ds)) d.1 (with_downloads opening (map (λ d. d.1) ds)) u own.0
      (λ x f. known-made ds x own.1 f) e

  -- and all are known where each download is a load
  pub all-made : (ds : List (ℕ × List (Cell × Content))) → AllByRecursion (λ d. load d.0 ≡ Some d.1) ds
      → made_by load opening (map (λ d. d.0) ds) ≡ Some (with_downloads opening (map (λ d. d.1) ds))
  all-made [] all = refl
  all-made (d ∷ ds) all = ap₂ loaded all.0 (all-made ds all.1)

-- fewer of them
pub all-drop : (P : ℕ × List (Cell × Content) → Type 0) (n : ℕ) (ds : List (ℕ × List (Cell × Content))) → AllByRecursion P ds → AllByRecursion P (drop n ds)
all-drop P zero ds all = all
all-drop P (suc n) [] all = tt
all-drop P (suc n) (d ∷ ds) all = all-drop P n ds all.1

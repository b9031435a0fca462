-- Tables that pass a test have in each cell what is allowed in it; the standard tables pass it.
use Rattle.std.proofs.Common.{◌≡◌, inl, inr, ℕ, zero, suc, ◌<◌, Bool, true, ◌&&◌, refl, sym, subst, arith, Ok}
use Rattle.std.specs.Prelude.{is_ok}
use Rattle.std.proofs.lemmas.Bool.{and_parts}
use Rattle.std.proofs.lemmas.Bool.Decides.{eqb_tells}
use Rattle.sig_tables.specs.declared.tables.Tables.{Tables}
use Rattle.sig_tables.specs.declared.cells.Cell.{Cell}
use Rattle.sig_tables.specs.declared.cells.Cell.TheVariants.{Phase, Sequence, Split, Pattern, Preempt, Unit as UnitCell}
use Rattle.sig_tables.specs.Cells.{value_at}
use Rattle.sig_tables.specs.Ranges.{fits_of}
use Rattle.sig_tables.specs.Putting.{EachFits}
use Rattle.sig_tables.specs.Standard.{standard, std8, max8}
use Rattle.sig_tables.proofs.Fitting.{ok-is}

-- each number below n passes
all-below : (ℕ → Bool) → ℕ → Bool
all-below test zero = true
all-below test (suc n) = test n && all-below test n

all-below-at : (test : ℕ → Bool) (n : ℕ) → all-below test n ≡ true → (k : ℕ) → k < n → test k ≡ true
unfolding all-below
all-below-at test zero all k below = absurd (omega arith)
all-below-at test (suc n) all k below =
    let parts = and_parts (test n) (all-below test n) all in
    elim (eqb_tells k n) [
      | inl (t, same) ↦ subst (λ (i : ℕ). test i ≡ true) (sym same) parts.0
      | inr (t, other) ↦ all-below-at test n parts.1 k (omega arith)
    ]

-- the cell holds an allowed value
fits-at : Tables → Cell → Bool
fits-at t cell = is_ok (fits_of cell (value_at t cell))

fits-from : (t : Tables) (cell : Cell) → fits-at t cell ≡ true → fits_of cell (value_at t cell) ≡ Ok tt
unfolding fits-at
fits-from t cell passes = ok-is (fits_of cell (value_at t cell)) passes

-- rows and columns pass, up to the last
grid-fits : (ℕ → ℕ → Bool) → ℕ → ℕ → Bool
grid-fits test rows columns = all-below (λ row. all-below (test row) columns) rows

grid-at : (test : ℕ → ℕ → Bool) (rows columns : ℕ) → grid-fits test rows columns ≡ true → (i j : ℕ) → i < rows → j < columns → test i j ≡ true
unfolding grid-fits
grid-at test rows columns all i j row column =
    all-below-at (test i) columns (all-below-at (λ k. all-below (test k) columns) rows all i row) j column

-- the cells of each kind hold what is allowed in them; more numbers are tried than there are
phases-fit : Tables → Bool
phases-fit t = grid-fits (λ p c. fits-at t (Phase p c)) 17 24

sequences-fit : Tables → Bool
sequences-fit t = grid-fits (λ s r. fits-at t (Sequence s r)) 17 3

splits-fit : Tables → Bool
splits-fit t = all-below (λ s. grid-fits (λ p c. fits-at t (Split s p c)) 17 6) 33

patterns-fit : Tables → Bool
patterns-fit t = grid-fits (λ n c. fits-at t (Pattern n c)) 49 6

preempts-fit : Tables → Bool
preempts-fit t = grid-fits (λ i c. fits-at t (Preempt i c)) 9 16

unit-fits : Tables → Bool
unit-fits t = all-below (λ n. fits-at t (UnitCell n)) 9

tested : (t : Tables) → phases-fit t ≡ true → sequences-fit t ≡ true → splits-fit t ≡ true → patterns-fit t ≡ true
    → preempts-fit t ≡ true → unit-fits t ≡ true → EachFits t
unfolding phases-fit sequences-fit splits-fit patterns-fit preempts-fit unit-fits
tested t phases sequences splits patterns preempts unit = each
  where
    each : EachFits t
    each (Phase p c) i = fits-from t (Phase p c) (grid-at (λ q d. fits-at t (Phase q d)) 17 24 phases p c (omega arith) (omega arith))
    each (Sequence s r) i = fits-from t (Sequence s r) (grid-at (λ q d. fits-at t (Sequence q d)) 17 3 sequences s r (omega arith) (omega arith))
    each (Split s p c) i =
        fits-from t (Split s p c) (grid-at (λ q d. fits-at t (Split s q d)) 17 6
        (all-below-at (λ n. grid-fits (λ q d. fits-at t (Split n q d)) 17 6) 33 splits s (omega arith)) p c (omega arith) (omega arith))
    each (Pattern n c) i = fits-from t (Pattern n c) (grid-at (λ q d. fits-at t (Pattern q d)) 49 6 patterns n c (omega arith) (omega arith))
    each (Preempt n c) i = fits-from t (Preempt n c) (grid-at (λ q d. fits-at t (Preempt q d)) 9 16 preempts n c (omega arith) (omega arith))
    each (UnitCell n) i = fits-from t (UnitCell n) (all-below-at (λ m. fits-at t (UnitCell m)) 9 unit n (omega arith))

pub std8-fits : EachFits std8
unfolding std8 standard phases-fit sequences-fit splits-fit patterns-fit preempts-fit unit-fits grid-fits all-below fits-at
std8-fits = tested std8 refl refl refl refl refl refl

pub max8-fits : EachFits max8
unfolding max8 standard phases-fit sequences-fit splits-fit patterns-fit preempts-fit unit-fits grid-fits all-below fits-at
max8-fits = tested max8 refl refl refl refl refl refl

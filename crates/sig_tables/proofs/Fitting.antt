-- What is put into a cell that it fits leaves in each cell what is allowed in it.
use Rattle.std.proofs.Common.{◌≡◌, ◌≢◌, inl, inr, ℕ, ◌≤◌, ◌-◌, Bool, true, false, ◌&&◌, if◌then◌else◌, List, [], ◌∷◌, get_or, set, refl, sym, ◌∙◌, ap, subst, arith, Result, Ok, Err}
use Rattle.std.specs.Prelude.{is_ok}
use Rattle.std.proofs.lemmas.Bool.{le-leb, false≢true}
use Rattle.std.proofs.lemmas.Bool.Decides.{eqb_tells, leb_tells, nat_tests}
use Rattle.std.proofs.Math.Seq.{take-append_seam}
use Rattle.sig_tables.specs.declared.tables.Tables.{Tables}
use Rattle.sig_tables.specs.declared.tables.PhaseTimes.{PhaseTimes}
use Rattle.sig_tables.specs.declared.tables.Preempt.{Preempt}
use Rattle.sig_tables.specs.declared.tables.Pattern.{Pattern}
use Rattle.sig_tables.specs.declared.tables.SplitEntry.{SplitEntry}
use Rattle.sig_tables.specs.declared.tables.Corrections.{Corrections}
use Rattle.sig_tables.specs.declared.cells.Allowed.{Allowed}
use Rattle.sig_tables.specs.declared.cells.Allowed.TheVariants.{Numbers, Lists}
use Rattle.sig_tables.specs.declared.cells.CellFault.{CellFault}
use Rattle.sig_tables.specs.declared.cells.Cell.{Cell}
use Rattle.sig_tables.specs.declared.cells.Cell.TheVariants.{Phase, Sequence, Split, Pattern as PatternCell, Preempt as PreemptCell, Unit as UnitCell}
use Rattle.sig_tables.specs.Tables.{row, no_row, no_list, listed}
use Rattle.sig_tables.specs.Columns.{packed, phase_number, with_phase_number, pattern_number, with_pattern_number, split_number, with_split_number, preempt_number, with_preempt_number, preempt_list, with_preempt_list, unit_number, with_unit_number}
use Rattle.sig_tables.specs.Cells.{Content, Number, Octets, IsCell, is_cell, phase_content, preempt_content, pattern_of, preempt_of, entry_of, missing_pattern, missing_preempt, missing_entry, with_number, with_octets, with_content}
use Rattle.sig_tables.specs.Ranges.{phase_allowed, split_allowed, preempt_allowed, unit_allowed, fits_in, fits_of}
use Rattle.sig_tables.specs.Putting.{with_put, with_cells, EachFits}
use Rattle.sig_tables.proofs.ColumnLemmas.{pattern-same, pattern-other, split-same, split-other, preempt-same, preempt-list-same, unit-same, unit-other}
use Rattle.sig_tables.proofs.CellLemmas.{set-here, set-keeps, phase-kept, preempt-kept, preempt-list-put, number-column, octets-column, preempt-number-column, preempt-octets-column}
use Rattle.sig_tables.proofs.CellTests.{is-cell-tells}

-- columns 11 to 19 are of volume density
density-put : (r : PhaseTimes) (c v : ℕ) → 11 ≤ c → c ≤ 19 → phase_number (with_phase_number r c v) c ≡ get_or (set r.volume_density (c - 11) v) (c - 11) 0
density-put r c v first last = grind (arith, nat_tests)

density-at : (r : PhaseTimes) (c : ℕ) → 11 ≤ c → c ≤ 19 → phase_number r c ≡ get_or r.volume_density (c - 11) 0
density-at r c first last = grind (arith, nat_tests)

before-density : (r : PhaseTimes) (c v : ℕ) → 2 ≤ c → c ≤ 10 → phase_number (with_phase_number r c v) c ≡ v
before-density r c v first last = grind (arith, nat_tests)

after-density : (r : PhaseTimes) (c v : ℕ) → 20 ≤ c → c ≤ 22 → phase_number (with_phase_number r c v) c ≡ v
after-density r c v first last = grind (arith, nat_tests)

-- what the old number of a column has, and the number put there, the new one has
phase-put : (Has : ℕ → Type 0) (r : PhaseTimes) (c v : ℕ) → 2 ≤ c → c ≤ 22 → Has v → Has (phase_number r c) → Has (phase_number (with_phase_number r c v) c)
phase-put Has r c v first last new old = elim (leb_tells c 10) [
  | inl (t, low) ↦ subst Has (sym (before-density r c v first low)) new
  | inr (t, above) ↦ elim (leb_tells c 19) [
    | inl (s, middle) ↦ subst Has (sym (density-put r c v (omega arith) middle))
        (set-here Has r.volume_density (c - 11) v 0 new (subst Has (density-at r c (omega arith) middle) old))
    | inr (s, high) ↦ subst Has (sym (after-density r c v (omega arith) last)) new
  ]
]

-- a column holds what is allowed there where the column that was put does, and the others are as they were
column-fits : (allowed : ℕ → Allowed) (old new : ℕ → Content) (c d : ℕ) → (d ≢ c → new d ≡ old d) → fits_in (allowed c) (new c) ≡ Ok tt
    → fits_in (allowed d) (old d) ≡ Ok tt → fits_in (allowed d) (new d) ≡ Ok tt
column-fits allowed old new c d kept put stood = elim (eqb_tells d c) [
  | inl (t, same) ↦ subst (λ (k : ℕ). fits_in (allowed k) (new k) ≡ Ok tt) (sym same) put
  | inr (t, other) ↦ subst (λ (k : Content). fits_in (allowed d) k ≡ Ok tt) (sym (kept other)) stood
]

-- what is equal to content that fits, fits
fits-as : (allowed : Allowed) (new put : Content) → new ≡ put → fits_in allowed put ≡ Ok tt → fits_in allowed new ≡ Ok tt
fits-as allowed new put same fits = subst (λ (k : Content). fits_in allowed k ≡ Ok tt) (sym same) fits

-- each column of a phase except 23 has a number
number-stands : (r : PhaseTimes) (c : ℕ) → c ≢ 23 → phase_content r c ≡ Number (phase_number r c)
number-stands r c short = elim (eqb_tells c 23) [ inl (t, last) ↦ absurd (short last) | inr (t, before) ↦ rw t refl ]

phase-number-fits : (r : PhaseTimes) (p c v : ℕ) → 2 ≤ c → c ≤ 23 → fits_of (Phase p c) (Number v) ≡ Ok tt
    → fits_in (phase_allowed c) (phase_content r c) ≡ Ok tt → fits_in (phase_allowed c) (phase_content (with_phase_number r c v) c) ≡ Ok tt
phase-number-fits r p c v first last fits stood =
    let short : c ≢ 23 = number-column p c v fits in
    fits-as (phase_allowed c) (phase_content (with_phase_number r c v) c) (Number (phase_number (with_phase_number r c v) c))
    (number-stands (with_phase_number r c v) c short)
    (phase-put (λ n. fits_in (phase_allowed c) (Number n) ≡ Ok tt) r c v first (omega arith) fits
    (fits-as (phase_allowed c) (Number (phase_number r c)) (phase_content r c) (sym (number-stands r c short)) stood))

-- the columns of a preempt up to 11 have a number, those from 12 on a list
preempt-number-stands : (r : Preempt) (c : ℕ) → c ≤ 11 → preempt_content r c ≡ Number (preempt_number r c)
preempt-number-stands r c short = elim (leb_tells 12 c) [ inl (t, high) ↦ absurd (omega arith) | inr (t, low) ↦ rw t refl ]

preempt-list-stands : (r : Preempt) (c : ℕ) → 12 ≤ c → preempt_content r c ≡ Octets (listed (preempt_list r c))
preempt-list-stands r c high = rw (le-leb 12 c high) refl

number-fits : (t : Tables) (cell : Cell) (v : ℕ) → IsCell cell → fits_of cell (Number v) ≡ Ok tt → EachFits t → EachFits (with_number t cell v)
number-fits t (Phase p c) v i fits all (Phase q d) j =
    let old : PhaseTimes = row t p in
    let new : PhaseTimes = with_phase_number old c v in
    let short : c ≢ 23 = number-column p c v fits in
    set-keeps (λ r. fits_in (phase_allowed d) (phase_content r d) ≡ Ok tt) t.phases (p - 1) (q - 1) new no_row
    (λ e. column-fits phase_allowed (phase_content old) (phase_content new) c d
    (λ other. phase-kept old c d v i.2 (omega (arith, i.3)) j.2 j.3 other)
    (phase-number-fits old p c v i.2 i.3 fits (all (Phase p c) i))
    (all (Phase p d) (i.0, i.1, j.2, j.3)))
    (all (Phase q d) j)
number-fits t (Split s p c) v i fits all (Split z q d) j =
    let old : SplitEntry = entry_of t s p in
    let new : SplitEntry = with_split_number old c v in
    set-keeps (λ es. fits_in (split_allowed d) (Number (split_number (get_or es (q - 1) missing_entry) d)) ≡ Ok tt) t.splits (s - 1) (z - 1)
    (set (get_or t.splits (s - 1) []) (p - 1) new) []
    (λ e. set-keeps (λ r. fits_in (split_allowed d) (Number (split_number r d)) ≡ Ok tt) (get_or t.splits (s - 1) []) (p - 1) (q - 1) new missing_entry
    (λ k. column-fits split_allowed (λ n. Number (split_number old n)) (λ n. Number (split_number new n)) c d
    (λ other. ap Number (split-other old c d v i.4 i.5 j.4 j.5 other))
    (fits-as (split_allowed c) (Number (split_number new c)) (Number v) (ap Number (split-same old c v)) fits)
    (all (Split s p d) (i.0, i.1, i.2, i.3, j.4, j.5)))
    (all (Split s q d) (i.0, i.1, j.2, j.3, j.4, j.5)))
    (all (Split z q d) j)
number-fits t (PatternCell n c) v i fits all (PatternCell m d) j =
    let old : Pattern = pattern_of t n in
    let new : Pattern = with_pattern_number old c v in
    set-keeps (λ r. fits_in (Numbers 0 255) (Number (pattern_number r d)) ≡ Ok tt) t.patterns (n - 1) (m - 1) new missing_pattern
    (λ e. column-fits (λ k. Numbers 0 255) (λ k. Number (pattern_number old k)) (λ k. Number (pattern_number new k)) c d
    (λ other. ap Number (pattern-other old c d v i.2 i.3 j.2 j.3 other))
    (fits-as (Numbers 0 255) (Number (pattern_number new c)) (Number v) (ap Number (pattern-same old c v)) fits)
    (all (PatternCell n d) (i.0, i.1, j.2, j.3)))
    (all (PatternCell m d) j)
number-fits t (PreemptCell n c) v i fits all (PreemptCell m d) j =
    let old : Preempt = preempt_of t n in
    let new : Preempt = with_preempt_number old c v in
    let short : c ≤ 11 = preempt-number-column n c v fits in
    set-keeps (λ r. fits_in (preempt_allowed d) (preempt_content r d) ≡ Ok tt) t.preempts (n - 1) (m - 1) new missing_preempt
    (λ e. column-fits preempt_allowed (preempt_content old) (preempt_content new) c d
    (λ other. preempt-kept old c d v i.2 short j.2 j.3 other)
    (fits-as (preempt_allowed c) (preempt_content new c) (Number v) (preempt-number-stands new c short ∙ ap Number (preempt-same old c v)) fits)
    (all (PreemptCell n d) (i.0, i.1, j.2, j.3)))
    (all (PreemptCell m d) j)
number-fits t (UnitCell n) v i fits all (UnitCell m) j =
    let new : Corrections = with_unit_number t.unit n v in
    column-fits unit_allowed (λ k. Number (unit_number t.unit k)) (λ k. Number (unit_number new k)) n m
    (λ other. ap Number (unit-other t.unit n m v i.0 i.1 j.0 j.1 other))
    (fits-as (unit_allowed n) (Number (unit_number new n)) (Number v) (ap Number (unit-same t.unit n v)) fits)
    (all (UnitCell m) j)
number-fits t cell v i fits all other j = all other j

-- a list of octets is read as they are
packed-listed : (octets : List ℕ) → listed (packed octets) ≡ octets
packed-listed octets = take-append_seam octets _

octets-fit : (t : Tables) (cell : Cell) (xs : List ℕ) → IsCell cell → fits_of cell (Octets xs) ≡ Ok tt → EachFits t → EachFits (with_octets t cell xs)
octets-fit t (Phase p c) xs i fits all (Phase q d) j =
    let old : PhaseTimes = row t p in
    let new : PhaseTimes = record old { concurrency = packed xs } in
    set-keeps (λ r. fits_in (phase_allowed d) (phase_content r d) ≡ Ok tt) t.phases (p - 1) (q - 1) new no_row
    (λ e. column-fits phase_allowed (phase_content old) (phase_content new) 23 d
    (λ other. number-stands new d other ∙ sym (number-stands old d other))
    (fits-as Lists (Octets (listed (packed xs))) (Octets xs) (ap Octets (packed-listed xs))
    (subst (λ (k : ℕ). fits_in (phase_allowed k) (Octets xs) ≡ Ok tt) (octets-column p c xs fits) fits))
    (all (Phase p d) (i.0, i.1, j.2, j.3)))
    (all (Phase q d) j)
octets-fit t (Sequence s r) xs i fits all (Sequence z q) j =
    set-keeps (λ ls. fits_in Lists (Octets (listed (get_or ls (q - 1) no_list))) ≡ Ok tt) t.sequences (s - 1) (z - 1)
    (set (get_or t.sequences (s - 1) []) (r - 1) (packed xs)) []
    (λ e. set-keeps (λ l. fits_in Lists (Octets (listed l)) ≡ Ok tt) (get_or t.sequences (s - 1) []) (r - 1) (q - 1) (packed xs) no_list
    (λ k. fits-as Lists (Octets (listed (packed xs))) (Octets xs) (ap Octets (packed-listed xs)) fits)
    (all (Sequence s q) (i.0, i.1, j.2, j.3)))
    (all (Sequence z q) j)
octets-fit t (PreemptCell n c) xs i fits all (PreemptCell m d) j =
    let old : Preempt = preempt_of t n in
    let new : Preempt = with_preempt_list old c (packed xs) in
    let high : 12 ≤ c = preempt-octets-column n c xs fits in
    set-keeps (λ r. fits_in (preempt_allowed d) (preempt_content r d) ≡ Ok tt) t.preempts (n - 1) (m - 1) new missing_preempt
    (λ e. column-fits preempt_allowed (preempt_content old) (preempt_content new) c d
    (λ other. preempt-list-put old c d (packed xs) high i.3 j.2 j.3 other)
    (fits-as (preempt_allowed c) (preempt_content new c) (Octets xs)
    (preempt-list-stands new c high ∙ ap Octets (ap listed (preempt-list-same old c (packed xs)) ∙ packed-listed xs)) fits)
    (all (PreemptCell n d) (i.0, i.1, j.2, j.3)))
    (all (PreemptCell m d) j)
octets-fit t (Split s p c) xs i fits all other j = all other j
octets-fit t (PatternCell n c) xs i fits all other j = all other j
octets-fit t (UnitCell n) xs i fits all other j = all other j
octets-fit t cell xs i fits all other j = all other j

pub content-fits : (t : Tables) (cell : Cell) (k : Content) → IsCell cell → fits_of cell k ≡ Ok tt → EachFits t → EachFits (with_content t cell k)
content-fits t cell (Number v) i fits all = number-fits t cell v i fits all
content-fits t cell (Octets xs) i fits all = octets-fit t cell xs i fits all

-- a result without a fault
pub ok-is : (r : Result (Unit {0}) CellFault) → is_ok r ≡ true → r ≡ Ok tt
ok-is (Ok done) t = refl
ok-is (Err fault) t = absurd (false≢true t)

pub put-fits : (t : Tables) (put : Cell × Content) → EachFits t → EachFits (with_put t put)
put-fits t put all = split (is_cell put.0) (is_ok (fits_of put.0 put.1)) refl refl
  where
    split : (there fits : Bool) → is_cell put.0 ≡ there → is_ok (fits_of put.0 put.1) ≡ fits
        → EachFits (if there && fits then with_content t put.0 put.1 else t)
    split true true there fits = content-fits t put.0 put.1 ((is-cell-tells put.0).0 there) (ok-is (fits_of put.0 put.1) fits) all
    split true false there fits = all
    split false fits there f = all

-- cells put in order leave in each cell what is allowed in it
pub cells-fit : (t : Tables) (puts : List (Cell × Content)) → EachFits t → EachFits (with_cells t puts)
cells-fit t [] all = all
cells-fit t (put ∷ puts) all = cells-fit (with_put t put) puts (put-fits t put all)

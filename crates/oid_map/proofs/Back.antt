-- Reading the arcs of a name gives the name back.
use Rattle.std.proofs.Common.{◌≡◌, ◌≢◌, ℕ, zero, suc, ◌+◌, ◌-◌, ◌<◌, ◌≤◌, true, false, leb, eqb, List, [], ◌∷◌, get_or, length, Option, Some, None, refl, ap, arith}
use Rattle.std.specs.Prelude.{IfNone}
use Rattle.sig_tables.specs.Cells.{IsCell}
use Rattle.std.proofs.lemmas.Bool.{le-leb, lt-leb, ne_eqb}
use Rattle.sig_tables.specs.declared.cells.Cell.{Cell}
use Rattle.sig_tables.specs.declared.cells.Cell.TheVariants.{Phase as PhaseCell, Sequence as SequenceCell, Split as SplitCell, Pattern as PatternCell, Preempt as PreemptCell, Unit as UnitCell}
use Rattle.oid_map.specs.declared.names.TableName.{TableName}
use Rattle.oid_map.specs.declared.names.TableName.TheVariants.{Phase, Group, Pattern, Split, Preempt, Sequence}
use Rattle.oid_map.specs.declared.names.Name.{Name}
use Rattle.oid_map.specs.declared.names.Name.TheVariants.{Cell as CellName, Index, Group as GroupName, PatternStatus, PatternControl, Txn, Clock, Counter, Target, ModeCode, Request, Cancel, RequestState}
use Rattle.oid_map.specs.Names.{IsName, IsIndex, IsBetween, arcs_of}
use Rattle.oid_map.specs.Reading.{is_between, asc_name, own_name, name_at}

pub five_is : (xs : List ℕ) → 5 ≤ length xs → length xs < 6 → xs ≡ get_or xs 0 0 ∷ get_or xs 1 0 ∷ get_or xs 2 0 ∷ get_or xs 3 0 ∷ get_or xs 4 0 ∷ []
five_is (a ∷ b ∷ c ∷ d ∷ e ∷ []) some few = refl
five_is [] some few = absurd (omega arith)
five_is (a ∷ []) some few = absurd (omega arith)
five_is (a ∷ b ∷ []) some few = absurd (omega arith)
five_is (a ∷ b ∷ c ∷ []) some few = absurd (omega arith)
five_is (a ∷ b ∷ c ∷ d ∷ []) some few = absurd (omega arith)
five_is (a ∷ b ∷ c ∷ d ∷ e ∷ f ∷ more) some few = absurd (omega arith)

pub six_is : (xs : List ℕ) → 6 ≤ length xs → length xs < 7
    → xs ≡ get_or xs 0 0 ∷ get_or xs 1 0 ∷ get_or xs 2 0 ∷ get_or xs 3 0 ∷ get_or xs 4 0 ∷ get_or xs 5 0 ∷ []
six_is [] some few = absurd (omega arith)
six_is (a ∷ more) some few = ap (λ (ys : List ℕ). a ∷ ys) (five_is more (omega arith) (omega arith))

between_is : (n least most : ℕ) → IsBetween n least most → is_between n least most ≡ true
between_is n least most h = rw (le-leb least n h.0, le-leb n most h.1) refl

-- the second index column and those after it
second : (n : ℕ) → 2 ≤ n → eqb n 1 ≡ false
second n h = ne_eqb n 1 (λ e. absurd (omega arith))

index_back : (table : TableName) (column row sub : ℕ) → IsIndex table column row sub → name_at (arcs_of (Index table column row sub)) ≡ Some (Index table column row sub)
unfolding asc_name
index_back Phase column row sub h = rw (h.0, h.2, between_is row 1 16 h.1) refl
index_back Group column row sub h = rw (h.0, h.2, between_is row 1 2 h.1) refl
index_back Pattern column row sub h = rw (h.0, h.2, between_is row 1 48 h.1) refl
index_back Split column row sub h =
    let wide : is_between column 1 5 ≡ true = between_is column 1 5 (h.0.0, omega (arith, h.0.1)) in
    rw (wide, between_is row 1 32 h.1, between_is sub 1 16 h.2, le-leb column 2 h.0.1) refl
index_back Preempt column row sub h = rw (h.0, h.2, between_is row 1 8 h.1) refl
index_back Sequence column row sub h =
    let wide : is_between column 1 3 ≡ true = between_is column 1 3 (h.0.0, omega (arith, h.0.1)) in
    rw (wide, between_is row 1 16 h.1, between_is sub 1 2 h.2, le-leb column 2 h.0.1) refl

cell_back : (cell : Cell) → IsCell cell → name_at (arcs_of (CellName cell)) ≡ Some (CellName cell)
unfolding asc_name own_name
cell_back (PhaseCell phase column) h =
    let wide : is_between column 1 23 ≡ true = between_is column 1 23 (omega (arith, h.2), h.3) in
    rw (wide, between_is phase 1 16 (h.0, h.1), second column h.2) refl
cell_back (SequenceCell sequence ring) h = rw (between_is sequence 1 16 (h.0, h.1), between_is ring 1 2 (h.2, h.3)) refl
cell_back (SplitCell split phase column) h =
    let wide : is_between column 1 5 ≡ true = between_is column 1 5 (omega (arith, h.4), h.5) in
    let later : leb column 2 ≡ false = lt-leb column 2 (omega (arith, h.4)) in
    rw (wide, between_is split 1 32 (h.0, h.1), between_is phase 1 16 (h.2, h.3), later) refl
cell_back (PatternCell pattern column) h =
    let wide : is_between column 1 5 ≡ true = between_is column 1 5 (omega (arith, h.2), h.3) in
    rw (wide, between_is pattern 1 48 (h.0, h.1), second column h.2) refl
cell_back (PreemptCell preempt column) h =
    let later : eqb column 1 ≡ false = second column (omega (arith, h.2)) in
    rw (between_is preempt 1 8 (h.0, h.1), later, between_is column 4 15 (h.2, h.3)) refl
cell_back (UnitCell zero) h = absurd (omega arith)
cell_back (UnitCell (suc zero)) h = refl
cell_back (UnitCell (suc (suc n))) h =
    let one : eqb (suc (suc n)) 1 ≡ false = second (suc (suc n)) (omega arith) in
    let less : suc (suc n) - 1 ≡ suc n = omega arith in
    let wide : is_between (suc n) 1 7 ≡ true = between_is (suc n) 1 7 (omega arith, omega (arith, h.1)) in
    let up : suc n + 1 ≡ suc (suc n) = omega arith in
    rw (one, less, wide, up) refl

-- the arcs of a name are those of no other
pub back : (name : Name) → IsName name → name_at (arcs_of name) ≡ Some name
unfolding asc_name own_name
back (CellName cell) h = cell_back cell h
back (Index table column row sub) h = index_back table column row sub h
back (GroupName column group) h =
    let wide : is_between column 1 10 ≡ true = between_is column 1 10 (omega (arith, h.0.0), h.0.1) in
    rw (wide, between_is group 1 2 h.1, second column h.0.0) refl
back PatternStatus h = refl
back PatternControl h = refl
back (Txn number) h = rw (between_is number 1 10 h) refl
back Clock h = refl
back Counter h = refl
back Target h = refl
back ModeCode h = refl
back Request h = refl
back Cancel h = refl
back (RequestState number) h = rw (between_is number 1 10 h) refl

-- a reading that gives each name back gives none only where there is none
pub none_is_right : (result : Option Name) (arcs : List ℕ) → ((n : Name) → IsName n → arcs ≡ arcs_of n → result ≡ Some n)
    → IfNone result ((n : Name) → IsName n → arcs ≢ arcs_of n)
none_is_right (Some n) arcs h = tt
none_is_right None arcs h = λ n is e. let s : None ≡ Some n = h n is e in cc

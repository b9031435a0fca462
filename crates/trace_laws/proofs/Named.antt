-- The name of each instance has small arcs.
use Rattle.std.proofs.Common.{ℕ, ◌<◌, ◌≤◌, ◌-◌, ◌==◌, ◌++◌, ◌∷◌, [], Bool, true, false, if◌then◌else◌, List, length, arith}
use Rattle.std.specs.List.{AllByRecursion}
use Rattle.sig_tables.specs.declared.cells.Cell.{Cell}
use Rattle.sig_tables.specs.declared.cells.Cell.TheVariants.{Phase, Sequence, Split, Pattern, Preempt, Unit as UnitCell}
use Rattle.sig_tables.specs.Cells.{IsCell}
use Rattle.oid_map.specs.declared.names.Name.{Name}
use Rattle.oid_map.specs.declared.names.Name.TheVariants.{Cell as CellName, Index, Group, PatternStatus, PatternControl, Txn, Clock, Counter, Target, ModeCode, Request, Cancel, RequestState}
use Rattle.oid_map.specs.declared.names.TableName.{TableName}
use Rattle.oid_map.specs.declared.names.TableName.TheVariants.{Phase as PhaseTable, Group as GroupTable, Pattern as PatternTable, Split as SplitTable, Preempt as PreemptTable, Sequence as SequenceTable}
use Rattle.oid_map.specs.Names.{IsName, arcs_of, cell_arcs, index_arcs}
use Rattle.oid_map.specs.Objects.{asc, own}
use Rattle.trace_laws.specs.Messages.{IsShortName}

-- arcs of at most 48
abbrev AreLow : List ℕ → Type 0
AreLow arcs = AllByRecursion (λ arc. arc ≤ 48) arcs

low-short : (arcs : List ℕ) → AreLow arcs → AllByRecursion (λ arc. arc < 4294967296) arcs
low-short [] all = tt
low-short (arc ∷ arcs) all = (omega (arith, all.0), low-short arcs all.1)

asc-short : (arcs : List ℕ) → AreLow arcs → length arcs ≤ 6 → IsShortName (asc ++ arcs)
asc-short arcs all few = record {
  writable = (record { root = omega arith; under_root = λ e. omega arith; under_last = λ e. omega (arith, e) }, omega (arith, few));
  short = (omega arith, (omega arith, (omega arith, (omega arith, (omega arith, (omega arith, (omega arith, (omega arith, (omega arith, (omega arith, low-short arcs all))))))))));
}

own-short : (arcs : List ℕ) → AreLow arcs → length arcs ≤ 6 → IsShortName (own ++ arcs)
own-short arcs all few = record {
  writable = (record { root = omega arith; under_root = λ e. omega arith; under_last = λ e. omega (arith, e) }, omega (arith, few));
  short = (omega arith, (omega arith, (omega arith, (omega arith, (omega arith, (omega arith, (omega arith, (omega arith, low-short arcs all))))))));
}

cell-short : (cell : Cell) → IsCell cell → IsShortName (cell_arcs cell)
cell-short (Phase p c) is =
    asc-short (1 ∷ 2 ∷ 1 ∷ c ∷ p ∷ []) (omega arith, (omega arith, (omega arith, (omega (arith, is.3), (omega (arith, is.1), tt))))) (omega arith)
cell-short (Sequence s r) is =
    asc-short (7 ∷ 3 ∷ 1 ∷ 3 ∷ s ∷ r ∷ []) (omega arith, (omega arith, (omega arith, (omega arith, (omega (arith, is.1), (omega (arith, is.3), tt)))))) (omega arith)
cell-short (Split s p c) is =
    asc-short (4 ∷ 9 ∷ 1 ∷ c ∷ s ∷ p ∷ []) (omega arith, (omega arith, (omega arith, (omega (arith, is.5), (omega (arith, is.1), (omega (arith, is.3), tt)))))) (omega arith)
cell-short (Pattern n c) is =
    asc-short (4 ∷ 7 ∷ 1 ∷ c ∷ n ∷ []) (omega arith, (omega arith, (omega arith, (omega (arith, is.3), (omega (arith, is.1), tt))))) (omega arith)
cell-short (Preempt i c) is =
    asc-short (6 ∷ 2 ∷ 1 ∷ c ∷ i ∷ []) (omega arith, (omega arith, (omega arith, (omega (arith, is.3), (omega (arith, is.1), tt))))) (omega arith)
cell-short (UnitCell n) is = split (n == 1)
  where
    split : (b : Bool) → IsShortName (if b then asc ++ 4 ∷ 2 ∷ 0 ∷ [] else own ++ 3 ∷ (n - 1) ∷ 0 ∷ [])
    split true = asc-short (4 ∷ 2 ∷ 0 ∷ []) (omega arith, (omega arith, (omega arith, tt))) (omega arith)
    split false = own-short (3 ∷ (n - 1) ∷ 0 ∷ []) (omega arith, (omega (arith, is.1), (omega arith, tt))) (omega arith)

by-one : (group table column row : ℕ) → group ≤ 48 → table ≤ 48 → column ≤ 48 → row ≤ 48 → IsShortName (asc ++ group ∷ table ∷ 1 ∷ column ∷ row ∷ [])
by-one group table column row a b c d = asc-short (group ∷ table ∷ 1 ∷ column ∷ row ∷ []) (a, (b, (omega arith, (c, (d, tt))))) (omega arith)

by-two : (group table column row sub : ℕ) → group ≤ 48 → table ≤ 48 → column ≤ 48 → row ≤ 48 → sub ≤ 48
    → IsShortName (asc ++ group ∷ table ∷ 1 ∷ column ∷ row ∷ sub ∷ [])
by-two group table column row sub a b c d e = asc-short (group ∷ table ∷ 1 ∷ column ∷ row ∷ sub ∷ []) (a, (b, (omega arith, (c, (d, (e, tt)))))) (omega arith)

index-short : (table : TableName) (column row sub : ℕ) → IsName (Index table column row sub) → IsShortName (index_arcs table column row sub)
index-short PhaseTable column row sub is = by-one 1 2 column row (omega arith) (omega arith) (omega (arith, is.0)) (omega (arith, is.1.1))
index-short GroupTable column row sub is = by-one 1 4 column row (omega arith) (omega arith) (omega (arith, is.0)) (omega (arith, is.1.1))
index-short PatternTable column row sub is = by-one 4 7 column row (omega arith) (omega arith) (omega (arith, is.0)) (omega (arith, is.1.1))
index-short SplitTable column row sub is = by-two 4 9 column row sub (omega arith) (omega arith) (omega (arith, is.0.1)) (omega (arith, is.1.1)) (omega (arith, is.2.1))
index-short PreemptTable column row sub is = by-one 6 2 column row (omega arith) (omega arith) (omega (arith, is.0)) (omega (arith, is.1.1))
index-short SequenceTable column row sub is = by-two 7 3 column row sub (omega arith) (omega arith) (omega (arith, is.0.1)) (omega (arith, is.1.1)) (omega (arith, is.2.1))

three : (a b c : ℕ) → a ≤ 48 → b ≤ 48 → c ≤ 48 → AreLow (a ∷ b ∷ c ∷ [])
three a b c p q r = (p, (q, (r, tt)))

pub name-short : (name : Name) → IsName name → IsShortName (arcs_of name)
name-short (CellName cell) is = cell-short cell is
name-short (Index table column row sub) is = index-short table column row sub is
name-short (Group column group) is = by-one 1 4 column group (omega arith) (omega arith) (omega (arith, is.0.1)) (omega (arith, is.1.1))
name-short PatternStatus is = asc-short (4 ∷ 10 ∷ 0 ∷ []) (three 4 10 0 (omega arith) (omega arith) (omega arith)) (omega arith)
name-short PatternControl is = asc-short (4 ∷ 14 ∷ 0 ∷ []) (three 4 14 0 (omega arith) (omega arith) (omega arith)) (omega arith)
name-short (Txn number) is = own-short (1 ∷ number ∷ 0 ∷ []) (three 1 number 0 (omega arith) (omega (arith, is.1)) (omega arith)) (omega arith)
name-short Clock is = own-short (2 ∷ 1 ∷ 0 ∷ []) (three 2 1 0 (omega arith) (omega arith) (omega arith)) (omega arith)
name-short Counter is = own-short (2 ∷ 2 ∷ 0 ∷ []) (three 2 2 0 (omega arith) (omega arith) (omega arith)) (omega arith)
name-short Target is = own-short (2 ∷ 3 ∷ 0 ∷ []) (three 2 3 0 (omega arith) (omega arith) (omega arith)) (omega arith)
name-short ModeCode is = own-short (2 ∷ 4 ∷ 0 ∷ []) (three 2 4 0 (omega arith) (omega arith) (omega arith)) (omega arith)
name-short Request is = own-short (4 ∷ 1 ∷ 0 ∷ []) (three 4 1 0 (omega arith) (omega arith) (omega arith)) (omega arith)
name-short Cancel is = own-short (4 ∷ 2 ∷ 0 ∷ []) (three 4 2 0 (omega arith) (omega arith) (omega arith)) (omega arith)
name-short (RequestState number) is =
    own-short (4 ∷ 3 ∷ 1 ∷ number ∷ []) (omega arith, (omega arith, (omega arith, (omega (arith, is.1), tt)))) (omega arith)

-- The names of the instances of objects, and their arcs.
use Rattle.std.specs.Prelude.{◌≡◌, ℕ, ◌≤◌, ◌<◌, ◌⊎◌, ◌-◌, ◌==◌, if◌then◌else◌, List, [], ◌∷◌, ◌++◌}
use Rattle.sig_tables.specs.Cells.{IsCell}
use Rattle.sig_tables.specs.declared.cells.Cell.{Cell}
use Rattle.sig_tables.specs.declared.cells.Cell.TheVariants.{Phase as PhaseCell, Sequence as SequenceCell, Split as SplitCell, Pattern as PatternCell, Preempt as PreemptCell, Unit as UnitCell}
use Rattle.oid_map.specs.declared.names.TableName.{TableName}
use Rattle.oid_map.specs.declared.names.TableName.TheVariants.{Phase, Group, Pattern, Split, Preempt, Sequence}
use Rattle.oid_map.specs.declared.names.Name.{Name}
use Rattle.oid_map.specs.declared.names.Name.TheVariants.{Cell as CellName, Index, Group as GroupName, PatternStatus, PatternControl, Txn, Clock, Counter, Target, ModeCode, Request, Cancel, RequestState}
use Rattle.oid_map.specs.Objects.{asc, own}

-- the number is from `least` to `most`
abbrev pub IsBetween : ℕ → ℕ → ℕ → Type 0
IsBetween number least most = (least ≤ number) × (number ≤ most)

-- an index column of a table: it has the number of its row. Splits and sequences also have a column with their second
-- index
abbrev pub IsIndex : TableName → ℕ → ℕ → ℕ → Type 0
IsIndex Phase column row sub = (column ≡ 1) × IsBetween row 1 16 × (sub ≡ 0)
IsIndex Group column row sub = (column ≡ 1) × IsBetween row 1 2 × (sub ≡ 0)
IsIndex Pattern column row sub = (column ≡ 1) × IsBetween row 1 48 × (sub ≡ 0)
IsIndex Split column row sub = IsBetween column 1 2 × IsBetween row 1 32 × IsBetween sub 1 16
IsIndex Preempt column row sub = (column ≡ 1) × IsBetween row 1 8 × (sub ≡ 0)
IsIndex Sequence column row sub = IsBetween column 1 2 × IsBetween row 1 16 × IsBetween sub 1 2

-- the name exists
abbrev pub IsName : Name → Type 0
IsName (CellName cell) = IsCell cell
IsName (Index table column row sub) = IsIndex table column row sub
IsName (GroupName column group) = IsBetween column 2 10 × IsBetween group 1 2
IsName (Txn number) = IsBetween number 1 10
IsName (RequestState number) = IsBetween number 1 10
IsName _ = Unit {0}

-- the instance with this name can be read. Begin, id, part, total and finish of a download, requests and cancels can
-- only be written
abbrev pub IsReadable : Name → Type 0
IsReadable (Txn number) = (number < 2) ⊎ (6 < number)
IsReadable Request = ⊥
IsReadable Cancel = ⊥
IsReadable _ = Unit {0}

-- the arcs of a cell
abbrev pub cell_arcs : Cell → List ℕ
cell_arcs (PhaseCell phase column) = asc ++ 1 ∷ 2 ∷ 1 ∷ column ∷ phase ∷ []
cell_arcs (SequenceCell sequence ring) = asc ++ 7 ∷ 3 ∷ 1 ∷ 3 ∷ sequence ∷ ring ∷ []
cell_arcs (SplitCell split phase column) = asc ++ 4 ∷ 9 ∷ 1 ∷ column ∷ split ∷ phase ∷ []
cell_arcs (PatternCell pattern column) = asc ++ 4 ∷ 7 ∷ 1 ∷ column ∷ pattern ∷ []
cell_arcs (PreemptCell preempt column) = asc ++ 6 ∷ 2 ∷ 1 ∷ column ∷ preempt ∷ []
cell_arcs (UnitCell number) = if number == 1 then asc ++ 4 ∷ 2 ∷ 0 ∷ [] else own ++ 3 ∷ (number - 1) ∷ 0 ∷ []

-- the arcs of an index
abbrev pub index_arcs : TableName → ℕ → ℕ → ℕ → List ℕ
index_arcs Phase column row sub = asc ++ 1 ∷ 2 ∷ 1 ∷ column ∷ row ∷ []
index_arcs Group column row sub = asc ++ 1 ∷ 4 ∷ 1 ∷ column ∷ row ∷ []
index_arcs Pattern column row sub = asc ++ 4 ∷ 7 ∷ 1 ∷ column ∷ row ∷ []
index_arcs Split column row sub = asc ++ 4 ∷ 9 ∷ 1 ∷ column ∷ row ∷ sub ∷ []
index_arcs Preempt column row sub = asc ++ 6 ∷ 2 ∷ 1 ∷ column ∷ row ∷ []
index_arcs Sequence column row sub = asc ++ 7 ∷ 3 ∷ 1 ∷ column ∷ row ∷ sub ∷ []

-- the arcs of a name
abbrev pub arcs_of : Name → List ℕ
arcs_of (CellName cell) = cell_arcs cell
arcs_of (Index table column row sub) = index_arcs table column row sub
arcs_of (GroupName column group) = asc ++ 1 ∷ 4 ∷ 1 ∷ column ∷ group ∷ []
arcs_of PatternStatus = asc ++ 4 ∷ 10 ∷ 0 ∷ []
arcs_of PatternControl = asc ++ 4 ∷ 14 ∷ 0 ∷ []
arcs_of (Txn number) = own ++ 1 ∷ number ∷ 0 ∷ []
arcs_of Clock = own ++ 2 ∷ 1 ∷ 0 ∷ []
arcs_of Counter = own ++ 2 ∷ 2 ∷ 0 ∷ []
arcs_of Target = own ++ 2 ∷ 3 ∷ 0 ∷ []
arcs_of ModeCode = own ++ 2 ∷ 4 ∷ 0 ∷ []
arcs_of Request = own ++ 4 ∷ 1 ∷ 0 ∷ []
arcs_of Cancel = own ++ 4 ∷ 2 ∷ 0 ∷ []
arcs_of (RequestState number) = own ++ 4 ∷ 3 ∷ 1 ∷ number ∷ []

-- an instance that can be read has these arcs
abbrev pub IsReadableInstance : List ℕ → Type 0
IsReadableInstance arcs = (name : Name) × IsName name × IsReadable name × (arcs ≡ arcs_of name)

-- an instance that can only be written has these arcs
abbrev pub IsWriteOnlyInstance : List ℕ → Type 0
IsWriteOnlyInstance arcs = (name : Name) × IsName name × (IsReadable name → ⊥) × (arcs ≡ arcs_of name)

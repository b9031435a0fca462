-- How the arcs of a name are read, by their number. The clauses of the calls state that this is the inverse of
-- `arcs_of`.
use Rattle.std.specs.Prelude.{ℕ, ◌+◌, Bool, ◌==◌, ◌&&◌, nat_le, if◌then◌else◌, List, [], ◌∷◌, Option, Some, None}
use Rattle.sig_tables.specs.declared.cells.Cell.TheVariants.{Phase as PhaseCell, Sequence as SequenceCell, Split as SplitCell, Pattern as PatternCell, Preempt as PreemptCell, Unit as UnitCell}
use Rattle.oid_map.specs.declared.names.TableName.TheVariants.{Phase, Group, Pattern, Split, Preempt, Sequence}
use Rattle.oid_map.specs.declared.names.Name.{Name}
use Rattle.oid_map.specs.declared.names.Name.TheVariants.{Cell as CellName, Index, Group as GroupName, PatternStatus, PatternControl, Txn, Clock, Counter, Target, ModeCode, Request, Cancel, RequestState}
use Rattle.oid_map.specs.Objects.{asc, own}

-- the arcs after the prefix, if the name begins with it
abbrev pub under : List ℕ → List ℕ → Option (List ℕ)
under [] name = Some name
under (arc ∷ prefix) [] = None
under (arc ∷ prefix) (first ∷ name) = if first == arc then under prefix name else None

-- the number is from `least` to `most`
abbrev pub is_between : ℕ → ℕ → ℕ → Bool
is_between number least most = nat_le least number && nat_le number most

-- the name in a column of a table; None if the column or the row doesn't exist
abbrev pub phase_name : ℕ → ℕ → Option Name
phase_name column phase =
    if is_between column 1 23 && is_between phase 1 16 then Some (if column == 1 then Index Phase 1 phase 0 else CellName (PhaseCell phase column)) else None

abbrev pub group_name : ℕ → ℕ → Option Name
group_name column group =
    if is_between column 1 10 && is_between group 1 2 then Some (if column == 1 then Index Group 1 group 0 else GroupName column group) else None

abbrev pub pattern_name : ℕ → ℕ → Option Name
pattern_name column pattern =
    if is_between column 1 5 && is_between pattern 1 48 then Some (if column == 1 then Index Pattern 1 pattern 0 else CellName (PatternCell pattern column)) else None

abbrev pub preempt_name : ℕ → ℕ → Option Name
preempt_name column preempt =
    if is_between preempt 1 8 then
    (if column == 1 then Some (Index Preempt 1 preempt 0)
    else if is_between column 4 15 then Some (CellName (PreemptCell preempt column)) else None)
    else None

abbrev pub split_name : ℕ → ℕ → ℕ → Option Name
split_name column split phase =
    if is_between column 1 5 && is_between split 1 32 && is_between phase 1 16 then
    Some (if nat_le column 2 then Index Split column split phase else CellName (SplitCell split phase column))
    else None

abbrev pub sequence_name : ℕ → ℕ → ℕ → Option Name
sequence_name column sequence ring =
    if is_between column 1 3 && is_between sequence 1 16 && is_between ring 1 2 then
    Some (if nat_le column 2 then Index Sequence column sequence ring else CellName (SequenceCell sequence ring))
    else None

-- the first three numbers are equal to the last three, in order
abbrev pub is_entry : ℕ → ℕ → ℕ → ℕ → ℕ → ℕ → Bool
is_entry group table entry first second third = group == first && table == second && entry == third

-- the name that arcs under `asc` give: the name of a scalar, of a column with one index, or of a column with two
-- indices
abbrev pub asc_scalar : ℕ → ℕ → ℕ → Option Name
asc_scalar group number last =
    if is_entry group number last 4 2 0 then Some (CellName (UnitCell 1))
    else if is_entry group number last 4 10 0 then Some PatternStatus
    else if is_entry group number last 4 14 0 then Some PatternControl
    else None

abbrev pub asc_by_one : ℕ → ℕ → ℕ → ℕ → ℕ → Option Name
asc_by_one group table entry column row =
    if is_entry group table entry 1 2 1 then phase_name column row
    else if is_entry group table entry 1 4 1 then group_name column row
    else if is_entry group table entry 4 7 1 then pattern_name column row
    else if is_entry group table entry 6 2 1 then preempt_name column row
    else None

abbrev pub asc_by_two : ℕ → ℕ → ℕ → ℕ → ℕ → ℕ → Option Name
asc_by_two group table entry column row sub =
    if is_entry group table entry 4 9 1 then split_name column row sub
    else if is_entry group table entry 7 3 1 then sequence_name column row sub
    else None

-- the name of these arcs under `asc`
unfoldable pub asc_name : List ℕ → Option Name
asc_name (group ∷ number ∷ last ∷ []) = asc_scalar group number last
asc_name (group ∷ table ∷ entry ∷ column ∷ row ∷ []) = asc_by_one group table entry column row
asc_name (group ∷ table ∷ entry ∷ column ∷ row ∷ sub ∷ []) = asc_by_two group table entry column row sub
asc_name _ = None

-- the name that arcs under `own` give: the name of a value that the cabinet shows, of a value of the unit, or of any
-- scalar
abbrev pub status_name : ℕ → Option Name
status_name number =
    if number == 1 then Some Clock
    else if number == 2 then Some Counter
    else if number == 3 then Some Target
    else if number == 4 then Some ModeCode
    else None

abbrev pub unit_name : ℕ → Option Name
unit_name number = if is_between number 1 7 then Some (CellName (UnitCell (number + 1))) else None

abbrev pub own_scalar : ℕ → ℕ → Option Name
own_scalar group number =
    if group == 1 then (if is_between number 1 10 then Some (Txn number) else None)
    else if group == 2 then status_name number
    else if group == 3 then unit_name number
    else if group == 4 then (if number == 1 then Some Request else if number == 2 then Some Cancel else None)
    else None

-- the name of these arcs under `own`
unfoldable pub own_name : List ℕ → Option Name
own_name (group ∷ number ∷ last ∷ []) = if last == 0 then own_scalar group number else None
own_name (group ∷ table ∷ entry ∷ number ∷ []) = if is_entry group table entry 4 3 1 && is_between number 1 10 then Some (RequestState number) else None
own_name _ = None

-- the name of the arcs after the prefix `own`; None if there is no such prefix
abbrev pub name_under_own : Option (List ℕ) → Option Name
name_under_own (Some rest) = own_name rest
name_under_own None = None

-- the name of these arcs: by the arcs after the prefix `asc`, or, without this prefix, by those after the prefix
-- `own`
abbrev pub name_under : Option (List ℕ) → List ℕ → Option Name
name_under (Some rest) arcs = asc_name rest
name_under None arcs = name_under_own (under own arcs)

-- the name with these arcs, if one has them
abbrev pub name_at : List ℕ → Option Name
name_at arcs = name_under (under asc arcs) arcs

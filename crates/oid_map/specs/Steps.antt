-- What the steps to the next instance guarantee about the arcs that they append.
use Rattle.std.specs.Prelude.{◌≡◌, ℕ, ◌≤◌, Bool, true, false, nat_lt, if◌then◌else◌, List, [], ◌∷◌, ◌++◌, Option, Some, None}
use Rattle.oid_map.specs.declared.objects.Range.{Range}
use Rattle.oid_map.specs.declared.objects.Object.{Object}
use Rattle.oid_map.specs.declared.objects.Object.TheVariants.{Scalar, Scalars, Column as ColumnObject, OneIndex, TwoIndices}
use Rattle.oid_map.specs.Objects.{Row, readable_row, ◌to◌}

-- no range is empty
abbrev pub AreRanges : List Range → Type 0
AreRanges [] = Unit {0}
AreRanges (range ∷ ranges) = (range.least ≤ range.most) × AreRanges ranges

-- the part of the name after the prefix. It is empty if the name comes before every name that begins with the prefix,
-- and None if it comes after all of them
abbrev pub rest_after : List ℕ → List ℕ → Option (List ℕ)
rest_after [] name = Some name
rest_after (arc ∷ prefix) [] = Some []
rest_after (arc ∷ prefix) (first ∷ name) =
    if nat_lt first arc then Some []
    else if nat_lt arc first then None
    else rest_after prefix name

-- true means that these arcs were appended, and false that there are none to append
abbrev pub Continues : List ℕ → List ℕ → Bool → Option (List ℕ) → Type 0
Continues old new true (Some arcs) = new ≡ old ++ arcs
Continues old new false None = new ≡ old
Continues old new _ _ = ⊥

-- the row of an object in the table of the code
abbrev pub row_of : Object → Row
row_of (Scalar group number) = readable_row (group ∷ []) (number to number ∷ 0 to 0 ∷ [])
row_of (Scalars group numbers) = readable_row (group ∷ []) (numbers ∷ 0 to 0 ∷ [])
row_of (ColumnObject entry rows) = readable_row entry (rows ∷ [])
row_of (OneIndex entry columns rows) = readable_row entry (columns ∷ rows ∷ [])
row_of (TwoIndices entry columns rows subs) = readable_row entry (columns ∷ rows ∷ subs ∷ [])

-- no range of these objects is empty
abbrev pub AreRows : List Object → Type 0
AreRows [] = Unit {0}
AreRows (object ∷ objects) = AreRanges (row_of object).indices × AreRows objects

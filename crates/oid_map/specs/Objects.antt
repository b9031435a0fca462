-- The table of the objects, and the readable instances in the order of a walk.
use Rattle.std.specs.Prelude.{ℕ, zero, suc, ◌+◌, ◌-◌, Bool, true, false, not, List, [], ◌∷◌, ◌++◌, map, Option, Some, None, ◌≡◌}
use Rattle.std.specs.List.{filter, find, flat_map}
use Rattle.oid_map.specs.declared.objects.Range.{Range}
use Rattle.oid_map.specs.Order.{is_before}

-- one object, or several objects of one form: the arcs with which all their names begin, the ranges of the other
-- arcs, and whether the objects can be read
pub record Row : Type 0 where
  pub arcs : List ℕ
  pub indices : List Range
  pub readable : Bool

-- the prefix of the objects of actuated controllers (after NTCIP 1202; this profile chooses the rows)
abbrev pub asc : List ℕ
asc = 1 ∷ 3 ∷ 6 ∷ 1 ∷ 4 ∷ 1 ∷ 1206 ∷ 4 ∷ 2 ∷ 1 ∷ []

-- the prefix of this project's own objects, under the number for examples (RFC 5612)
abbrev pub own : List ℕ
own = 1 ∷ 3 ∷ 6 ∷ 1 ∷ 4 ∷ 1 ∷ 32473 ∷ 1 ∷ []

-- the range from `least` to `most`
infix 70 ◌to◌
abbrev pub ◌to◌ : ℕ → ℕ → Range
least to most = record { least = least; most = most }

-- a row of objects that can be read
abbrev pub readable_row : List ℕ → List Range → Row
readable_row arcs indices = record { arcs = arcs; indices = indices; readable = true }

-- a row of objects that can only be written
abbrev pub write_only_row : List ℕ → List Range → Row
write_only_row arcs indices = record { arcs = arcs; indices = indices; readable = false }

-- the table of the objects, in the order of their names; the instance of a scalar ends in 0
unfoldable pub objects : List Row
objects =
    -- phases: columns 1 to 23
    readable_row (asc ++ 1 ∷ 2 ∷ 1 ∷ []) (1 to 23 ∷ 1 to 16 ∷ [])
    -- groups of phases: columns 1 to 10
    ∷ readable_row (asc ++ 1 ∷ 4 ∷ 1 ∷ []) (1 to 10 ∷ 1 to 2 ∷ [])
    -- correction mode
    ∷ readable_row (asc ++ 4 ∷ []) (2 to 2 ∷ 0 to 0 ∷ [])
    -- patterns: columns 1 to 5
    ∷ readable_row (asc ++ 4 ∷ 7 ∷ 1 ∷ []) (1 to 5 ∷ 1 to 48 ∷ [])
    -- splits: columns 1 to 5, then split and phase
    ∷ readable_row (asc ++ 4 ∷ 9 ∷ 1 ∷ []) (1 to 5 ∷ 1 to 32 ∷ 1 to 16 ∷ [])
    -- pattern status, and pattern control
    ∷ readable_row (asc ++ 4 ∷ []) (10 to 10 ∷ 0 to 0 ∷ [])
    ∷ readable_row (asc ++ 4 ∷ []) (14 to 14 ∷ 0 to 0 ∷ [])
    -- preempts: columns 1 and 4 to 15
    ∷ readable_row (asc ++ 6 ∷ 2 ∷ 1 ∷ []) (1 to 1 ∷ 1 to 8 ∷ [])
    ∷ readable_row (asc ++ 6 ∷ 2 ∷ 1 ∷ []) (4 to 15 ∷ 1 to 8 ∷ [])
    -- sequences: columns 1 to 3, then sequence and ring
    ∷ readable_row (asc ++ 7 ∷ 3 ∷ 1 ∷ []) (1 to 3 ∷ 1 to 16 ∷ 1 to 2 ∷ [])
    -- downloads: the stage's state, what is written to it, its last outcome, rule and row, and the version
    ∷ readable_row (own ++ 1 ∷ []) (1 to 1 ∷ 0 to 0 ∷ [])
    ∷ write_only_row (own ++ 1 ∷ []) (2 to 6 ∷ 0 to 0 ∷ [])
    ∷ readable_row (own ++ 1 ∷ []) (7 to 10 ∷ 0 to 0 ∷ [])
    -- clock, counter, target, mode code
    ∷ readable_row (own ++ 2 ∷ []) (1 to 4 ∷ 0 to 0 ∷ [])
    -- limits of the correction, backup time, extension limit, force mode, offset reference
    ∷ readable_row (own ++ 3 ∷ []) (1 to 7 ∷ 0 to 0 ∷ [])
    -- priority request and cancel, and the state of each request
    ∷ write_only_row (own ++ 4 ∷ []) (1 to 2 ∷ 0 to 0 ∷ [])
    ∷ readable_row (own ++ 4 ∷ 3 ∷ 1 ∷ []) (1 to 10 ∷ [])
    ∷ []

-- this many numbers, from `first` on
abbrev pub counted : ℕ → ℕ → List ℕ
counted zero first = []
counted (suc n) first = first ∷ counted n (first + 1)

-- the numbers in a range
abbrev pub numbers : Range → List ℕ
numbers range = counted (range.most + 1 - range.least) range.least

-- all tuples of indices in these ranges, in order; the last index changes fastest
abbrev pub tuples : List Range → List (List ℕ)
tuples [] = [] ∷ []
tuples (range ∷ ranges) = flat_map (λ index. map (λ later. index ∷ later) (tuples ranges)) (numbers range)

-- the instances of a row
abbrev pub instances : Row → List (List ℕ)
instances row = map (λ indices. row.arcs ++ indices) (tuples row.indices)

-- the rows that can be read
abbrev pub readable_rows : List Row
readable_rows = filter (λ row. row.readable) objects

-- the instances that can be read, in the order of a walk
unfoldable pub readable : List (List ℕ)
readable = flat_map instances readable_rows

-- the rows that can only be written
abbrev pub write_only_rows : List Row
write_only_rows = filter (λ row. not row.readable) objects

-- the instances that can only be written
unfoldable pub write_only : List (List ℕ)
write_only = flat_map instances write_only_rows

-- the next instance: the first readable instance after this name
abbrev pub next_of : List ℕ → Option (List ℕ)
next_of name = find (is_before name) readable

-- each of these names is the next instance after the name before it, and no instance follows the last name
abbrev pub IsWalk : List ℕ → List (List ℕ) → Type 0
IsWalk name [] = next_of name ≡ None
IsWalk name (next ∷ names) = (next_of name ≡ Some next) × IsWalk next names

-- The rules for an overlap at a cabinet of a trace, by the tables that were in force there: those of the start, and
-- those of each accepted download. A rule names the row in which it is broken.
use Rattle.std.specs.Prelude.{ℕ, ◌+◌, min, not, nat_lt, ◌||◌, Bool, if◌then◌else◌, List, [], ◌∷◌, Option, Some, None, Result, Ok, Err}
use Rattle.sig_types.specs.Phases.{is_in}
use Rattle.sig_tables.specs.declared.tables.Tables.{Tables}
use Rattle.sig_tables.specs.Tables.{is_enabled, yellow_time, red_clear_time}
use Rattle.overlap_run.specs.declared.faults.OverlapFault.{OverlapFault}

-- the minimum of a number and of a time over these tables
abbrev pub least_from : (Tables → ℕ) → ℕ → List Tables → ℕ
least_from time n [] = n
least_from time n (t ∷ later) = least_from time (min n (time t)) later

-- the minimum of a time over these tables; 0 if there are none
abbrev pub least : (Tables → ℕ) → List Tables → ℕ
least time [] = 0
least time (t ∷ later) = least_from time (time t) later

-- the minimum yellow change of a parent plus its minimum red clearance, in ticks. Each minimum is over all tables
-- that were in force
abbrev pub least_clearance : List Tables → ℕ → ℕ
least_clearance tables p = least (λ t. yellow_time t p) tables + least (λ t. red_clear_time t p) tables

-- the octet isn't an enabled phase of the tables at the start, or it repeats an earlier octet
abbrev pub is_faulty : Tables → List ℕ → ℕ → Bool
is_faulty opening earlier p = not (is_enabled opening p) || is_in earlier p

-- the first octet that isn't an enabled phase or that repeats an earlier octet
abbrev pub first_faulty : Tables → List ℕ → List ℕ → Option ℕ
first_faulty opening earlier [] = None
first_faulty opening earlier (p ∷ parents) = if is_faulty opening earlier p then Some p else first_faulty opening (p ∷ earlier) parents

-- the first parent whose minimum clearance is shorter than this time
abbrev pub first_short : List Tables → ℕ → List ℕ → Option ℕ
first_short tables time [] = None
first_short tables time (p ∷ parents) = if nat_lt (least_clearance tables p) time then Some p else first_short tables time parents

-- the rule is broken in this row
abbrev pub broken : ℕ → ℕ → Result (Unit {0}) OverlapFault
broken rule row = Err (record { rule = rule; row = row })

-- rule 4: the overlap doesn't take longer to clear than any of its parents
abbrev pub fourth : Option ℕ → Result (Unit {0}) OverlapFault
fourth None = Ok tt
fourth (Some p) = broken 4 p

-- rule 3: the yellow change lasts at least 3 seconds (30 ticks)
abbrev pub third : ℕ → Option ℕ → Result (Unit {0}) OverlapFault
third yellow short = if nat_lt yellow 30 then broken 3 0 else fourth short

-- rule 2: each parent is an enabled phase, and no parent is repeated
abbrev pub second : Option ℕ → ℕ → Option ℕ → Result (Unit {0}) OverlapFault
second None yellow short = third yellow short
second (Some p) yellow short = broken 2 p

-- the first rule that is broken. Rule 1: the cabinet exists, and so it has tables at the start
abbrev pub verdict : List Tables → List ℕ → ℕ → ℕ → ℕ → Result (Unit {0}) OverlapFault
verdict [] parents trail yellow red = broken 1 0
verdict (opening ∷ later) parents trail yellow red =
    second (first_faulty opening [] parents) yellow (first_short (opening ∷ later) (trail + yellow + red) parents)

-- All faults of a scenario, in the order of the checks: first names and values, then the total number of ticks, then
-- the tables.
use Rattle.std.specs.Prelude.{ℕ, ◌+◌, ◌*◌, nat_le, false, if◌then◌else◌, List, [], ◌∷◌, ◌++◌, codes, Option, Some, None}
use Rattle.serde_json.specs.Data.{Data}
use Rattle.sig_types.specs.declared.notes.Broken.{Broken}
use Rattle.rule_book.specs.Rules.{broken}
use Rattle.scenario_data.specs.Causes.{Cause, Limit, Broken as BrokenCause}
use Rattle.scenario_data.specs.Content.{CabinetContent}
use Rattle.scenario_data.specs.Opening.{opening_tables}
use Rattle.scenario_read.specs.Fields.{object_of}
use Rattle.scenario_read.specs.Table.{scenario_shape}
use Rattle.scenario_read.specs.Content.{version_number, round_count, tick_count, cabinet_count, cabinets_of}

-- the rules that a cabinet breaks, as faults
abbrev pub broken_causes : ℕ → List Broken → List Cause
broken_causes cabinet [] = []
broken_causes cabinet (b ∷ more) = BrokenCause cabinet b.rule b.row ∷ broken_causes cabinet more

-- the rules that the tables of a cabinet break at the start
unfoldable pub table_faults : ℕ → CabinetContent → List Cause
table_faults cabinet c = broken_causes cabinet (broken (opening_tables c) (opening_tables c) false)

-- the rules that the tables of the cabinets break at the start, cabinet by cabinet; the first cabinet has this number
abbrev pub all_table_faults : ℕ → List CabinetContent → List Cause
all_table_faults cabinet [] = []
all_table_faults cabinet (c ∷ more) = table_faults cabinet c ++ all_table_faults (cabinet + 1) more

-- the limit of a run: cabinets times rounds times ticks is at most 55,296,000
abbrev pub product_faults : ℕ → List Cause
product_faults ticks = if nat_le ticks 55296000 then [] else Limit (codes "rounds") ∷ []

-- the faults of names and values
abbrev pub named_faults : Data → List Cause
named_faults d = object_of (scenario_shape (version_number d) (round_count d) (cabinet_count d)) [] d

-- all faults, in the order of the checks
abbrev pub faults : Data → List Cause
faults d =
    named_faults d
    ++ (product_faults (cabinet_count d * round_count d * tick_count d) ++ all_table_faults 1 (cabinets_of d))

-- the first fault of a list, if there is one
abbrev pub first_cause : List Cause → Option Cause
first_cause [] = None
first_cause (cause ∷ more) = Some cause

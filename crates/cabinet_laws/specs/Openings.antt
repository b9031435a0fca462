-- The history of a cabinet at the start: its tables, its commanded pattern and its clock, which may drift.
use Rattle.std.specs.Prelude.{ℕ, ◌≡◌, ◌⊎◌}
use Rattle.sig_tables.specs.declared.tables.Tables.{Tables}
use Rattle.sig_tables.specs.Past.{History}
use Rattle.sig_tables.specs.Decide.{opening, opening_drifting}
use Rattle.plan_facts.specs.Disturbances.{Drift, no_drift}

-- nothing has happened in this history; it has these tables, and its clock drifts like this
abbrev pub IsOpening : Tables → Drift → History → Type 0
IsOpening t d h =
    (command : ℕ) × (clock : ℕ)
    × (((h ≡ opening t command clock) × (d ≡ no_drift)) ⊎ (h ≡ opening_drifting t command clock d.gain d.lose))

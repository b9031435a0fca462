-- The correction that follows from a plan and the limits of one cycle.
use Rattle.std.specs.Prelude.{ℕ}
use Rattle.sig_tables.specs.declared.tables.Tables.{Tables}
use Rattle.sig_tables.specs.declared.plan.Plan.{Plan}
use Rattle.sig_tables.specs.Counting.{Correction}
use Rattle.coord_count.specs.declared.limits.Limits.{Limits}

-- the limits that these tables set
abbrev pub limits_of : Tables → Limits
limits_of t = record { mode = t.unit.mode; dwell = t.unit.dwell; add = t.unit.add; subtract = t.unit.subtract }

-- the correction with this plan and these limits
abbrev pub correction_in : Plan → Limits → Correction
correction_in plan limits = record {
  cycle = plan.cycle;
  window = plan.window;
  mode = limits.mode;
  dwell = limits.dwell;
  add = limits.add;
  subtract = limits.subtract;
}

-- the correction of a cycle with this mode and these limits, regardless of their own mode
abbrev pub correction_by : ℕ → Limits → ℕ → ℕ → Correction
correction_by mode limits cycle window = record {
  cycle = cycle;
  window = window;
  mode = mode;
  dwell = limits.dwell;
  add = limits.add;
  subtract = limits.subtract;
}

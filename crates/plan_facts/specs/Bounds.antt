-- Bounds in ticks: how soon after the last disturbance a local zero occurs, and how soon the cabinet is on offset.
use Rattle.std.specs.Prelude.{ℕ, ◌+◌, ◌-◌, ◌*◌, ◌==◌, max, if◌then◌else◌, List}
use Rattle.sig_tables.specs.declared.tables.Tables.{Tables}
use Rattle.sig_tables.specs.Slots.{cycle_time}
use Rattle.sig_tables.specs.Counting.{most_a_cycle, needed}
use Rattle.sig_tables.specs.Counters.{correction_of}
use Rattle.sig_tables.specs.Past.{Moment}
use Rattle.plan_facts.specs.Disturbances.{Drift, drifts}
use Rattle.plan_facts.specs.Greatest.{pickup_bound}

-- the longest cycle of pattern n, in ticks: its cycle plus the greatest correction of one cycle
abbrev pub longest_cycle : Tables → ℕ → ℕ
longest_cycle t n = cycle_time t n + most_a_cycle (correction_of t n)

-- the length in ticks of a fully corrected cycle of pattern n: with shortway the cycle less what one cycle may
-- subtract, otherwise the longest cycle
abbrev pub shortest_cycle : Tables → ℕ → ℕ
shortest_cycle t n = if t.unit.mode == 3 then cycle_time t n - t.unit.subtract else longest_cycle t n

-- the bound in ticks for the first local zero after a disturbance: the greater of the bound for a pickup and the
-- longest cycle
abbrev pub zero_bound : List Moment → Tables → ℕ → ℕ
zero_bound past t n = max (pickup_bound past) (longest_cycle t n)

-- how many cycles the bound counts for each cycle of correction: 2 if the clock drifts, since a tick of drift may cost
-- another cycle, otherwise 1
abbrev pub cycles_for_one : Drift → ℕ
cycles_for_one d = if drifts d then 2 else 1

-- the bound in ticks, from a disturbance on, for being on offset; `target` is the target at the first local zero
abbrev pub offset_bound : Drift → List Moment → Tables → ℕ → ℕ → ℕ
offset_bound d past t n target = zero_bound past t n + cycles_for_one d * needed (correction_of t n) target * longest_cycle t n

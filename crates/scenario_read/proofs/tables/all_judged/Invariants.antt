use Rattle.std.proofs.Common.{◌≡◌, ◌+◌, map, drop}
use Rattle.scenario_data.specs.Content.{cabinet_content}
use Rattle.scenario_read.specs.Faults.{all_table_faults}
use Rattle.scenario_read.proofs.tables.all_judged.Given as goal

-- the cabinets so far break no rule
abbrev pub invariant-loop-place : goal.invariant-loop-place
invariant-loop-place l = all_table_faults 1 (map cabinet_content l.cabinets.items) ≡ all_table_faults (l.place + 1) (map cabinet_content (drop l.place l.cabinets.items))

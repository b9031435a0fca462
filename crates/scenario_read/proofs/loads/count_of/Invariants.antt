use Rattle.std.proofs.Common.{◌≡◌, ◌≤◌, ◌+◌, drop}
use Rattle.scenario_read.specs.Table.{count_of}
use Rattle.scenario_read.specs.Readers.{load_cabinets}
use Rattle.scenario_read.proofs.loads.count_of.Given as goal

-- what was counted so far, with what is still to come
abbrev pub invariant-loop-place : goal.invariant-loop-place
invariant-loop-place l =
    (count_of l.cabinet (load_cabinets l.found.items) ≡ l.count + count_of l.cabinet (load_cabinets (drop l.place l.found.items))) × (l.count ≤ l.place)

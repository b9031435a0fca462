use Rattle.std.proofs.Common.{◌≡◌, drop, map, string_bytes}
use Rattle.scenario_file.specs.Left.{place_from}
use Rattle.scenario_file.proofs.left.place_of.Given as goal

-- the name is none of those so far
abbrev pub invariant-loop-i : goal.invariant-loop-i
invariant-loop-i l = place_from 0 (map string_bytes l.names.items) l.name ≡ place_from l.i (map string_bytes (drop l.i l.names.items)) l.name

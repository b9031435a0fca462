use Rattle.std.proofs.Common.{◌≡◌, ◌*◌, map, length, take}
use Rattle.scenario_data.specs.Content.{scenario_content}
use Rattle.field_file.specs.Schedule.{Counted}
use Rattle.field_file.specs.Counting.{HasVolumes}
use Rattle.field_file.proofs.volumes.volumes_of.Given as goal

-- the edges so far were counted
abbrev pub invariant-loop-i : goal.invariant-loop-i
invariant-loop-i l = record {
  count : length l.table.items ≡ l.periods * 8;
  volumes : (c : Counted) → c.sections ≡ map (λ x. x.section) (scenario_content l.scenario).cabinets → c.period ≡ l.period → HasVolumes l.table.items c l.periods (take l.i l.edges.items);
}

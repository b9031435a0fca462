use Rattle.std.proofs.Common.{◌≡◌, map, drop}
use Rattle.scenario_data.specs.Content.{load_content}
use Rattle.master_load.specs.Downloads.{loads_of}
use Rattle.master_load.proofs.loader.next_place.Given as goal

abbrev pub invariant-loop-place : goal.invariant-loop-place
invariant-loop-place l = loads_of l.cab (map load_content (drop l.place l.loads)) ≡ loads_of l.cab (map load_content (drop l.from l.loads))

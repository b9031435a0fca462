use Rattle.std.proofs.Common.{◌≡◌, ◌-◌, map, drop, slice_get}
use Rattle.scenario_data.specs.Content.{load_content}
use Rattle.master_load.specs.Downloads.{loads_of}
use Rattle.judge_session.proofs.loads.load_of.Given as goal

-- what is looked for among all loads of the cabinet is the one at this place among those that are left
abbrev pub invariant-loop-load : goal.invariant-loop-load
invariant-loop-load l =
    slice_get (loads_of l.cab (map load_content l.loads)) (l.id - 1)
    ≡ slice_get (loads_of l.cab (map load_content (drop l.load-index l.loads))) l.left

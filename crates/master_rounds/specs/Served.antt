-- What the master and the link require of a scenario. Each scenario that was read without a fault meets these
-- conditions.
use Rattle.std.specs.Prelude.{◌≤◌, length}
use Rattle.scenario_data.specs.Content.{ScenarioContent}
use Rattle.master_poll.specs.Masters.{IsRun}

-- the scenario has at most 64 cabinets, the cells of its loads exist, and its lists and rounds are short
pub record CanBeServed (s : ScenarioContent) : Type 0 where
  pub run : IsRun s
  pub few_ticks : s.ticks ≤ 600
  pub few_inputs : length s.inputs ≤ 1000000
  pub few_requests : length s.priority ≤ 100000
  pub few_frames : length s.frames ≤ 100000
  pub few_faults : length s.faults ≤ 100000

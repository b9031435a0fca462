-- What the link represents: what was sent to the cabinets and what they replied, so far. Lists of rounds have the
-- newest first.
use Rattle.std.specs.Prelude.{ℕ, ◌+◌, List, length, get_or}
use Rattle.scenario_data.specs.declared.scenario.Direction.TheVariants.{Down, Up}
use Rattle.scenario_data.specs.Content.{ScenarioContent}
use Rattle.link_sim.specs.declared.lines.Lines.{Lines}
use Rattle.link_sim.specs.declared.link.Link.{Link}
use Rattle.link_sim.specs.Kept.{faults_in}
use Rattle.link_sim.specs.Link.{sent_past}
use Rattle.link_sim.specs.Lists.{AreOf}
use Rattle.link_sim.specs.StreamFrames.{Passed, AreLines}

-- the number of cabinets
abbrev pub cabinet_count : Link → ℕ
cabinet_count link = length link.down.items

-- at the cabinet at this place, counted from 0, the link represents these rounds: what the master sent on its two
-- streams, and what the cabinet replied
pub record LinkStands (link : Link) (s : ScenarioContent) (place : ℕ) (polls loads : List (List (List ℕ))) (replied : Passed) : Type 0 where
  pub lists : AreOf link.lists s
  pub down : (d : Lines) → AreLines (get_or link.down.items place d) (faults_in link.lists.faults) (place + 1) Down (sent_past s (place + 1) polls loads)
  pub up : (d : Lines) → AreLines (get_or link.up.items place d) (faults_in link.lists.faults) (place + 1) Up replied

-- The content of a scenario: its numbers and lists, as plain values.
use Rattle.std.specs.Prelude.{ℕ, List, map}
use Rattle.sig_types.specs.declared.notes.Way.{Way}
use Rattle.sig_tables.specs.declared.cells.Cell.{Cell}
use Rattle.sig_tables.specs.Cells.{Content}
pub use Rattle.sig_tables.specs.Putting.{put_content}
use Rattle.scenario_data.specs.declared.scenario.Base.{Base}
use Rattle.scenario_data.specs.declared.scenario.Cabinet.{Cabinet}
use Rattle.scenario_data.specs.declared.scenario.Entry.{Entry}
use Rattle.scenario_data.specs.declared.scenario.MasterSetup.{MasterSetup}
use Rattle.scenario_data.specs.declared.scenario.Input.{Input}
use Rattle.scenario_data.specs.declared.scenario.LoadItem.{LoadItem}
use Rattle.scenario_data.specs.declared.scenario.PriorityItem.{PriorityItem}
use Rattle.scenario_data.specs.declared.scenario.FrameItem.{FrameItem}
use Rattle.scenario_data.specs.declared.scenario.Fault.{Fault}
use Rattle.scenario_data.specs.declared.scenario.Scenario.{Scenario}

-- the content of a cabinet: its base tables and the cells put into them, the pattern and the clock (a tick of the
-- day) at the start, its section, and after how many ticks its clock gains or loses one tick (0 is never)
pub record CabinetContent : Type 0 where
  pub base : Base
  pub cells : List (Cell × Content)
  pub pattern : ℕ
  pub clock : ℕ
  pub section : ℕ
  pub gain : ℕ
  pub lose : ℕ

-- the content of the master's setup: the clock at the start in ticks of the day, after how many rounds it polls, sets
-- clocks and repeats the pattern (0 is never), the number of retries, and the schedule
pub record MasterContent : Type 0 where
  pub clock : ℕ
  pub poll_every : ℕ
  pub clock_every : ℕ
  pub pattern_every : ℕ
  pub retries : ℕ
  pub schedule : List Entry

-- the content of a load: its round, its cabinet, and its cells in order
pub record LoadContent : Type 0 where
  pub round : ℕ
  pub cabinet : ℕ
  pub cells : List (Cell × Content)

-- the content of one of the scenario's own messages: its round, its cabinet, its stream, and its octets
pub record FrameContent : Type 0 where
  pub round : ℕ
  pub cabinet : ℕ
  pub stream : Way
  pub hex : List ℕ

-- the content of a scenario: its lists, the number of rounds, the ticks of a round, the community, the master, and
-- its text in compact form
pub record ScenarioContent : Type 0 where
  pub version : ℕ
  pub rounds : ℕ
  pub ticks : ℕ
  pub community : List ℕ
  pub cabinets : List CabinetContent
  pub master : MasterContent
  pub inputs : List Input
  pub loads : List LoadContent
  pub priority : List PriorityItem
  pub frames : List FrameContent
  pub faults : List Fault
  pub compact : List ℕ

-- the content of a cabinet
abbrev pub cabinet_content : Cabinet → CabinetContent
cabinet_content c = record {
  base = c.base;
  cells = map put_content c.cells.items;
  pattern = c.pattern;
  clock = c.clock;
  section = c.section;
  gain = c.gain;
  lose = c.lose;
}

-- the content of the master's setup
abbrev pub master_content : MasterSetup → MasterContent
master_content m = record {
  clock = m.clock;
  poll_every = m.poll_every;
  clock_every = m.clock_every;
  pattern_every = m.pattern_every;
  retries = m.retries;
  schedule = m.schedule.items;
}

-- the content of a load
abbrev pub load_content : LoadItem → LoadContent
load_content l = record { round = l.round; cabinet = l.cabinet; cells = map put_content l.cells.items }

-- the content of one of the scenario's own messages
abbrev pub frame_content : FrameItem → FrameContent
frame_content f = record { round = f.round; cabinet = f.cabinet; stream = f.stream; hex = f.hex }

-- the content of a scenario
abbrev pub scenario_content : Scenario → ScenarioContent
scenario_content s = record {
  version = s.version;
  rounds = s.rounds;
  ticks = s.ticks;
  community = s.community.items;
  cabinets = map cabinet_content s.cabinets.items;
  master = master_content s.master;
  inputs = s.inputs.items;
  loads = map load_content s.loads.items;
  priority = s.priority.items;
  frames = map frame_content s.frames.items;
  faults = s.faults.items;
  compact = s.compact.items;
}

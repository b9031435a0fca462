-- Everything in a scenario that goes into a message consists of octets, so that every message of its run does.
use Rattle.std.specs.Prelude.{◌≤◌, ◌<◌, List, length}
use Rattle.std.specs.List.{AllByRecursion}
use Rattle.sig_tables.specs.declared.cells.Cell.{Cell}
use Rattle.sig_tables.specs.Cells.{Content, Number, Octets}
use Rattle.snmp_msg.specs.Shortest.{AreOctets}
use Rattle.sig_types.specs.declared.notes.Request.{Request}
use Rattle.scenario_data.specs.declared.scenario.PriorityAct.{PriorityAct}
use Rattle.scenario_data.specs.declared.scenario.PriorityAct.TheVariants.{Request as AskRequest, Cancel}
use Rattle.scenario_data.specs.Content.{ScenarioContent}

-- if the content of a cell is a list, it is a list of octets
abbrev pub HoldsOctets : Content → Type 0
HoldsOctets (Number n) = Unit {0}
HoldsOctets (Octets octets) = AreOctets octets

-- each of these cells has a number or a list of octets as its content
abbrev pub PutOctets : List (Cell × Content) → Type 0
PutOctets cells = AllByRecursion (λ put. HoldsOctets put.1) cells

-- the number, the class, the level and the phase of a priority request fit into one octet each, and its two times
-- into two octets each
pub record IsShortRequest (r : Request) : Type 0 where
  pub number : r.number < 256
  pub class : r.class < 256
  pub level : r.level < 256
  pub phase : r.phase < 256
  pub arrival : r.arrival < 65536
  pub departure : r.departure < 65536

-- if the act is a priority request, its fields fit into their octets
abbrev pub IsShortAct : PriorityAct → Type 0
IsShortAct (AskRequest r) = IsShortRequest r
IsShortAct (Cancel number) = Unit {0}

-- everything in the scenario that goes into messages consists of octets: its community, the contents of cells, its
-- priority requests, its own messages, and the bits that a fault inverts
pub record OnlyOctets (s : ScenarioContent) : Type 0 where
  pub community : AreOctets s.community
  pub short : length s.community ≤ 32
  pub cabinets : AllByRecursion (λ c. PutOctets c.cells) s.cabinets
  pub loads : AllByRecursion (λ l. PutOctets l.cells) s.loads
  pub priority : AllByRecursion (λ p. IsShortAct p.act) s.priority
  pub frames : AllByRecursion (λ f. AreOctets f.hex) s.frames
  pub faults : AllByRecursion (λ f. f.octet < 256) s.faults

-- What is true of each scenario that was read without a fault: its numbers are in range, its tables are consistent,
-- and the cells of its loads exist.
use Rattle.std.specs.Prelude.{ℕ, ◌*◌, ◌≤◌, ◌<◌, ◌≡◌, true, List, [], ◌∷◌, length}
use Rattle.std.specs.List.{AllByRecursion}
use Rattle.sig_types.specs.declared.frame.Field.{Field}
use Rattle.sig_types.specs.declared.frame.Field.TheVariants.{Veh, Ped as Button, Preempt as PreemptInput}
use Rattle.sig_types.specs.Phases.{is_phase}
use Rattle.plan_facts.specs.Disturbances.{IsSlow}
use Rattle.rule_book.specs.Rules.{Consistent}
use Rattle.trace_text.specs.Words.{Lacks}
use Rattle.scenario_data.specs.declared.scenario.Input.{Input}
use Rattle.scenario_data.specs.Content.{CabinetContent, ScenarioContent}
use Rattle.scenario_data.specs.Opening.{opening_tables}
use Rattle.master_load.specs.Downloads.{AreLoads}
use Rattle.runnable.specs.Octets.{OnlyOctets}

-- the cabinet can start: its tables are consistent, its clock is a tick of the day, and the clock drifts slowly or
-- not at all. Every pattern may be commanded at the start
pub record CanOpen (c : CabinetContent) : Type 0 where
  pub consistent : Consistent (opening_tables c)
  pub of_day : c.clock < 864000
  pub slow : IsSlow (record { gain = c.gain; lose = c.lose })

-- each of these cabinets can start
abbrev pub AllOpen : List CabinetContent → Type 0
AllOpen [] = Unit {0}
AllOpen (c ∷ cabinets) = CanOpen c × AllOpen cabinets

-- the round and the cabinet of the input exist
pub record InReach (rounds cabinets : ℕ) (i : Input) : Type 0 where
  pub some_round : 1 ≤ i.round
  pub in_rounds : i.round ≤ rounds
  pub some_cabinet : 1 ≤ i.cabinet
  pub in_cabinets : i.cabinet ≤ cabinets

-- the input exists: a detector or a push button has a phase from 1 to 16, and a preempt is from 1 to 8
abbrev pub HasPlace : Field → Type 0
HasPlace (Veh p on) = is_phase p ≡ true
HasPlace (Button p) = is_phase p ≡ true
HasPlace (PreemptInput i on) = (1 ≤ i) × (i ≤ 8)

-- each of these inputs exists
abbrev pub AllHeard : List Input → Type 0
AllHeard [] = Unit {0}
AllHeard (i ∷ inputs) = HasPlace i.field × AllHeard inputs

-- the round and the cabinet of each input exist
abbrev pub AllInReach : ℕ → ℕ → List Input → Type 0
AllInReach rounds cabinets [] = Unit {0}
AllInReach rounds cabinets (i ∷ inputs) = InReach rounds cabinets i × AllInReach rounds cabinets inputs

-- the scenario can be run
pub record Runnable (s : ScenarioContent) : Type 0 where
  pub some_rounds : 1 ≤ s.rounds
  pub few_rounds : s.rounds ≤ 86400
  pub some_ticks : 1 ≤ s.ticks
  pub few_ticks : s.ticks ≤ 600
  pub some_cabinets : 1 ≤ length s.cabinets
  pub few_cabinets : length s.cabinets ≤ 64
  pub few_inputs : length s.inputs ≤ 1000000
  pub short : length s.cabinets * s.rounds * s.ticks ≤ 55296000
  pub can_open : AllOpen s.cabinets
  pub heard : AllHeard s.inputs
  pub in_reach : AllInReach s.rounds (length s.cabinets) s.inputs
  pub few_loads : length s.loads ≤ 6400
  pub loads : AreLoads s.loads
  pub few_priority : length s.priority ≤ 100000
  pub few_frames : length s.frames ≤ 100000
  pub few_faults : length s.faults ≤ 100000
  pub patterns : AllByRecursion (λ e. e.pattern < 256) s.master.schedule
  pub octets : OnlyOctets s
  pub one_line : Lacks 10 s.compact

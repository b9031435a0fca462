-- Serial journals are journals, and continue any that begin a run.
use Rattle.std.proofs.Common.{◌≡◌, ◌+◌, ℕ, zero, suc, List, [], ◌∷◌, length, refl, ap}
use Rattle.scenario_data.specs.Content.{ScenarioContent}
use Rattle.run_definition.specs.CabinetState.{CabinetState, opened_cabinet_states, coming_streams, each_cabinet_state}
use Rattle.run_definition.specs.Orders.{EachMerges, AreMerges, AreJournals, serial_round, serial_rounds, serial_journals}
use Rattle.run_definition.proofs.Merges.{serial-merge}

serial-each : (s : ScenarioContent) (first : ℕ) (ts : List CabinetState) → EachMerges s first ts (serial_round s first ts)
serial-each s first [] = tt
serial-each s first (t ∷ ts) = (serial-merge (coming_streams s first t), serial-each s (first + 1) ts)

pub serial-merges : (s : ScenarioContent) (ts : List CabinetState) (n : ℕ) → AreMerges s ts (serial_rounds s ts n)
serial-merges s ts zero = tt
serial-merges s ts (suc n) = (serial-each s 1 ts, serial-merges s (each_cabinet_state s 1 ts (serial_round s 1 ts)) n)

pub serial-all : (s : ScenarioContent) (ts : List CabinetState) (n : ℕ) → length (serial_rounds s ts n) ≡ n
serial-all s ts zero = refl
serial-all s ts (suc n) = ap suc (serial-all s (each_cabinet_state s 1 ts (serial_round s 1 ts)) n)

pub serial-journals : (s : ScenarioContent) → AreJournals s (serial_journals s)
serial-journals s = record {
  all = serial-all s (opened_cabinet_states s s.cabinets) s.rounds;
  merges = serial-merges s (opened_cabinet_states s s.cabinets) s.rounds;
}

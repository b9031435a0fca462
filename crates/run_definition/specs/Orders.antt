-- Which journals a run may have. The journal of a cabinet in a round takes the items of the cabinet's streams in any
-- order, but keeps the order within each stream. The serial journals take one stream after the other.
use Rattle.std.specs.Prelude.{ℕ, zero, suc, ◌+◌, ◌≡◌, ◌≤◌, List, [], ◌∷◌, ◌++◌, length}
use Rattle.scenario_data.specs.Content.{ScenarioContent}
use Rattle.cabinet_history.specs.Journals.{IsMerge, serial}
use Rattle.run_definition.specs.CabinetState.{CabinetState, opened_cabinet_states, coming_streams, each_cabinet_state}

-- each cabinet has one journal of the next round, and this journal takes the items of the cabinet's streams
abbrev pub EachMerges : ScenarioContent → ℕ → List CabinetState → List (List ℕ) → Type 0
EachMerges s first [] [] = Unit {0}
EachMerges s first (t ∷ ts) (journal ∷ journals) = IsMerge (coming_streams s first t) journal × EachMerges s (first + 1) ts journals
EachMerges s first _ _ = ⊥

-- in each of these rounds, the oldest first, each cabinet has one journal, which takes the items of the cabinet's
-- streams
abbrev pub AreMerges : ScenarioContent → List CabinetState → List (List (List ℕ)) → Type 0
AreMerges s ts [] = Unit {0}
AreMerges s ts (journals ∷ later) = EachMerges s 1 ts journals × AreMerges s (each_cabinet_state s 1 ts journals) later

-- these are journals of the first rounds of a run
pub record BeginJournals (s : ScenarioContent) (journals : List (List (List ℕ))) : Type 0 where
  pub few : length journals ≤ s.rounds
  pub merges : AreMerges s (opened_cabinet_states s s.cabinets) journals

-- these are journals of a run: one for each of its rounds and cabinets
pub record AreJournals (s : ScenarioContent) (journals : List (List (List ℕ))) : Type 0 where
  pub all : length journals ≡ s.rounds
  pub merges : AreMerges s (opened_cabinet_states s s.cabinets) journals

-- the serial journals of a round
abbrev pub serial_round : ScenarioContent → ℕ → List CabinetState → List (List ℕ)
serial_round s first [] = []
serial_round s first (t ∷ ts) = serial (coming_streams s first t) ∷ serial_round s (first + 1) ts

-- the serial journals of `n` rounds
abbrev pub serial_rounds : ScenarioContent → List CabinetState → ℕ → List (List (List ℕ))
serial_rounds s ts zero = []
serial_rounds s ts (suc n) = serial_round s 1 ts ∷ serial_rounds s (each_cabinet_state s 1 ts (serial_round s 1 ts)) n

-- the serial journals of a run
abbrev pub serial_journals : ScenarioContent → List (List (List ℕ))
serial_journals s = serial_rounds s (opened_cabinet_states s s.cabinets) s.rounds

-- these journals of the first rounds can be continued to the journals of a whole run
abbrev pub Continues : ScenarioContent → List (List (List ℕ)) → Type 0
Continues s journals = (later : List (List (List ℕ))) × AreJournals s (journals ++ later)

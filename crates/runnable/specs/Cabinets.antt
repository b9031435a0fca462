-- The cabinets of a scenario by their numbers, and the history with which each of them starts.
use Rattle.std.specs.Prelude.{ℕ, ◌+◌, ◌≡◌, ◌⊎◌, List, [], ◌∷◌}
use Rattle.sig_tables.specs.Past.{History}
use Rattle.sig_tables.specs.Decide.{opening_drifting}
use Rattle.scenario_data.specs.Content.{CabinetContent, ScenarioContent}
use Rattle.scenario_data.specs.Opening.{opening_tables}

-- the cabinet has this number; the first of these cabinets has the number `first`
abbrev pub IsNumbered : ℕ → CabinetContent → ℕ → List CabinetContent → Type 0
IsNumbered cab c first [] = ⊥
IsNumbered cab c first (d ∷ cabinets) = ((cab ≡ first) × (c ≡ d)) ⊎ IsNumbered cab c (first + 1) cabinets

-- the cabinet has this number in the scenario; the first cabinet has number 1
abbrev pub IsCabinet : ScenarioContent → ℕ → CabinetContent → Type 0
IsCabinet s cab c = IsNumbered cab c 1 s.cabinets

-- the history of a cabinet at the start; its clock may drift
abbrev pub opening_history : CabinetContent → History
opening_history c = opening_drifting (opening_tables c) c.pattern c.clock c.gain c.lose

-- How many items reach a cabinet in a round. Lists of rounds have the newest first.
use Rattle.std.specs.Prelude.{ℕ, ◌+◌, ◌*◌, ◌≡◌, ◌≤◌, ◌<◌, ◌⊎◌, List, [], ◌∷◌, length, get_or}
use Rattle.sig_types.specs.declared.frame.Field.{Field}
use Rattle.scenario_data.specs.declared.scenario.Fault.{Fault}
use Rattle.scenario_data.specs.declared.scenario.Input.{Input}
use Rattle.scenario_data.specs.Content.{CabinetContent, ScenarioContent}
use Rattle.sig_types.specs.declared.streams.Streams.{Streams}
use Rattle.sig_types.specs.Items.{Item}
use Rattle.sig_types.specs.Replies.{Reply}
use Rattle.link_sim.specs.declared.Line.{Line}
use Rattle.link_sim.specs.Carried.{carried}
use Rattle.master_rounds.specs.Rounds.{streams_of}
use Rattle.master_rounds.specs.Served.{CanBeServed}

-- in a round a line carries at most two copies of each message sent in it, and one late copy for each fault, since a
-- fault is for one message
abbrev pub CarriesFew : List Fault → Line → List (List ℕ) → List (List (List ℕ)) → Type 0
CarriesFew faults line texts before = length (carried faults line (texts ∷ before)) ≤ 2 * length texts + length faults

-- each stream of a round has at most a million inputs or messages, and there are at most 600 ticks
pub record AreShort (streams : List (List Item)) : Type 0 where
  pub few : (pass : ℕ) → pass < 4 → length (get_or streams pass []) ≤ 1000000
  pub few_ticks : length (get_or streams 4 []) ≤ 600

-- the streams of the next round are short, for all answers of the cabinet
abbrev pub RoundIsShort : ScenarioContent → ℕ → CabinetContent → List (List Reply) → Type 0
RoundIsShort s cab c answered = CanBeServed s → AreShort (streams_of s cab c answered)

-- the same for streams as the code stores them
pub record IsShort (streams : Streams) : Type 0 where
  pub few_fields : length streams.fields.items ≤ 1000000
  pub few_polls : length streams.polls.items ≤ 1000000
  pub few_loads : length streams.loads.items ≤ 1000000
  pub few_prios : length streams.prios.items ≤ 1000000
  pub few_ticks : streams.ticks ≤ 600

-- this is one of these inputs
abbrev pub IsInput : Field → List Input → Type 0
IsInput field [] = ⊥
IsInput field (i ∷ inputs) = (field ≡ i.field) ⊎ IsInput field inputs

-- each of these changes at the street is one of these inputs
abbrev pub AreInputs : List Field → List Input → Type 0
AreInputs fields inputs = (k : ℕ) (field : Field) → k < length fields → IsInput (get_or fields k field) inputs

-- How a round begins, by what the cabinets have answered so far: the master's notes, and the streams of each cabinet.
use Rattle.std.specs.Prelude.{ℕ, ◌+◌, ◌≡◌, ◌<◌, List, [], ◌∷◌, ◌++◌, length, get_or, Some}
use Rattle.std.specs.List.{slice_get}
use Rattle.sig_types.specs.declared.notes.MasterNote.{MasterNote}
use Rattle.sig_types.specs.declared.streams.Streams.{Streams}
use Rattle.sig_types.specs.Items.{items_of}
use Rattle.sig_types.specs.Replies.{Reply}
use Rattle.scenario_data.specs.Content.{CabinetContent, ScenarioContent}
use Rattle.master_rounds.specs.Rounds.{noted, streams_of}
use Rattle.master_rounds.specs.declared.master_rounds.Begun.{Begun}
use Rattle.master_rounds.specs.Bounds.{AreInputs, IsShort}

-- what is noted about these cabinets in order; the first has this number
abbrev pub noted_from : ScenarioContent → (ℕ → List (List Reply)) → ℕ → List CabinetContent → List MasterNote
noted_from s answered first [] = []
noted_from s answered first (c ∷ cabinets) = noted s first c (answered first) ++ noted_from s answered (first + 1) cabinets

-- these are the notes about all cabinets and the streams of the next round. The streams are short, and their inputs
-- are those of the scenario
pub record IsBegun (b : Begun) (s : ScenarioContent) (answered : ℕ → List (List Reply)) : Type 0 where
  pub notes : b.notes.items ≡ noted_from s answered 1 s.cabinets
  pub count : length b.streams.items ≡ length s.cabinets
  pub streams : (place : ℕ) (c : CabinetContent) (e : Streams) → slice_get s.cabinets place ≡ Some c
      → items_of (get_or b.streams.items place e) ≡ streams_of s (place + 1) c (answered (place + 1))
  pub short : (place : ℕ) (e : Streams) → place < length s.cabinets → IsShort (get_or b.streams.items place e)
  pub heard : (place : ℕ) (e : Streams) → place < length s.cabinets → AreInputs (get_or b.streams.items place e).fields.items s.inputs

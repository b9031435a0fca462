-- The closed loop of a run: between two rounds, and in a round.
use Rattle.std.specs.Prelude.{ℕ, ◌+◌, ◌*◌, ◌≡◌, ◌<◌, List, length, map, get_or}
use Rattle.scenario_data.specs.Content.{CabinetContent, ScenarioContent}
use Rattle.sig_types.specs.Replies.{Reply}
use Rattle.run_definition.specs.CabinetState.{CabinetState}
use Rattle.master_rounds.specs.declared.master_rounds.MasterRounds.{MasterRounds}
use Rattle.master_rounds.specs.RoundsStand.{MasterRoundsStands, HasBegun}
use Rattle.round_run.specs.CabinetStates.{AreAt, TicksWithin}
use Rattle.round_run.specs.declared.rounds.ClosedLoop.{ClosedLoop}

-- the contents of the cabinets with these states
abbrev pub cabinets_of : List CabinetState → List CabinetContent
cabinets_of ts = map (λ (t : CabinetState). t.cabinet) ts

-- this is what the cabinets have answered; they are numbered from 1
abbrev pub AreAnswered : (ℕ → List (List Reply)) → List CabinetState → Type 0
AreAnswered answered ts = (k : ℕ) (t : CabinetState) → k < length ts → answered (k + 1) ≡ (get_or ts k t).answered

-- this many rounds were run, and the cabinets have these states. Their books are at these states, and the master and
-- the link represent what the cabinets have answered
pub record Between (s : ScenarioContent) (done : ℕ) (ts : List CabinetState) (c : ClosedLoop) : Type 0 where
  pub cabinets : cabinets_of ts ≡ s.cabinets
  pub books : AreAt c.books.items ts
  pub ticks : TicksWithin (done * 600) c.books.items
  pub answered : ℕ → List (List Reply)
  pub told : AreAnswered answered ts
  pub master_rounds : MasterRoundsStands c.master_rounds s done answered

-- the master and the link have begun the next round
pub record MasterRoundsHasBegun (s : ScenarioContent) (done : ℕ) (ts : List CabinetState) (d : MasterRounds) : Type 0 where
  pub cabinets : cabinets_of ts ≡ s.cabinets
  pub answered : ℕ → List (List Reply)
  pub told : AreAnswered answered ts
  pub master_rounds : HasBegun d s (done + 1) answered

-- this many rounds were run, the cabinets have these states, and the next round has begun; what its books have run
-- isn't part of this
abbrev pub InRound : ScenarioContent → ℕ → List CabinetState → ClosedLoop → Type 0
InRound s done ts c = MasterRoundsHasBegun s done ts c.master_rounds

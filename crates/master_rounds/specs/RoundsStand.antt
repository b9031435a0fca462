-- What the master and the link represent: what the cabinets have answered so far. Cabinets are numbered from 1. Lists
-- of rounds have the newest first.
use Rattle.std.specs.Prelude.{ℕ, ◌+◌, ◌≡◌, ◌<◌, List, length, Some}
use Rattle.std.specs.List.{slice_get}
use Rattle.sig_types.specs.Replies.{Reply}
use Rattle.scenario_data.specs.Content.{CabinetContent, ScenarioContent}
use Rattle.link_sim.specs.LinkStands.{LinkStands}
use Rattle.master_poll.specs.Masters.{MasterStands, arrived_in, round_count}
use Rattle.master_rounds.specs.Rounds.{arrivals, polls_sent, loads_sent}
use Rattle.master_rounds.specs.declared.master_rounds.MasterRounds.{MasterRounds}
use Rattle.master_rounds.specs.Answered.{arrivals_before, arrived_since, polls_before, loads_before, replied_before}

-- the number of cabinets
abbrev pub cabinet_count : MasterRounds → ℕ
cabinet_count d = length d.arrived.items

-- the number of rounds that have begun
abbrev pub rounds_begun : MasterRounds → ℕ
rounds_begun d = round_count d.master

-- between two rounds, after this many: the master represents what had arrived at its turns, the link represents what
-- was sent and replied, and what has arrived since is stored
pub record MasterRoundsStands (d : MasterRounds) (s : ScenarioContent) (done : ℕ) (answered : ℕ → List (List Reply)) : Type 0 where
  pub cabinets : cabinet_count d ≡ length s.cabinets
  pub rounds : rounds_begun d ≡ done
  pub counted : (place : ℕ) → place < length s.cabinets → length (answered (place + 1)) ≡ done
  pub master : MasterStands d.master s (λ cab. arrivals_before s cab (answered cab))
  pub link : (place : ℕ) (c : CabinetContent) → slice_get s.cabinets place ≡ Some c
      → LinkStands d.link s place (polls_before s (place + 1) c (answered (place + 1))) (loads_before s (place + 1) c (answered (place + 1))) (replied_before (answered (place + 1)))
  pub arrived : (place : ℕ) → place < length s.cabinets → arrived_in (slice_get d.arrived.items place) ≡ arrived_since s (place + 1) (answered (place + 1))

-- in a round: the master has sent its messages, and the cabinets haven't answered yet
pub record HasBegun (d : MasterRounds) (s : ScenarioContent) (round : ℕ) (answered : ℕ → List (List Reply)) : Type 0 where
  pub cabinets : cabinet_count d ≡ length s.cabinets
  pub rounds : rounds_begun d ≡ round
  pub counted : (place : ℕ) → place < length s.cabinets → length (answered (place + 1)) + 1 ≡ round
  pub master : MasterStands d.master s (λ cab. arrivals s cab (answered cab))
  pub link : (place : ℕ) (c : CabinetContent) → slice_get s.cabinets place ≡ Some c
      → LinkStands d.link s place (polls_sent s (place + 1) c (answered (place + 1))) (loads_sent s (place + 1) c (answered (place + 1))) (replied_before (answered (place + 1)))

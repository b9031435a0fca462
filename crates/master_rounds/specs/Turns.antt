-- How a round of the master and the link begins, and what they represent after its beginning and after its end, for
-- all answers of the cabinets so far. Lists of rounds have the newest first.
use Rattle.std.specs.Prelude.{ℕ, List}
use Rattle.sig_types.specs.declared.streams.Answers.{Answers}
use Rattle.sig_types.specs.Replies.{Reply}
use Rattle.scenario_data.specs.Content.{ScenarioContent}
use Rattle.master_rounds.specs.declared.master_rounds.Begun.{Begun}
use Rattle.master_rounds.specs.declared.master_rounds.MasterRounds.{MasterRounds}
use Rattle.master_rounds.specs.Answered.{AreAllReplies, with_replies}
use Rattle.master_rounds.specs.Begun.{IsBegun}
use Rattle.master_rounds.specs.RoundsStand.{HasBegun, MasterRoundsStands}

-- the round begins with the expected notes and streams, by what the cabinets have answered
abbrev pub BeginsAsDue : MasterRounds → ScenarioContent → Begun → Type 0
BeginsAsDue old s b = (done : ℕ) (answered : ℕ → List (List Reply)) → MasterRoundsStands old s done answered → IsBegun b s answered

-- the round has begun, and the cabinets' answers are unchanged
abbrev pub StandsBegun : MasterRounds → MasterRounds → ScenarioContent → ℕ → Type 0
StandsBegun old new s round =
    (done : ℕ) (answered : ℕ → List (List Reply)) → MasterRoundsStands old s done answered → HasBegun new s round answered

-- no round has begun: the master and the link are between the same two rounds as before
abbrev pub StandsBetween : MasterRounds → MasterRounds → ScenarioContent → Type 0
StandsBetween old new s =
    (done : ℕ) (answered : ℕ → List (List Reply)) → MasterRoundsStands old s done answered → MasterRoundsStands new s done answered

-- the round that had begun has ended, with these answers of the cabinets
abbrev pub StandsEnded : MasterRounds → MasterRounds → ScenarioContent → ℕ → List Answers → Type 0
StandsEnded old new s round answers =
    (answered : ℕ → List (List Reply)) (replies : ℕ → List Reply) → HasBegun old s round answered → AreAllReplies answers replies
    → MasterRoundsStands new s round (with_replies replies answered)

-- the round that had begun hasn't ended, and the cabinets' answers are unchanged
abbrev pub StillBegun : MasterRounds → MasterRounds → ScenarioContent → ℕ → Type 0
StillBegun old new s round = (answered : ℕ → List (List Reply)) → HasBegun old s round answered → HasBegun new s round answered

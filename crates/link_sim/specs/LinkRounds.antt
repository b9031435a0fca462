-- A round over the link: what reaches the cabinets, what arrives at the master, and what the link represents after
-- it. Each statement is about the cabinet at a place, counted from 0, by what was sent to it and what it replied so
-- far. Lists of rounds have the newest first.
use Rattle.std.specs.Prelude.{ℕ, ◌≡◌, ◌+◌, ◌<◌, List, ◌∷◌, length, get_or}
use Rattle.sig_types.specs.declared.streams.Answers.{Answers}
use Rattle.sig_types.specs.declared.streams.Sending.{Sending}
use Rattle.sig_types.specs.declared.streams.Streams.{Streams}
use Rattle.sig_types.specs.Items.{items_of}
use Rattle.scenario_data.specs.Content.{ScenarioContent}
use Rattle.link_sim.specs.declared.link.Link.{Link}
use Rattle.link_sim.specs.Link.{ArriveFrom, answered, sent_text}
use Rattle.link_sim.specs.Reaching.{deliveries}
use Rattle.link_sim.specs.LinkStands.{LinkStands, cabinet_count}
use Rattle.link_sim.specs.StreamFrames.{Passed}

-- for each cabinet, if the link represents some rounds there and this round follows those that were sent, the
-- statement holds
abbrev pub EachSentTo : Link → ScenarioContent → ℕ → (ℕ → List (List (List ℕ)) → List (List (List ℕ)) → Passed → Type 0) → Type 0
EachSentTo link s round Holds =
    (place : ℕ) (polls loads : List (List (List ℕ))) (replied : Passed) → place < cabinet_count link → LinkStands link s place polls loads replied
    → round ≡ length polls + 1 → Holds place polls loads replied

-- for each cabinet, if the link represents some rounds there and this round follows those that were replied, the
-- statement holds
abbrev pub EachHeardFrom : Link → ScenarioContent → ℕ → (ℕ → List (List (List ℕ)) → List (List (List ℕ)) → Passed → Type 0) → Type 0
EachHeardFrom link s round Holds =
    (place : ℕ) (polls loads : List (List (List ℕ))) (replied : Passed) → place < cabinet_count link → LinkStands link s place polls loads replied
    → round ≡ length replied.polls + 1 → Holds place polls loads replied

-- the streams that reach the cabinet are what the link and the scenario deliver of the messages sent now and before
abbrev pub ReceivesItsFrames : ScenarioContent → List Sending → List Streams → ℕ → List (List (List ℕ)) → List (List (List ℕ)) → Passed → Type 0
ReceivesItsFrames s sendings all place polls loads replied =
    (sending : Sending) (streams : Streams) → items_of (get_or all place streams)
    ≡ deliveries s (place + 1) (sent_text (get_or sendings place sending).poll ∷ polls) (sent_text (get_or sendings place sending).load ∷ loads)

-- the link represents what is sent now and was sent before
abbrev pub StandsWithSent : Link → ScenarioContent → List Sending → ℕ → List (List (List ℕ)) → List (List (List ℕ)) → Passed → Type 0
StandsWithSent link s sendings place polls loads replied =
    (sending : Sending)
    → LinkStands link s place (sent_text (get_or sendings place sending).poll ∷ polls) (sent_text (get_or sendings place sending).load ∷ loads) replied

-- what arrives on each stream is what the link carries of the replies of this round and of all rounds before
abbrev pub RepliesArrive : ScenarioContent → List Answers → List Answers → ℕ → List (List (List ℕ)) → List (List (List ℕ)) → Passed → Type 0
RepliesArrive s answers all place polls loads replied =
    (replies arrived : Answers) → ArriveFrom s (place + 1) replied (get_or answers place replies) (get_or all place arrived)

-- the link represents what was replied now and before
abbrev pub StandsWithReplied : Link → ScenarioContent → List Answers → ℕ → List (List (List ℕ)) → List (List (List ℕ)) → Passed → Type 0
StandsWithReplied link s answers place polls loads replied =
    (replies : Answers) → LinkStands link s place polls loads (answered (get_or answers place replies) replied)

-- A turn of the master at each cabinet, and what it brings to the link.
use Rattle.std.proofs.Common.{◌≡◌, ℕ, ◌+◌, ◌-◌, ◌<◌, List, [], ◌∷◌, ◌++◌, length, Option, Some, None, refl, subst, ap, ◌∙◌, arith}
use Rattle.std.specs.List.{slice_get}
use Rattle.std.specs.Option.{option_to_list}
use Rattle.arrayvec.specs.ArrayVec.{ArrayVec}
use Rattle.std.proofs.lemmas.Option.{slice_get_within}
use Rattle.sig_types.specs.declared.streams.Answers.{Answers}
use Rattle.sig_types.specs.declared.streams.Sending.{Sending}
use Rattle.sig_types.specs.Replies.{Reply}
use Rattle.scenario_data.specs.Content.{ScenarioContent, CabinetContent}
use Rattle.requests.specs.Requests.{octets_in}
use Rattle.link_sim.specs.declared.link.Link.{Link}
use Rattle.link_sim.specs.Link.{sent_text}
use Rattle.link_sim.specs.Reaching.{deliveries}
use Rattle.link_sim.specs.LinkStands.{LinkStands, cabinet_count as link_count}
use Rattle.link_sim.specs.StreamFrames.{Passed}
use Rattle.master_poll.specs.declared.master.Master.{Master}
use Rattle.master_poll.specs.declared.master.Round.{Round}
use Rattle.master_poll.specs.Sends.{Arrived, Frames, sending_of}
use Rattle.master_poll.specs.Masters.{IsRound, MasterStands, arrived_in, frames_of, notes_from, with_round}
use Rattle.master_poll.proofs.Each.{SameFrom, same_round}
use Rattle.master_rounds.specs.Rounds.{arrivals, loads_sent, noted, polls_sent, streams_of}
use Rattle.master_rounds.proofs.Counts.{are_delivered, polls_counted}
use Rattle.master_rounds.specs.Answered.{arrivals_before, arrived_since, loads_before, polls_before}
use Rattle.master_rounds.specs.declared.master_rounds.MasterRounds.{MasterRounds}
use Rattle.master_rounds.specs.Begun.{noted_from}
use Rattle.master_rounds.specs.RoundsStand.{MasterRoundsStands, cabinet_count, rounds_begun}

-- what has arrived by the turn to come: what has arrived since the last one, and what had before
arrivals_are : (s : ScenarioContent) (cab : ℕ) (answered : List (List Reply)) → arrived_since s cab answered ∷ arrivals_before s cab answered ≡ arrivals s cab answered
arrivals_are s cab [] = refl
arrivals_are s cab (replies ∷ before) = refl

-- so what is kept of each cabinet makes the arrivals of its turn
arrives : (now : List Answers) (s : ScenarioContent) (answered : ℕ → List (List Reply))
    → ((place : ℕ) → place < length s.cabinets → arrived_in (slice_get now place) ≡ arrived_since s (place + 1) (answered (place + 1)))
    → SameFrom (with_round now (λ cab. arrivals_before s cab (answered cab))) (λ cab. arrivals s cab (answered cab)) 1 (length s.cabinets)
arrives now s answered kept = λ cab above below.
    let is : cab - 1 + 1 ≡ cab = omega (arith, above) in
    let since = subst (λ n. arrived_in (slice_get now (cab - 1)) ≡ arrived_since s n (answered n)) is (kept (cab - 1) (omega (arith, above, below))) in
    ap (λ (arrived : Arrived). arrived ∷ arrivals_before s cab (answered cab)) since ∙ arrivals_are s cab (answered cab)

-- the notes of the turn
pub notes_are : (s : ScenarioContent) (answered : ℕ → List (List Reply)) (first : ℕ) (cabinets : List CabinetContent)
    → notes_from s (λ cab. arrivals s cab (answered cab)) first cabinets ≡ noted_from s answered first cabinets
notes_are s answered first [] = refl
notes_are s answered first (c ∷ cabinets) = ap (λ notes. noted s first c (answered first) ++ notes) (notes_are s answered (first + 1) cabinets)

text_of : (frame : Option (ArrayVec ℕ)) → sent_text frame ≡ option_to_list (octets_in frame)
text_of None = refl
text_of (Some octets) = refl

polls_are : (s : ScenarioContent) (cab : ℕ) (c : CabinetContent) (answered : List (List Reply))
    → option_to_list (sending_of s cab c (arrivals s cab answered)).poll ∷ polls_before s cab c answered ≡ polls_sent s cab c answered
polls_are s cab c [] = refl
polls_are s cab c (replies ∷ before) = refl

loads_are : (s : ScenarioContent) (cab : ℕ) (c : CabinetContent) (answered : List (List Reply))
    → option_to_list (sending_of s cab c (arrivals s cab answered)).load ∷ loads_before s cab c answered ≡ loads_sent s cab c answered
loads_are s cab c [] = refl
loads_are s cab c (replies ∷ before) = refl

-- what is sent at the turn goes before what was sent
polls_go : (s : ScenarioContent) (cab : ℕ) (c : CabinetContent) (answered : List (List Reply)) (sending : Sending)
    → frames_of sending ≡ sending_of s cab c (arrivals s cab answered) → sent_text sending.poll ∷ polls_before s cab c answered ≡ polls_sent s cab c answered
polls_go s cab c answered sending is =
    ap (λ texts. texts ∷ polls_before s cab c answered) (text_of sending.poll ∙ ap (λ (f : Frames). option_to_list f.poll) is) ∙ polls_are s cab c answered

loads_go : (s : ScenarioContent) (cab : ℕ) (c : CabinetContent) (answered : List (List Reply)) (sending : Sending)
    → frames_of sending ≡ sending_of s cab c (arrivals s cab answered) → sent_text sending.load ∷ loads_before s cab c answered ≡ loads_sent s cab c answered
loads_go s cab c answered sending is =
    ap (λ texts. texts ∷ loads_before s cab c answered) (text_of sending.load ∙ ap (λ (f : Frames). option_to_list f.load) is) ∙ loads_are s cab c answered

-- something was sent, if only nothing, in each round
sent_rounds : (s : ScenarioContent) (cab : ℕ) (c : CabinetContent) (answered : List (List Reply)) → length (polls_before s cab c answered) ≡ length answered
sent_rounds s cab c [] = refl
sent_rounds s cab c (replies ∷ before) = omega (arith, polls_counted s cab c before)

-- so these streams reach the cabinet
pub delivers : (s : ScenarioContent) (cab : ℕ) (c : CabinetContent) (answered : List (List Reply)) (sending : Sending)
    → frames_of sending ≡ sending_of s cab c (arrivals s cab answered)
    → deliveries s cab (sent_text sending.poll ∷ polls_before s cab c answered) (sent_text sending.load ∷ loads_before s cab c answered) ≡ streams_of s cab c answered
delivers s cab c answered sending is =
    ap (λ polls. deliveries s cab polls (sent_text sending.load ∷ loads_before s cab c answered)) (polls_go s cab c answered sending is)
    ∙ (ap (λ loads. deliveries s cab (polls_sent s cab c answered) loads) (loads_go s cab c answered sending is) ∙ are_delivered s cab c answered)

-- and the link represents what was sent with this round
pub link_goes : (link : Link) (s : ScenarioContent) (place : ℕ) (c : CabinetContent) (answered : List (List Reply)) (replied : Passed) (sending : Sending)
    → frames_of sending ≡ sending_of s (place + 1) c (arrivals s (place + 1) answered)
    → LinkStands link s place (sent_text sending.poll ∷ polls_before s (place + 1) c answered) (sent_text sending.load ∷ loads_before s (place + 1) c answered) replied
    → LinkStands link s place (polls_sent s (place + 1) c answered) (loads_sent s (place + 1) c answered) replied
link_goes link s place c answered replied sending is stands =
    subst (λ loads. LinkStands link s place (polls_sent s (place + 1) c answered) loads replied) (loads_go s (place + 1) c answered sending is)
    (subst (λ polls. LinkStands link s place polls (sent_text sending.load ∷ loads_before s (place + 1) c answered) replied) (polls_go s (place + 1) c answered sending is) stands)

-- the master's round is that of what has arrived by it
pub round_is : (d : MasterRounds) (now : List Answers) (m : Master) (r : Round) (s : ScenarioContent) (done : ℕ) (answered : ℕ → List (List Reply)) → MasterRoundsStands d s done answered
    → now ≡ d.arrived.items → ((before : ℕ → List Arrived) → MasterStands d.master s before → IsRound m r s (with_round now before))
    → IsRound m r s (λ cab. arrivals s cab (answered cab))
round_is d now m r s done answered h is stepped =
    let before : ℕ → List Arrived = λ cab. arrivals_before s cab (answered cab) in
    same_round m r s (with_round now before) (λ cab. arrivals s cab (answered cab))
    (arrives now s answered (λ place low. ap (λ xs. arrived_in (slice_get xs place)) is ∙ h.arrived place low)) (stepped before h.master)

-- the link has a place for each cabinet
pub has_lines : (d : MasterRounds) (s : ScenarioContent) (place : ℕ) (c : CabinetContent) → cabinet_count d ≡ length s.cabinets → slice_get s.cabinets place ≡ Some c
    → place < link_count d.link
has_lines d s place c count there = omega (arith, d.same_link, count, slice_get_within s.cabinets place c there)

-- the round to come is the one after those so far
pub comes_next : (d : MasterRounds) (s : ScenarioContent) (done round : ℕ) (answered : ℕ → List (List Reply)) → MasterRoundsStands d s done answered → round ≡ rounds_begun d + 1
    → (place : ℕ) (c : CabinetContent) → slice_get s.cabinets place ≡ Some c
    → round ≡ length (polls_before s (place + 1) c (answered (place + 1))) + 1
comes_next d s done round answered h order place c there =
    omega (
      arith,
      order,
      h.rounds,
      h.counted place (slice_get_within s.cabinets place c there),
      sent_rounds s (place + 1) c (answered (place + 1)),
    )

-- What of a cabinet's answers in a round arrives for the master's next turn.
use Rattle.std.proofs.Common.{◌≡◌, ℕ, ◌<◌, List, [], ◌∷◌, length, map, get_or, Some, All, ap, ◌∙◌, arith}
use Rattle.std.specs.List.{slice_get}
use Rattle.std.proofs.lemmas.Option.{slice_get-get_or}
use Rattle.sig_types.specs.declared.notes.Way.TheVariants.{Poll, Load}
use Rattle.sig_types.specs.declared.streams.Answers.{Answers}
use Rattle.sig_types.specs.Items.{texts_of}
use Rattle.sig_types.specs.Replies.{Reply, replied_on}
use Rattle.scenario_data.specs.Content.{ScenarioContent}
use Rattle.link_sim.specs.Link.{answered}
use Rattle.link_sim.specs.Reaching.{returning}
use Rattle.link_sim.specs.StreamFrames.{Passed}
use Rattle.master_poll.specs.Sends.{Arrived}
use Rattle.master_poll.specs.Masters.{arrived_in}
use Rattle.master_rounds.specs.Answered.{AreReplies, IsEmpty, arrived_since, replied_before}

-- an element of a list that has one
pub some_of : {A : Type 0} (xs : List A) (k : ℕ) → k < length xs → A
some_of [] k below = absurd (omega (arith, below))
some_of (x ∷ xs) k below = x

abbrev arrives : List (List ℕ) → List (List ℕ) → Arrived
arrives polls loads = record { polls = polls; loads = loads }

-- where nothing was answered, nothing has arrived
nothing_in : (a : Answers) → IsEmpty a → arrived_in (Some a) ≡ arrives [] []
nothing_in a is = ap (λ polls. arrives (texts_of polls) (texts_of a.loads.items)) is.polls ∙ ap (λ loads. arrives [] (texts_of loads)) is.loads

pub nothing_at : (all : List Answers) (place : ℕ) → All IsEmpty all → place < length all → arrived_in (slice_get all place) ≡ arrives [] []
nothing_at all place empty low =
    let a = some_of all place low in
    ap arrived_in (slice_get-get_or all place a low) ∙ nothing_in (get_or all place a) (empty place a low)

-- what arrives is that of the replies of all rounds so far
pub arrived_is : (s : ScenarioContent) (cab : ℕ) (answers arrived : Answers) (replies : List Reply) (before : List (List Reply)) → AreReplies answers replies
    → texts_of arrived.polls.items ≡ returning s cab Poll (texts_of answers.polls.items ∷ map (replied_on 1) before)
    → texts_of arrived.loads.items ≡ returning s cab Load (texts_of answers.loads.items ∷ map (replied_on 2) before)
    → arrived_in (Some arrived) ≡ arrived_since s cab (replies ∷ before)
arrived_is s cab answers arrived replies before are polls loads =
    ap (λ texts. arrives texts (texts_of arrived.loads.items)) (polls ∙ ap (λ texts. returning s cab Poll (texts ∷ map (replied_on 1) before)) are.polls)
    ∙ ap (λ texts. arrives (arrived_since s cab (replies ∷ before)).polls texts) (loads ∙ ap (λ texts. returning s cab Load (texts ∷ map (replied_on 2) before)) are.loads)

abbrev passed : List (List (List ℕ)) → List (List (List ℕ)) → List (List (List ℕ)) → Passed
passed polls loads prios = record { polls = polls; loads = loads; prios = prios }

-- the replies go before those of the rounds so far
pub replied_is : (answers : Answers) (replies : List Reply) (before : List (List Reply)) → AreReplies answers replies
    → answered answers (replied_before before) ≡ replied_before (replies ∷ before)
replied_is answers replies before are =
    let past = replied_before before in
    ap (λ texts. passed (texts ∷ past.polls) (texts_of answers.loads.items ∷ past.loads) (texts_of answers.prios.items ∷ past.prios)) are.polls
    ∙ (ap (λ texts. passed (replied_on 1 replies ∷ past.polls) (texts ∷ past.loads) (texts_of answers.prios.items ∷ past.prios)) are.loads
    ∙ ap (λ texts. passed (replied_on 1 replies ∷ past.polls) (replied_on 2 replies ∷ past.loads) (texts ∷ past.prios)) are.prios)

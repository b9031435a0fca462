-- Each round so far and the round to come has its turn of the master.
use Rattle.std.proofs.Common.{◌≡◌, ℕ, suc, ◌+◌, List, [], ◌∷◌, length, map, replicate, refl, ap, ◌∙◌, arith}
use Rattle.std.proofs.lemmas.List.{length-map}
use Rattle.std.specs.Option.{option_to_list}
use Rattle.scenario_data.specs.Content.{ScenarioContent, CabinetContent}
use Rattle.scenario_data.specs.Inputs.{inputs_of}
use Rattle.sig_types.specs.Items.{InputTold, Came, Ticked}
use Rattle.sig_types.specs.Replies.{Reply}
use Rattle.master_poll.specs.Sends.{Arrived}
use Rattle.master_rounds.specs.Rounds.{arrivals, sendings, polls_sent, loads_sent, delivered, AreDelivered}

pub turns_counted : (s : ScenarioContent) (cab : ℕ) (answered : List (List Reply)) → length (arrivals s cab answered) ≡ length answered + 1
turns_counted s cab [] = refl
turns_counted s cab (replies ∷ before) = ap suc (turns_counted s cab before) ∙ omega arith

sendings_counted : (s : ScenarioContent) (cab : ℕ) (c : CabinetContent) (arrived : List Arrived) → length (sendings s cab c arrived) ≡ length arrived
sendings_counted s cab c [] = refl
sendings_counted s cab c (a ∷ arrived) = ap suc (sendings_counted s cab c arrived)

pub polls_counted : (s : ScenarioContent) (cab : ℕ) (c : CabinetContent) (answered : List (List Reply)) → length (polls_sent s cab c answered) ≡ length answered + 1
polls_counted s cab c answered =
    length-map (sendings s cab c (arrivals s cab answered)) (λ f. option_to_list f.poll)
    ∙ sendings_counted s cab c (arrivals s cab answered) ∙ turns_counted s cab answered

pub loads_counted : (s : ScenarioContent) (cab : ℕ) (c : CabinetContent) (answered : List (List Reply)) → length (loads_sent s cab c answered) ≡ length answered + 1
loads_counted s cab c answered =
    length-map (sendings s cab c (arrivals s cab answered)) (λ f. option_to_list f.load)
    ∙ sendings_counted s cab c (arrivals s cab answered) ∙ turns_counted s cab answered

pub are_delivered : (s : ScenarioContent) (cab : ℕ) (c : CabinetContent) (answered : List (List Reply)) → AreDelivered s cab c answered
are_delivered s cab c answered =
    ap (λ (round : ℕ). map InputTold (inputs_of round cab s.inputs) ∷ map Came (delivered s cab c answered 1) ∷ map Came (delivered s cab c answered 2)
    ∷ map Came (delivered s cab c answered 3) ∷ replicate s.ticks Ticked ∷ []) (polls_counted s cab c answered)

-- What the master represents, sends and notes, cabinet by cabinet: it rests on what has arrived from the cabinets that
-- there are.
use Rattle.std.proofs.Common.{◌≡◌, ℕ, zero, suc, ◌+◌, ◌<◌, ◌≤◌, List, [], ◌∷◌, ◌++◌, map, length, get_or, Some, refl, sym, subst, ap, ◌∙◌, arith}
use Rattle.std.specs.List.{slice_get}
use Rattle.std.specs.Option.{option_map}
use Rattle.std.proofs.lemmas.Option.{none-some, same_Some, slice_get-map, slice_get-get_or, slice_get_within}
use Rattle.sig_types.specs.declared.streams.Sending.{Sending}
use Rattle.scenario_data.specs.Content.{ScenarioContent, CabinetContent}
use Rattle.master_poll.specs.declared.master.Master.{Master}
use Rattle.master_poll.specs.declared.master.Round.{Round}
use Rattle.master_poll.specs.Sends.{Arrived, sending_of, notes_of}
use Rattle.master_poll.specs.Masters.{IsRound, MasterStands, ChannelIsAt, frames_of, notes_from, sendings_from, sendings_of}

-- the same has arrived from each of that many cabinets, of which the first has this number
abbrev pub SameFrom : (ℕ → List Arrived) → (ℕ → List Arrived) → ℕ → ℕ → Type 0
SameFrom a b first count = (cab : ℕ) → first ≤ cab → cab < first + count → a cab ≡ b cab

same_sendings : (s : ScenarioContent) (a b : ℕ → List Arrived) (first : ℕ) (cabinets : List CabinetContent) → SameFrom a b first (length cabinets)
    → sendings_from s a first cabinets ≡ sendings_from s b first cabinets
same_sendings s a b first [] same = refl
same_sendings s a b first (c ∷ cabinets) same =
    ap (λ arrived. sending_of s first c arrived ∷ sendings_from s a (first + 1) cabinets) (same first (omega arith) (omega arith))
    ∙ ap (λ rest. sending_of s first c (b first) ∷ rest) (same_sendings s a b (first + 1) cabinets (λ cab above below. same cab (omega (arith, above)) (omega (arith, below))))

same_notes : (s : ScenarioContent) (a b : ℕ → List Arrived) (first : ℕ) (cabinets : List CabinetContent) → SameFrom a b first (length cabinets)
    → notes_from s a first cabinets ≡ notes_from s b first cabinets
same_notes s a b first [] same = refl
same_notes s a b first (c ∷ cabinets) same =
    ap (λ arrived. notes_of s first c arrived ++ notes_from s a (first + 1) cabinets) (same first (omega arith) (omega arith))
    ∙ ap (λ rest. notes_of s first c (b first) ++ rest) (same_notes s a b (first + 1) cabinets (λ cab above below. same cab (omega (arith, above)) (omega (arith, below))))

pub same_stands : (m : Master) (s : ScenarioContent) (a b : ℕ → List Arrived) → SameFrom a b 1 (length s.cabinets) → MasterStands m s a → MasterStands m s b
same_stands m s a b same stands = λ place p c found there.
    subst (λ arrived. ChannelIsAt p s place m.rounds c arrived) (same (place + 1) (omega arith) (omega (arith, slice_get_within s.cabinets place c there)))
    (stands place p c found there)

pub same_round : (m : Master) (r : Round) (s : ScenarioContent) (a b : ℕ → List Arrived) → SameFrom a b 1 (length s.cabinets) → IsRound m r s a → IsRound m r s b
same_round m r s a b same is = record {
  stands = same_stands m s a b same is.stands;
  sendings = is.sendings ∙ same_sendings s a b 1 s.cabinets same;
  notes = is.notes ∙ same_notes s a b 1 s.cabinets same;
}

-- what is sent to the cabinet at a place of these
sending_at : (s : ScenarioContent) (a : ℕ → List Arrived) (first : ℕ) (cabinets : List CabinetContent) (place cab : ℕ) (c : CabinetContent)
    → slice_get cabinets place ≡ Some c → cab ≡ first + place → slice_get (sendings_from s a first cabinets) place ≡ Some (sending_of s cab c (a cab))
sending_at s a first [] place cab c there is = absurd (none-some c there)
sending_at s a first (d ∷ cabinets) zero cab c there is =
    let here : first ≡ cab = omega (arith, is) in
    ap (λ e. Some (sending_of s first e (a first))) (same_Some d c there) ∙ ap (λ n. Some (sending_of s n c (a n))) here
sending_at s a first (d ∷ cabinets) (suc place) cab c there is = sending_at s a (first + 1) cabinets place cab c there (omega (arith, is))

-- the same of all, read from what a round sends
pub sent_to : (sendings : List Sending) (s : ScenarioContent) (a : ℕ → List Arrived) (place : ℕ) (c : CabinetContent) (d : Sending)
    → map frames_of sendings ≡ sendings_of s a → slice_get s.cabinets place ≡ Some c → place < length sendings
    → frames_of (get_or sendings place d) ≡ sending_of s (place + 1) c (a (place + 1))
sent_to sendings s a place c d are there low =
    let read : slice_get (map frames_of sendings) place ≡ Some (frames_of (get_or sendings place d)) =
    slice_get-map frames_of sendings place ∙ ap (λ o. option_map frames_of o) (slice_get-get_or sendings place d low) in
    same_Some (frames_of (get_or sendings place d)) (sending_of s (place + 1) c (a (place + 1)))
    (sym read ∙ (ap (λ xs. slice_get xs place) are ∙ sending_at s a 1 s.cabinets place (place + 1) c there (omega arith)))

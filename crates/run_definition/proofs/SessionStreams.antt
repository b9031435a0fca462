-- The streams of a round of the scenario that results are what the passes bring in the session.
use Rattle.std.proofs.Common.{◌≡◌, ◌∙◌, ◌+◌, ◌≤◌, ℕ, zero, suc, List, [], ◌++◌, length, map, get_or, take, replicate, refl, sym, ap, arith, append-nil, append_assoc}
use Rattle.std.proofs.lemmas.List.{map-append}
use Rattle.sig_types.specs.declared.notes.Way.{Way}
use Rattle.sig_types.specs.declared.notes.Way.TheVariants.{Poll, Load, Prio}
use Rattle.sig_types.specs.Items.{Item, InputTold, Came, Ticked}
use Rattle.sig_types.specs.Passes.{pass_of}
use Rattle.sig_types.specs.Replies.{Reply}
use Rattle.scenario_data.specs.Content.{ScenarioContent, CabinetContent}
use Rattle.scenario_data.specs.Inputs.{inputs_of}
use Rattle.link_sim.specs.Reaching.{frames_of, requested, sent_on, line_down, reaching}
use Rattle.link_sim.specs.Carried.{carried}
use Rattle.cabinet_history.specs.Journals.{acts_of, serial}
use Rattle.master_rounds.specs.Rounds.{polls_sent, loads_sent, delivered_on}
use Rattle.master_rounds.proofs.Counts.{polls_counted, loads_counted}
use Rattle.run_definition.specs.CabinetState.{CabinetState, coming_streams}
use Rattle.run_definition.proofs.Merges.{serial-merge}
use Rattle.run_definition.specs.Session.{Step, steps_acts, begin_acts, session_acts, ticks_in}
use Rattle.run_definition.specs.SessionRecord.{resulting, inputs_by, frames_by}
use Rattle.run_definition.specs.SessionDialogue.{IsByRounds}
use Rattle.run_definition.proofs.Acts.{of_pass, of-pass-append, acts-given}
use Rattle.run_definition.proofs.Bringing.{AreSteps, IsRoundOf, round-within, frames-kept, inputs-kept, fields-brought, octets-brought, ticks-brought, none-brought}
use Rattle.run_definition.proofs.Carrying.{carried-kept}
use Rattle.run_definition.proofs.Requesting.{requested-kept}
use Rattle.run_definition.proofs.Turning.{polls-kept, loads-sent-kept}

-- ---- what is brought before any tick

front-given : (streams : List (List Item)) (p : ℕ) (more : List Item) → get_or streams p [] ≡ get_or (take 4 streams) p [] ++ more
    → of_pass p (acts_of streams (serial (take 4 streams))) ≡ get_or (take 4 streams) p []
front-given streams p more e =
    acts-given streams p (serial (take 4 streams)) [] (get_or (take 4 streams) p []) more e (serial-merge (take 4 streams) p)

-- ---- streams of frames

sent-kept : (s : ScenarioContent) (all : List (List Step)) (compact : List ℕ) (cab : ℕ) (way : Way) (sent : List (List (List ℕ))) → IsByRounds s → length sent ≤ length all
    → sent_on (resulting s all compact) cab way sent ≡ sent_on s cab way sent
sent-kept s all compact cab Poll sent early within = refl
sent-kept s all compact cab Load sent early within = refl
sent-kept s all compact cab Prio sent early within = requested-kept s all compact cab (length sent) early.priority within

requested-counted : (s : ScenarioContent) (cab n : ℕ) → length (requested s cab n) ≡ n
requested-counted s cab zero = refl
requested-counted s cab (suc n) = ap suc (requested-counted s cab n)

sent-counted : (s : ScenarioContent) (cab : ℕ) (way : Way) (sent : List (List (List ℕ))) → length (sent_on s cab way sent) ≡ length sent
sent-counted s cab Poll sent = refl
sent-counted s cab Load sent = refl
sent-counted s cab Prio sent = requested-counted s cab (length sent)

reaching-kept : (s : ScenarioContent) (all : List (List Step)) (compact : List ℕ) (steps : List Step) (before : List (List Step)) (cab : ℕ) (way : Way) (sent : List (List (List ℕ)))
    → IsByRounds s → IsRoundOf all steps before → length sent ≡ length before + 1
    → reaching (resulting s all compact) cab way sent ≡ reaching s cab way sent ++ frames_of (frames_by (length sent) steps) (length sent) cab way
reaching-kept s all compact steps before cab way sent early is at =
    let within : length sent ≤ length all = omega (arith, at, round-within all steps before is) in
    let own : List (List ℕ) = frames_of (resulting s all compact).frames (length sent) cab way in
    let carries : carried (resulting s all compact).faults (line_down cab way) (sent_on (resulting s all compact) cab way sent) ≡ carried s.faults (line_down cab way) (sent_on s cab way sent) =
    ap (carried (resulting s all compact).faults (line_down cab way)) (sent-kept s all compact cab way sent early within)
    ∙ carried-kept (length all) s.faults (line_down cab way) (sent_on s cab way sent) (omega (arith, within, sent-counted s cab way sent)) in
    ap (λ (r : List (List ℕ)). r ++ own) carries
    ∙ ap (λ (r : List (List ℕ)). carried s.faults (line_down cab way) (sent_on s cab way sent) ++ r) (frames-kept all steps before s.frames (length sent) cab way is at)
    ∙ sym (append_assoc (carried s.faults (line_down cab way) (sent_on s cab way sent)) (frames_of s.frames (length sent) cab way) (frames_of (frames_by (length sent) steps) (length sent) cab way))

-- what of the scenario reaches a cabinet on a stream, and then what the steps bring
came-kept : (s : ScenarioContent) (all : List (List Step)) (compact : List ℕ) (steps : List Step) (before : List (List Step)) (cab : ℕ) (way : Way) (sent after : List (List (List ℕ)))
    → IsByRounds s → IsRoundOf all steps before → AreSteps steps → length sent ≡ length before + 1 → after ≡ sent
    → map Came (reaching (resulting s all compact) cab way after) ≡ map Came (reaching s cab way sent) ++ of_pass (pass_of way) (steps_acts cab steps)
came-kept s all compact steps before cab way sent after early is are at same =
    ap (λ (x : List (List (List ℕ))). map Came (reaching (resulting s all compact) cab way x)) same
    ∙ ap (map Came) (reaching-kept s all compact steps before cab way sent early is at)
    ∙ map-append Came (reaching s cab way sent) (frames_of (frames_by (length sent) steps) (length sent) cab way)
    ∙ ap (λ (r : List Item). map Came (reaching s cab way sent) ++ r) (octets-brought (length sent) cab way steps are)

octets-kept : (s : ScenarioContent) (all : List (List Step)) (compact : List ℕ) (steps : List Step) (before : List (List Step)) (cab : ℕ) (c : CabinetContent) (answered : List (List Reply)) (way : Way)
    → IsByRounds s → IsRoundOf all steps before → AreSteps steps → length answered ≡ length before
    → map Came (delivered_on (resulting s all compact) cab c answered way) ≡ map Came (delivered_on s cab c answered way) ++ of_pass (pass_of way) (steps_acts cab steps)
octets-kept s all compact steps before cab c answered Poll early is are at =
    came-kept s all compact steps before cab Poll (polls_sent s cab c answered) (polls_sent (resulting s all compact) cab c answered) early is are
    (omega (arith, at, polls_counted s cab c answered)) (polls-kept s all compact cab c answered early.loads (omega (arith, at, round-within all steps before is)))
octets-kept s all compact steps before cab c answered Load early is are at =
    came-kept s all compact steps before cab Load (loads_sent s cab c answered) (loads_sent (resulting s all compact) cab c answered) early is are
    (omega (arith, at, loads_counted s cab c answered)) (loads-sent-kept s all compact cab c answered early.loads (omega (arith, at, round-within all steps before is)))
octets-kept s all compact steps before cab c answered Prio early is are at =
    came-kept s all compact steps before cab Prio (polls_sent s cab c answered) (polls_sent (resulting s all compact) cab c answered) early is are
    (omega (arith, at, polls_counted s cab c answered)) (polls-kept s all compact cab c answered early.loads (omega (arith, at, round-within all steps before is)))

fields-kept : (s : ScenarioContent) (all : List (List Step)) (compact : List ℕ) (steps : List Step) (before : List (List Step)) (round cab : ℕ)
    → IsRoundOf all steps before → AreSteps steps → round ≡ length before + 1
    → map InputTold (inputs_of round cab (resulting s all compact).inputs) ≡ map InputTold (inputs_of round cab s.inputs) ++ of_pass 0 (steps_acts cab steps)
fields-kept s all compact steps before round cab is are at =
    ap (map InputTold) (inputs-kept all steps before s.inputs round cab is at)
    ∙ map-append InputTold (inputs_of round cab s.inputs) (inputs_of round cab (inputs_by round steps))
    ∙ ap (λ (r : List Item). map InputTold (inputs_of round cab s.inputs) ++ r) (fields-brought round cab steps are)

-- ---- all streams

-- a stream, where it is what begins it and then what the steps bring
joined : (s : ScenarioContent) (cab : ℕ) (t : CabinetState) (steps : List Step) (p : ℕ) (stream begun : List Item)
    → stream ≡ begun ++ of_pass p (steps_acts cab steps) → of_pass p (begin_acts s cab t) ≡ begun → stream ≡ of_pass p (session_acts s cab t steps)
joined s cab t steps p stream begun whole given =
    whole ∙ ap (λ (r : List Item). r ++ of_pass p (steps_acts cab steps)) (sym given) ∙ sym (of-pass-append p (begin_acts s cab t) (steps_acts cab steps))

-- a round of a session that has this number of ticks
pub record IsRound (s : ScenarioContent) (steps : List Step) : Type 0 where
  pub made : AreSteps steps
  pub full : ticks_in steps ≡ s.ticks

pub streams-whole : (s : ScenarioContent) (all : List (List Step)) (compact : List ℕ) (steps : List Step) (before : List (List Step)) (cab : ℕ) (t : CabinetState)
    → IsByRounds s → IsRoundOf all steps before → IsRound s steps → length t.answered ≡ length before
    → (p : ℕ) → get_or (coming_streams (resulting s all compact) cab t) p [] ≡ of_pass p (session_acts s cab t steps)
streams-whole s all compact steps before cab t early is are at zero =
    let round : ℕ = length t.answered + 1 in
    let own : List Item = map InputTold (inputs_of round cab s.inputs) in
    joined s cab t steps 0 (map InputTold (inputs_of round cab (resulting s all compact).inputs)) own
    (fields-kept s all compact steps before round cab is are.made (omega (arith, at)))
    (front-given (coming_streams s cab t) 0 [] (sym (append-nil own)))
streams-whole s all compact steps before cab t early is are at (suc zero) =
    let own : List Item = map Came (delivered_on s cab t.cabinet t.answered Poll) in
    joined s cab t steps 1 (map Came (delivered_on (resulting s all compact) cab t.cabinet t.answered Poll)) own
    (octets-kept s all compact steps before cab t.cabinet t.answered Poll early is are.made at)
    (front-given (coming_streams s cab t) 1 [] (sym (append-nil own)))
streams-whole s all compact steps before cab t early is are at (suc (suc zero)) =
    let own : List Item = map Came (delivered_on s cab t.cabinet t.answered Load) in
    joined s cab t steps 2 (map Came (delivered_on (resulting s all compact) cab t.cabinet t.answered Load)) own
    (octets-kept s all compact steps before cab t.cabinet t.answered Load early is are.made at)
    (front-given (coming_streams s cab t) 2 [] (sym (append-nil own)))
streams-whole s all compact steps before cab t early is are at (suc (suc (suc zero))) =
    let own : List Item = map Came (delivered_on s cab t.cabinet t.answered Prio) in
    joined s cab t steps 3 (map Came (delivered_on (resulting s all compact) cab t.cabinet t.answered Prio)) own
    (octets-kept s all compact steps before cab t.cabinet t.answered Prio early is are.made at)
    (front-given (coming_streams s cab t) 3 [] (sym (append-nil own)))
streams-whole s all compact steps before cab t early is are at (suc (suc (suc (suc zero)))) =
    joined s cab t steps 4 (replicate s.ticks Ticked) []
    (ap (λ (n : ℕ). replicate n Ticked) (sym are.full) ∙ sym (ticks-brought cab steps are.made))
    (front-given (coming_streams s cab t) 4 (replicate s.ticks Ticked) refl)
streams-whole s all compact steps before cab t early is are at (suc (suc (suc (suc (suc p))))) =
    let high : 5 ≤ suc (suc (suc (suc (suc p)))) = omega arith in
    joined s cab t steps (suc (suc (suc (suc (suc p))))) [] []
    (sym (none-brought (suc (suc (suc (suc (suc p))))) cab steps are.made high))
    (front-given (coming_streams s cab t) (suc (suc (suc (suc (suc p))))) [] refl)

-- What the master does in the first rounds rests on what the scenario has only of these rounds.
use Rattle.std.proofs.Common.{◌≡◌, ◌∙◌, ◌+◌, ◌≤◌, ℕ, List, [], ◌∷◌, length, map, Option, Some, None, option_to_list, option_map, refl, sym, ap, subst, arith}
use Rattle.std.proofs.lemmas.List.{length-map}
use Rattle.sig_types.specs.declared.notes.Way.{Way}
use Rattle.sig_types.specs.declared.notes.Way.TheVariants.{Poll, Load}
use Rattle.sig_types.specs.Passes.{pass_of}
use Rattle.sig_types.specs.Replies.{Reply, replied_on}
use Rattle.snmp_msg.specs.declared.message.Message.{Message}
use Rattle.scenario_data.specs.Content.{ScenarioContent, CabinetContent}
use Rattle.link_sim.specs.Reaching.{line_up}
use Rattle.master_load.specs.declared.download.LoadFrame.{LoadFrame}
use Rattle.master_load.specs.Loading.{LoadEvent, AnswerTold, last_frame, with_frame}
use Rattle.master_poll.specs.Commands.{Turn}
use Rattle.master_poll.specs.Turns.{told, load_events}
use Rattle.master_poll.specs.Sends.{Arrived, Frames, turn_after, turns, last_sending, last_notes, sending_of, notes_of, command_text}
use Rattle.master_rounds.specs.Rounds.{arriving_on, arrived_of, arrivals, sendings, polls_sent, loads_sent, noted}
use Rattle.master_rounds.proofs.Counts.{turns_counted}
use Rattle.run_definition.specs.Session.{Step}
use Rattle.run_definition.specs.SessionRecord.{resulting}
use Rattle.run_definition.specs.SessionDialogue.{early_load}
use Rattle.run_definition.proofs.Carrying.{carried-kept}
use Rattle.run_definition.proofs.Loads.{AgreesIf, next-kept, next-agrees, text-kept}

-- ---- what has arrived

returning-kept : (s : ScenarioContent) (all : List (List Step)) (compact : List ℕ) (cab : ℕ) (way : Way) (answered : List (List Reply)) → length answered ≤ length all
    → arriving_on (resulting s all compact) cab way answered ≡ arriving_on s cab way answered
returning-kept s all compact cab way answered within =
    carried-kept (length all) s.faults (line_up cab way) (map (replied_on (pass_of way)) answered)
    (omega (arith, within, length-map answered (replied_on (pass_of way))))

pub arrivals-kept : (s : ScenarioContent) (all : List (List Step)) (compact : List ℕ) (cab : ℕ) (answered : List (List Reply)) → length answered ≤ length all
    → arrivals (resulting s all compact) cab answered ≡ arrivals s cab answered
arrivals-kept s all compact cab [] within = refl
arrivals-kept s all compact cab (replies ∷ before) within =
    let fewer : length before ≤ length all = omega (arith, within) in
    let both : List (List ℕ) → List (List ℕ) → Arrived = λ polls loads. record { polls = polls; loads = loads } in
    let own : arrived_of (resulting s all compact) cab (replies ∷ before) ≡ arrived_of s cab (replies ∷ before) =
    ap (λ (x : List (List ℕ)). both x (arriving_on (resulting s all compact) cab Load (replies ∷ before))) (returning-kept s all compact cab Poll (replies ∷ before) within)
    ∙ ap (λ (x : List (List ℕ)). both (arriving_on s cab Poll (replies ∷ before)) x) (returning-kept s all compact cab Load (replies ∷ before) within) in
    ap (λ (a : Arrived). a ∷ arrivals (resulting s all compact) cab before) own
    ∙ ap (λ (r : List Arrived). arrived_of s cab (replies ∷ before) ∷ r) (arrivals-kept s all compact cab before fewer)

-- ---- turns

last-told : (messages : List Message) (past : List LoadEvent) → last_frame (told messages past) ≡ last_frame past
last-told [] past = refl
last-told (m ∷ messages) past = last-told messages (AnswerTold m ∷ past)

last-with : (rounds cab : ℕ) (s : ScenarioContent) (frame : Option LoadFrame) (past : List LoadEvent) → AgreesIf rounds cab s.loads frame → AgreesIf rounds cab s.loads (last_frame past)
    → AgreesIf rounds cab s.loads (last_frame (with_frame frame past))
last-with rounds cab s None past one agrees = agrees
last-with rounds cab s (Some frame) past one agrees = one

-- the turns at a cabinet are the same, and the last frame of a download agrees
pub record TurnsKept (s : ScenarioContent) (all : List (List Step)) (compact : List ℕ) (cab : ℕ) (c : CabinetContent) (arrived : List Arrived) : Type 0 where
  pub same : turns (resulting s all compact) cab c arrived ≡ turns s cab c arrived
  pub agrees : AgreesIf (length all) cab s.loads (last_frame (load_events (turns s cab c arrived)))
  pub counted : length (turns s cab c arrived) ≡ length arrived

-- what the loader has got by the time of a turn's frame
abbrev told_by : Turn → List Turn → List LoadEvent
told_by t past = told t.loads (load_events past)

told-agrees : (s : ScenarioContent) (rounds cab : ℕ) (t : Turn) (past : List Turn) → AgreesIf rounds cab s.loads (last_frame (load_events past))
    → AgreesIf rounds cab s.loads (last_frame (told_by t past))
told-agrees s rounds cab t past agrees =
    subst (AgreesIf rounds cab s.loads) (sym (last-told t.loads (load_events past))) agrees

turn-kept : (s : ScenarioContent) (all : List (List Step)) (compact : List ℕ) (cab : ℕ) (c : CabinetContent) (arrived : Arrived) (past : List Turn)
    → early_load s ≡ None → length past + 1 ≤ length all → AgreesIf (length all) cab s.loads (last_frame (load_events past))
    → turn_after (resulting s all compact) cab c arrived past ≡ turn_after s cab c arrived past
turn-kept s all compact cab c arrived past early within agrees =
    let t : Turn = turn_after s cab c arrived past in
    let with_download : Option LoadFrame → Turn = λ f. record { polls = t.polls; loads = t.loads; due = t.due; command = t.command; frame = f } in
    ap with_download (next-kept (length all) cab (length past + 1) _ s.loads (told_by t past) early within (told-agrees s (length all) cab t past agrees))

turn-agrees : (s : ScenarioContent) (rounds cab : ℕ) (c : CabinetContent) (arrived : Arrived) (past : List Turn)
    → early_load s ≡ None → length past + 1 ≤ rounds → AgreesIf rounds cab s.loads (last_frame (load_events past))
    → AgreesIf rounds cab s.loads (turn_after s cab c arrived past).frame
turn-agrees s rounds cab c arrived past early within agrees =
    let t : Turn = turn_after s cab c arrived past in
    next-agrees rounds cab (length past + 1) _ s.loads (told_by t past) early within (told-agrees s rounds cab t past agrees)

pub turns-kept : (s : ScenarioContent) (all : List (List Step)) (compact : List ℕ) (cab : ℕ) (c : CabinetContent) (arrived : List Arrived)
    → early_load s ≡ None → length arrived ≤ length all → TurnsKept s all compact cab c arrived
turns-kept s all compact cab c [] early within = record { same = refl; agrees = tt; counted = refl }
turns-kept s all compact cab c (a ∷ before) early within =
    let kept : TurnsKept s all compact cab c before = turns-kept s all compact cab c before early (omega (arith, within)) in
    let past : List Turn = turns s cab c before in
    let few : length past + 1 ≤ length all = omega (arith, within, kept.counted) in
    record {
      same = ap (λ (p : List Turn). turn_after (resulting s all compact) cab c a p ∷ p) kept.same
          ∙ ap (λ (t : Turn). t ∷ past) (turn-kept s all compact cab c a past early few kept.agrees);
      agrees = last-with (length all) cab s (turn_after s cab c a past).frame (told_by (turn_after s cab c a past) past)
          (turn-agrees s (length all) cab c a past early few kept.agrees)
          (told-agrees s (length all) cab (turn_after s cab c a past) past kept.agrees);
      counted = omega (arith, kept.counted);
    }

-- ---- what is sent and noted

sending-kept : (s : ScenarioContent) (all : List (List Step)) (compact : List ℕ) (cab : ℕ) (c : CabinetContent) (arrived : List Arrived)
    → early_load s ≡ None → length arrived ≤ length all → sending_of (resulting s all compact) cab c arrived ≡ sending_of s cab c arrived
sending-kept s all compact cab c [] early within = refl
sending-kept s all compact cab c (a ∷ before) early within =
    let kept : TurnsKept s all compact cab c before = turns-kept s all compact cab c before early (omega (arith, within)) in
    let whole : TurnsKept s all compact cab c (a ∷ before) = turns-kept s all compact cab c (a ∷ before) early within in
    let past : List Turn = turns s cab c before in
    let t : Turn = turn_after s cab c a past in
    let few : length past + 1 ≤ length all = omega (arith, within, kept.counted) in
    let both : Option (List ℕ) → Frames = λ load. record { poll = option_map (command_text s.community) t.command; load = load } in
    ap (last_sending (resulting s all compact)) whole.same
    ∙ ap both (text-kept (length all) cab s.community s.loads t.frame (turn-agrees s (length all) cab c a past early few kept.agrees))

sendings-kept : (s : ScenarioContent) (all : List (List Step)) (compact : List ℕ) (cab : ℕ) (c : CabinetContent) (arrived : List Arrived)
    → early_load s ≡ None → length arrived ≤ length all → sendings (resulting s all compact) cab c arrived ≡ sendings s cab c arrived
sendings-kept s all compact cab c [] early within = refl
sendings-kept s all compact cab c (a ∷ before) early within =
    ap (λ (f : Frames). f ∷ sendings (resulting s all compact) cab c before) (sending-kept s all compact cab c (a ∷ before) early within)
    ∙ ap (λ (r : List Frames). sending_of s cab c (a ∷ before) ∷ r) (sendings-kept s all compact cab c before early (omega (arith, within)))

-- of these rounds' replies the sendings
all-kept : (s : ScenarioContent) (all : List (List Step)) (compact : List ℕ) (cab : ℕ) (c : CabinetContent) (answered : List (List Reply))
    → early_load s ≡ None → length answered + 1 ≤ length all
    → sendings (resulting s all compact) cab c (arrivals (resulting s all compact) cab answered) ≡ sendings s cab c (arrivals s cab answered)
all-kept s all compact cab c answered early within =
    ap (sendings (resulting s all compact) cab c) (arrivals-kept s all compact cab answered (omega (arith, within)))
    ∙ sendings-kept s all compact cab c (arrivals s cab answered) early (omega (arith, within, turns_counted s cab answered))

pub polls-kept : (s : ScenarioContent) (all : List (List Step)) (compact : List ℕ) (cab : ℕ) (c : CabinetContent) (answered : List (List Reply))
    → early_load s ≡ None → length answered + 1 ≤ length all → polls_sent (resulting s all compact) cab c answered ≡ polls_sent s cab c answered
polls-kept s all compact cab c answered early within =
    ap (map (λ (f : Frames). option_to_list f.poll)) (all-kept s all compact cab c answered early within)

pub loads-sent-kept : (s : ScenarioContent) (all : List (List Step)) (compact : List ℕ) (cab : ℕ) (c : CabinetContent) (answered : List (List Reply))
    → early_load s ≡ None → length answered + 1 ≤ length all → loads_sent (resulting s all compact) cab c answered ≡ loads_sent s cab c answered
loads-sent-kept s all compact cab c answered early within =
    ap (map (λ (f : Frames). option_to_list f.load)) (all-kept s all compact cab c answered early within)

pub noted-kept : (s : ScenarioContent) (all : List (List Step)) (compact : List ℕ) (cab : ℕ) (c : CabinetContent) (answered : List (List Reply))
    → early_load s ≡ None → length answered + 1 ≤ length all → noted (resulting s all compact) cab c answered ≡ noted s cab c answered
noted-kept s all compact cab c answered early within =
    ap (notes_of (resulting s all compact) cab c) (arrivals-kept s all compact cab answered (omega (arith, within)))
    ∙ ap (last_notes (resulting s all compact) cab c)
    (turns-kept s all compact cab c (arrivals s cab answered) early (omega (arith, within, turns_counted s cab answered))).same
    ∙ same-notes (turns s cab c (arrivals s cab answered))
  where
    same-notes : (past : List Turn) → last_notes (resulting s all compact) cab c past ≡ last_notes s cab c past
    same-notes [] = refl
    same-notes (t ∷ past) = refl

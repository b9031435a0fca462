-- Only octets reach a cabinet in a round, and where it has answered octets, only octets come back to the master.
use Rattle.std.proofs.Common.{ℕ, zero, suc, ◌+◌, ◌==◌, ◌∷◌, [], Bool, true, false, if◌then◌else◌, List, length, map, replicate, Option, Some, None, refl}
use Rattle.std.specs.Prelude.{IfSome}
use Rattle.std.specs.List.{AllByRecursion, cons_option, filter}
use Rattle.std.specs.Option.{option_to_list, option_map}
use Rattle.sig_types.specs.declared.frame.Field.{Field}
use Rattle.sig_types.specs.declared.notes.Way.{Way}
use Rattle.sig_types.specs.declared.notes.Way.TheVariants.{Poll, Load, Prio}
use Rattle.snmp_msg.specs.declared.message.Message.{Message}
use Rattle.snmp_msg.specs.Messages.{IsMessage}
use Rattle.snmp_msg.specs.Shortest.{AreOctets}
use Rattle.snmp_msg.specs.Reading.{message_of}
use Rattle.snmp_msg.proofs.MessageLaws.{is_found}
use Rattle.scenario_data.specs.Content.{CabinetContent, FrameContent, ScenarioContent}
use Rattle.scenario_data.specs.Inputs.{inputs_of}
use Rattle.sig_types.specs.Items.{InputTold, Came, Ticked}
use Rattle.sig_types.specs.Passes.{pass_of}
use Rattle.sig_types.specs.Replies.{Reply, replied_on}
use Rattle.requests.specs.Requests.{messages}
use Rattle.master_load.specs.declared.download.LoadFrame.{LoadFrame}
use Rattle.master_load.specs.Downloads.{AreLoads, frame_text}
use Rattle.master_poll.specs.declared.command.Command.{Command}
use Rattle.master_poll.specs.Commands.{Turn}
use Rattle.master_poll.specs.Sends.{Arrived, command_text, last_sending, turns}
use Rattle.link_sim.specs.Reaching.{frames_of, is_frame_of, line_down, line_up, reaching, sent_on}
use Rattle.master_rounds.specs.Rounds.{arriving_on, arrivals, sendings, polls_sent, loads_sent, delivered, streams_of}
use Rattle.runnable.specs.Octets.{OnlyOctets}
use Rattle.trace_laws.specs.Items.{AreOctetItems}
use Rattle.trace_laws.specs.Rounds.{RepliesAre, ArrivedIs}
use Rattle.trace_laws.specs.Items.{AllOctets, EachOctets}
use Rattle.trace_laws.proofs.Carried.{all-both, carried-octets}
use Rattle.trace_laws.proofs.Sent.{command-frame, load-frame, requested-octets}
use Rattle.trace_laws.proofs.Read.{HasSmallNumbers, message-read}

-- ---- what the master sends

one-command : (s : ScenarioContent) (o : Option Command) → OnlyOctets s → AllOctets (option_to_list (option_map (command_text s.community) o))
one-command s None only = tt
one-command s (Some c) only = ((command-frame s.community c only.community only.short).octets, tt)

one-load : (s : ScenarioContent) (o : Option LoadFrame) → OnlyOctets s → AreLoads s.loads → AllOctets (option_to_list (option_map (frame_text s.community s.loads) o))
one-load s None only all = tt
one-load s (Some frame) only all = ((load-frame s.community s.loads frame only.community only.short all only.loads).octets, tt)

last-poll : (s : ScenarioContent) (past : List Turn) → OnlyOctets s → AllOctets (option_to_list (last_sending s past).poll)
last-poll s [] only = tt
last-poll s (t ∷ past) only = one-command s t.command only

last-load : (s : ScenarioContent) (past : List Turn) → OnlyOctets s → AreLoads s.loads → AllOctets (option_to_list (last_sending s past).load)
last-load s [] only all = tt
last-load s (t ∷ past) only all = one-load s t.frame only all

polls-octets : (s : ScenarioContent) (cab : ℕ) (c : CabinetContent) (arrived : List Arrived) → OnlyOctets s
    → EachOctets (map (λ f. option_to_list f.poll) (sendings s cab c arrived))
polls-octets s cab c [] only = tt
polls-octets s cab c (a ∷ arrived) only = (last-poll s (turns s cab c (a ∷ arrived)) only, polls-octets s cab c arrived only)

loads-octets : (s : ScenarioContent) (cab : ℕ) (c : CabinetContent) (arrived : List Arrived) → OnlyOctets s → AreLoads s.loads
    → EachOctets (map (λ f. option_to_list f.load) (sendings s cab c arrived))
loads-octets s cab c [] only all = tt
loads-octets s cab c (a ∷ arrived) only all = (last-load s (turns s cab c (a ∷ arrived)) only all, loads-octets s cab c arrived only all)

-- ---- what reaches the cabinet

frames-octets : (frames : List FrameContent) (round cab : ℕ) (way : Way) → AllByRecursion (λ f. AreOctets f.hex) frames
    → AllOctets (frames_of frames round cab way)
frames-octets [] round cab way all = tt
frames-octets (f ∷ frames) round cab way all = split (is_frame_of round cab way f) (frames-octets frames round cab way all.1)
  where
    test : FrameContent → Bool
    test = is_frame_of round cab way

    split : (b : Bool) → AllOctets (map (λ g. g.hex) (filter test frames))
        → AllOctets (map (λ g. g.hex) (if b then f ∷ filter test frames else filter test frames))
    split true more = (all.0, more)
    split false more = more

reach-octets : (s : ScenarioContent) (cab : ℕ) (way : Way) (sent : List (List (List ℕ))) → OnlyOctets s → EachOctets (sent_on s cab way sent)
    → AllOctets (reaching s cab way sent)
reach-octets s cab way sent only all =
    all-both _ (frames_of s.frames (length sent) cab way)
    (carried-octets s.faults (line_down cab way) (sent_on s cab way sent) only.faults all)
    (frames-octets s.frames (length sent) cab way only.frames)

came-octets : (texts : List (List ℕ)) → AllOctets texts → AreOctetItems (map Came texts)
came-octets [] all = tt
came-octets (text ∷ texts) all = (all.0, came-octets texts all.1)

told-octets : (fields : List Field) → AreOctetItems (map InputTold fields)
told-octets [] = tt
told-octets (field ∷ fields) = (tt, told-octets fields)

ticks-octets : (n : ℕ) → AreOctetItems (replicate n Ticked)
ticks-octets zero = tt
ticks-octets (suc n) = (tt, ticks-octets n)

-- the streams of the round to come, whatever the cabinet has answered
pub streams-octets : (s : ScenarioContent) (cab : ℕ) (c : CabinetContent) (answered : List (List Reply)) → OnlyOctets s → AreLoads s.loads
    → AllByRecursion AreOctetItems (streams_of s cab c answered)
streams-octets s cab c answered only all = (
  told-octets (inputs_of (length answered + 1) cab s.inputs),
  (
    came-octets (delivered s cab c answered 1)
        (reach-octets s cab Poll (polls_sent s cab c answered) only (polls-octets s cab c (arrivals s cab answered) only)),
    (
      came-octets (delivered s cab c answered 2)
          (reach-octets s cab Load (loads_sent s cab c answered) only (loads-octets s cab c (arrivals s cab answered) only all)),
      (
        came-octets (delivered s cab c answered 3)
            (reach-octets s cab Prio (polls_sent s cab c answered) only (requested-octets s cab (length (polls_sent s cab c answered)) only)),
        (ticks-octets s.ticks, tt),
      ),
    ),
  ),
)

-- ---- what comes back

replied-octets : (pass : ℕ) (replies : List Reply) → AllByRecursion (λ r. AreOctets r.octets) replies → AllOctets (replied_on pass replies)
replied-octets pass [] all = tt
replied-octets pass (r ∷ replies) all = split (r.pass == pass) (replied-octets pass replies all.1)
  where
    split : (b : Bool) → AllOctets (replied_on pass replies) → AllOctets (if b then r.octets ∷ replied_on pass replies else replied_on pass replies)
    split true more = (all.0, more)
    split false more = more

rounds-octets : (pass : ℕ) (answered : List (List Reply)) → RepliesAre answered → EachOctets (map (replied_on pass) answered)
rounds-octets pass [] all = tt
rounds-octets pass (replies ∷ before) all = (replied-octets pass replies all.0, rounds-octets pass before all.1)

arriving-octets : (s : ScenarioContent) (cab : ℕ) (way : Way) (answered : List (List Reply)) → OnlyOctets s → RepliesAre answered
    → AllOctets (arriving_on s cab way answered)
arriving-octets s cab way answered only all =
    carried-octets s.faults (line_up cab way) (map (replied_on (pass_of way)) answered) only.faults (rounds-octets (pass_of way) answered all)

pub arrivals-octets : (s : ScenarioContent) (cab : ℕ) (answered : List (List Reply)) → OnlyOctets s → RepliesAre answered
    → AllByRecursion ArrivedIs (arrivals s cab answered)
arrivals-octets s cab [] only all = (record { polls = tt; loads = tt }, tt)
arrivals-octets s cab (replies ∷ before) only all = (
  record { polls = arriving-octets s cab Poll (replies ∷ before) only all; loads = arriving-octets s cab Load (replies ∷ before) only all },
  arrivals-octets s cab before only all.1,
)

-- the messages among them have small numbers
pub messages-small : (texts : List (List ℕ)) → AllOctets texts → AllByRecursion HasSmallNumbers (messages texts)
messages-small [] all = tt
messages-small (text ∷ texts) all = split (message_of text) (is_found text (message_of text) refl) (messages-small texts all.1)
  where
    split : (o : Option Message) → IfSome o (λ m. IsMessage text m) → AllByRecursion HasSmallNumbers (messages texts)
        → AllByRecursion HasSmallNumbers (cons_option o (messages texts))
    split (Some m) is more = ((message-read text m all.0 is).1, more)
    split None is more = more

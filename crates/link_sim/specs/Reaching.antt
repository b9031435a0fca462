-- What reaches a cabinet in a round, and which of its replies reach the master. Both depend only on the scenario and
-- on what was sent on a stream in each round so far. Lists of rounds have the newest first.
use Rattle.std.specs.Prelude.{ℕ, suc, zero, ◌+◌, ◌==◌, ◌&&◌, Bool, List, [], ◌∷◌, ◌++◌, map, length, replicate}
use Rattle.std.specs.List.{filter}
use Rattle.sig_types.specs.declared.notes.Way.{Way}
use Rattle.sig_types.specs.declared.notes.Way.TheVariants.{Poll, Load, Prio}
use Rattle.scenario_data.specs.declared.scenario.Direction.TheVariants.{Down, Up}
use Rattle.scenario_data.specs.Content.{ScenarioContent, FrameContent}
use Rattle.scenario_data.specs.Inputs.{inputs_of}
use Rattle.sig_types.specs.Items.{Item, InputTold, Came, Ticked}
use Rattle.link_sim.specs.declared.Line.{Line}
use Rattle.link_sim.specs.Faults.{same_way}
use Rattle.link_sim.specs.Priority.{priority_texts}
use Rattle.link_sim.specs.Carried.{carried}

-- the message of the scenario is for this round, cabinet and stream
abbrev pub is_frame_of : ℕ → ℕ → Way → FrameContent → Bool
is_frame_of round cab way f = (f.round == round) && (f.cabinet == cab) && same_way f.stream way

-- the scenario's own messages to a cabinet in a round on this stream
abbrev pub frames_of : List FrameContent → ℕ → ℕ → Way → List (List ℕ)
frames_of frames round cab way = map (λ f. f.hex) (filter (is_frame_of round cab way) frames)

-- the scenario's priority requests to a cabinet, in each of this many rounds
abbrev pub requested : ScenarioContent → ℕ → ℕ → List (List (List ℕ))
requested s cab zero = []
requested s cab (suc rounds) = priority_texts s.community s.priority (rounds + 1) cab ∷ requested s cab rounds

-- what is sent on a stream in each round so far. The scenario sends on the priority stream, and the master on the
-- other two
abbrev pub sent_on : ScenarioContent → ℕ → Way → List (List (List ℕ)) → List (List (List ℕ))
sent_on s cab Poll sent = sent
sent_on s cab Load sent = sent
sent_on s cab Prio sent = requested s cab (length sent)

-- the line of a stream from the master to the cabinet
abbrev pub line_down : ℕ → Way → Line
line_down cab way = record { cab = cab; way = way; direction = Down }

-- the line of a stream from the cabinet to the master
abbrev pub line_up : ℕ → Way → Line
line_up cab way = record { cab = cab; way = way; direction = Up }

-- what reaches the cabinet on a stream in the newest round: what the link carries, then the scenario's own messages
abbrev pub reaching : ScenarioContent → ℕ → Way → List (List (List ℕ)) → List (List ℕ)
reaching s cab way sent = carried s.faults (line_down cab way) (sent_on s cab way sent) ++ frames_of s.frames (length sent) cab way

-- all items that reach the cabinet in the newest round, stream by stream: inputs, messages and ticks. The master has
-- sent `polls` and `loads` on its two streams
abbrev pub deliveries : ScenarioContent → ℕ → List (List (List ℕ)) → List (List (List ℕ)) → List (List Item)
deliveries s cab polls loads =
    map InputTold (inputs_of (length polls) cab s.inputs)
    ∷ map Came (reaching s cab Poll polls)
    ∷ map Came (reaching s cab Load loads)
    ∷ map Came (reaching s cab Prio polls)
    ∷ replicate s.ticks Ticked
    ∷ []

-- the replies that the link delivers to the master on a stream in the newest round, with their faults
abbrev pub returning : ScenarioContent → ℕ → Way → List (List (List ℕ)) → List (List ℕ)
returning s cab way replies = carried s.faults (line_up cab way) replies

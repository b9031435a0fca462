-- What the master does about the downloads of a cabinet, by what it has sent and received. Lists of events have the
-- newest first.
use Rattle.std.specs.Prelude.{ℕ, ℤ, ◌+◌, nat_le, Bool, true, false, if◌then◌else◌, List, [], ◌∷◌, length, Option, Some, None}
use Rattle.sig_types.specs.declared.notes.MasterNote.{MasterNote}
use Rattle.sig_types.specs.declared.notes.MasterNote.TheVariants.{LoadDone, LoadRefused}
use Rattle.snmp_msg.specs.declared.message.Message.{Message}
use Rattle.scenario_data.specs.Content.{LoadContent}
use Rattle.requests.specs.Requests.{answers, is_good}
use Rattle.master_load.specs.declared.download.Step.{Step}
use Rattle.master_load.specs.declared.download.Step.TheVariants.{Begin, Finish}
use Rattle.master_load.specs.declared.download.LoadFrame.{LoadFrame}
use Rattle.master_load.specs.Downloads.{loads_of, load_at, cells_of, parts_for, step_after}

-- an event of the loader of a cabinet: it receives a message, or it sends one
pub data LoadEvent : Type 0 where
  AnswerTold : (m : Message) → LoadEvent
  Sent : (frame : LoadFrame) → LoadEvent

-- the last message that was sent
abbrev pub last_frame : List LoadEvent → Option LoadFrame
last_frame [] = None
last_frame (AnswerTold m ∷ past) = last_frame past
last_frame (Sent frame ∷ past) = Some frame

-- the message is the Response to this sent message
abbrev pub answers_frame : Option LoadFrame → Message → Bool
answers_frame None m = false
answers_frame (Some frame) m = answers frame.id m

-- the earlier answer, if there is one; otherwise this message, if it is an answer (`now`)
abbrev pub or_now : Option Message → Bool → Message → Option Message
or_now (Some earlier) now m = Some earlier
or_now None true m = Some m
or_now None false m = None

-- the first Response to the last sent message, if one has been received
abbrev pub answer : List LoadEvent → Option Message
answer [] = None
answer (AnswerTold m ∷ past) = or_now (answer past) (answers_frame (last_frame past) m) m
answer (Sent frame ∷ past) = None

-- the message of a load for this step, with this id
abbrev pub frame_of : ℕ → ℕ → ℤ → Step → LoadFrame
frame_of cab load id step = record { cab = cab; load = load; step = step; id = id }

-- the begin of this load, if there is one and its round has come; `begun` loads have begun before
abbrev pub begin_where : ℕ → ℕ → ℤ → ℕ → Option LoadContent → Option LoadFrame
begin_where cab round id begun None = None
begin_where cab round id begun (Some l) =
    if nat_le l.round round then Some (frame_of cab (begun + 1) id Begin) else None

-- the begin of the next load of the cabinet, if its round has come; `begun` loads have begun before
abbrev pub begin_next : List LoadContent → ℕ → ℕ → ℤ → ℕ → Option LoadFrame
begin_next loads cab round id begun = begin_where cab round id begun (load_at (loads_of cab loads) (begun + 1))

-- the number of the load that began last; 0 before the first load
abbrev pub begun_by : Option LoadFrame → ℕ
begun_by None = 0
begun_by (Some frame) = frame.load

-- the step of the present load that is sent next. Without an answer it is the last step again. After an answer
-- without an error it is the next step; after an error or the finish there is none
abbrev pub step_due : List LoadContent → ℕ → Option LoadFrame → Option Message → Option Step
step_due loads cab None m = None
step_due loads cab (Some frame) None = Some frame.step
step_due loads cab (Some frame) (Some m) =
    if is_good m then step_after (parts_for (length (cells_of (loads_of cab loads) frame.load))) frame.step else None

-- the message for this step; without a step, the begin of the next load
abbrev pub go_on : List LoadContent → ℕ → ℕ → ℤ → ℕ → Option Step → Option LoadFrame
go_on loads cab round id begun (Some step) = Some (frame_of cab begun id step)
go_on loads cab round id begun None = begin_next loads cab round id begun

-- the message of a download that is sent to a cabinet in this round, with this id
abbrev pub next_frame : List LoadContent → ℕ → ℕ → ℤ → List LoadEvent → Option LoadFrame
next_frame loads cab round id past =
    go_on loads cab round id (begun_by (last_frame past)) (step_due loads cab (last_frame past) (answer past))

-- the events with one more sent message, if there is one
abbrev pub with_frame : Option LoadFrame → List LoadEvent → List LoadEvent
with_frame None past = past
with_frame (Some frame) past = Sent frame ∷ past

-- the note that the load is done, if this step is the finish
abbrev pub done_note : ℕ → ℕ → Step → Option MasterNote
done_note cab load Finish = Some (LoadDone cab load)
done_note cab load _ = None

-- the note about the answer to a sent message: the load is done, or it is refused with the status and the index of
-- the answer
abbrev pub ending_note : Option LoadFrame → Message → Option MasterNote
ending_note None m = None
ending_note (Some frame) m =
    if is_good m then done_note frame.cab frame.load frame.step else Some (LoadRefused frame.cab frame.load m.status m.index)

-- the note, if this message is an answer (`now`) and no answer was received before
abbrev pub note_where : Option Message → Bool → Option MasterNote → Option MasterNote
note_where (Some earlier) now made = None
note_where None true made = made
note_where None false made = None

-- the note about a message that is received: only the first answer to the last sent message makes one
abbrev pub note_of : List LoadEvent → Message → Option MasterNote
note_of past m = note_where (answer past) (answers_frame (last_frame past) m) (ending_note (last_frame past) m)

-- What the master notes of a cabinet has the numbers of a note: the pattern is one of the schedule, the load one of the scenario, and
-- the status and the index of a refusal are those of a message.
use Rattle.std.proofs.Common.{◌≡◌, ◌≤◌, ◌<◌, ◌+◌, ◌-◌, ◌^◌, ◌==◌, ◌&&◌, not, nat_le, ◌++◌, ◌∷◌, [], ℕ, zero, suc, Bool, true, false, if◌then◌else◌, List, length, Option, Some, None, refl, arith}
use Rattle.std.specs.Prelude.{ℤ, IfSome}
use Rattle.std.specs.List.{AllByRecursion, filter, slice_get}
use Rattle.sig_types.specs.declared.notes.MasterNote.{MasterNote}
use Rattle.sig_types.specs.declared.notes.MasterNote.TheVariants.{Fail, Good, LoadRefused}
use Rattle.snmp_msg.specs.declared.message.Message.{Message}
use Rattle.trace_text.specs.IsLine.{FitsNote}
use Rattle.scenario_data.specs.declared.scenario.Entry.{Entry}
use Rattle.scenario_data.specs.Content.{CabinetContent, LoadContent, ScenarioContent}
use Rattle.requests.specs.Requests.{is_good, messages}
use Rattle.master_plan.specs.Schedule.{is_of_section, has_come, later_of, latest, or_else, pattern_of, in_effect, scheduled, master_clock}
use Rattle.master_load.specs.declared.download.Step.{Step}
use Rattle.master_load.specs.declared.download.Step.TheVariants.{Begin, Part, Verify, Finish}
use Rattle.master_load.specs.declared.download.LoadFrame.{LoadFrame}
use Rattle.master_load.specs.Downloads.{loads_of, load_at}
use Rattle.master_load.specs.Loading.{LoadEvent, AnswerTold, last_frame, answers_frame, answer, begin_where, begin_next, begun_by, step_due, go_on, next_frame, with_frame, done_note, ending_note, note_where, note_of}
use Rattle.master_poll.specs.declared.command.Kind.{Kind}
use Rattle.master_poll.specs.declared.command.Kind.TheVariants as kind
use Rattle.master_poll.specs.declared.command.Task.{Task}
use Rattle.master_poll.specs.declared.command.Task.TheVariants.{Pattern as PatternTask, Clock as ClockTask, Poll as PollTask}
use Rattle.master_poll.specs.declared.command.Command.{Command}
use Rattle.master_poll.specs.declared.command.Now.{Now}
use Rattle.master_poll.specs.Commands.{Turn, open_command, to_repeat, ending, gives_up, pattern_in, pattern_where, ended_pattern, acknowledged_by, acknowledged, is_same, unless_same, is_some, failed}
use Rattle.master_poll.specs.Turns.{Plan, kind_of, due_now, first_kind, or_zero, task_now, command_now, told, load_events}
use Rattle.master_poll.specs.Notes.{noted, load_notes, where_made, good_notes, pattern_note, pattern_notes, fail_notes}
use Rattle.master_poll.specs.Sends.{Arrived, plan_of, turn_after, turns, notes_of}
use Rattle.trace_laws.specs.Rounds.{ArrivedIs}
use Rattle.trace_laws.proofs.Read.{HasSmallNumbers}
use Rattle.trace_laws.proofs.OctetRounds.{messages-small}

abbrev AllFit : List MasterNote → Type 0
AllFit notes = AllByRecursion FitsNote notes

both-fit : (xs ys : List MasterNote) → AllFit xs → AllFit ys → AllFit (xs ++ ys)
both-fit [] ys a b = b
both-fit (x ∷ xs) ys a b = (a.0, both-fit xs ys a.1 b)

-- ---- patterns

abbrev IsOctetPattern : Option ℕ → Type 0
IsOctetPattern o = IfSome o (λ n. n < 256)

abbrev EntryFits : Option Entry → Type 0
EntryFits o = IfSome o (λ e. e.pattern < 256)

abbrev AllEntries : List Entry → Type 0
AllEntries entries = AllByRecursion (λ e. e.pattern < 256) entries

later-fits : (e : Entry) (o : Option Entry) → e.pattern < 256 → EntryFits o → EntryFits (later_of e o)
later-fits e None own more = own
later-fits e (Some f) own more = split (nat_le e.second f.second)
  where
    split : (b : Bool) → EntryFits (if b then Some f else Some e)
    split true = more
    split false = own

latest-fits : (entries : List Entry) → AllEntries entries → EntryFits (latest entries)
latest-fits [] all = tt
latest-fits (e ∷ entries) all = later-fits e (latest entries) all.0 (latest-fits entries all.1)

filtered-fit : (test : Entry → Bool) (entries : List Entry) → AllEntries entries → AllEntries (filter test entries)
filtered-fit test [] all = tt
filtered-fit test (e ∷ entries) all = split (filtered-fit test entries all.1) (test e)
  where
    split : AllEntries (filter test entries) → (b : Bool) → AllEntries (if b then e ∷ filter test entries else filter test entries)
    split more true = (all.0, more)
    split more false = more

else-fits : (a b : Option Entry) → EntryFits a → EntryFits b → EntryFits (or_else a b)
else-fits None b p q = q
else-fits (Some e) b p q = p

pattern-fits : (o : Option Entry) → EntryFits o → IsOctetPattern (pattern_of o)
pattern-fits None own = tt
pattern-fits (Some e) own = own

scheduled-fits : (entries : List Entry) (section clock : ℕ) → AllEntries entries → IsOctetPattern (scheduled entries section clock)
scheduled-fits entries section clock all =
    let mine : List Entry = filter (is_of_section section) entries in
    let own : AllEntries mine = filtered-fit (is_of_section section) entries all in
    pattern-fits (in_effect mine clock)
    (else-fits (latest (filter (has_come clock) mine)) (latest mine) (latest-fits (filter (has_come clock) mine) (filtered-fit (has_come clock) mine own)) (latest-fits mine own))

-- ---- commands

abbrev TaskFits : Task → Type 0
TaskFits (PatternTask n) = n < 256
TaskFits (ClockTask time) = Unit {0}
TaskFits PollTask = Unit {0}

abbrev CommandFits : Option Command → Type 0
CommandFits o = IfSome o (λ c. TaskFits c.task)

zero-fits : (o : Option ℕ) → IsOctetPattern o → or_zero o < 256
zero-fits None own = omega arith
zero-fits (Some n) own = own

task-fits : (now : Now) (k : Kind) → IsOctetPattern now.pattern → TaskFits (task_now now k)
task-fits now kind.Pattern own = zero-fits now.pattern own
task-fits now kind.Clock own = tt
task-fits now kind.Poll own = tt

command-fits : (now : Now) (id : ℤ) (again : Option Command) (k : Option Kind) → IsOctetPattern now.pattern → CommandFits (command_now now id again k)
command-fits now id (Some c) k own = task-fits now (kind_of c.task) own
command-fits now id None (Some k) own = task-fits now k own
command-fits now id None None own = tt

where-fits : (b : Bool) (c : Command) → TaskFits c.task → IsOctetPattern (pattern_where b c)
where-fits false c own = tt
where-fits true c own = carried c.task own
  where
    carried : (task : Task) → TaskFits task → IsOctetPattern (pattern_in task)
    carried (PatternTask n) own = own
    carried (ClockTask time) own = tt
    carried PollTask own = tt

ended-fits : (test : Message → Bool) (o : Option Command) (m : Option Message) → CommandFits o → IsOctetPattern (ended_pattern test o m)
ended-fits test (Some c) (Some m) own = where-fits (test m) c own
ended-fits test (Some c) None own = tt
ended-fits test None m own = tt

unless-fits : (before o : Option ℕ) → IsOctetPattern o → IsOctetPattern (unless_same before o)
unless-fits before None own = tt
unless-fits before (Some n) own = split (is_same before n)
  where
    split : (b : Bool) → IsOctetPattern (if b then None else Some n)
    split true = tt
    split false = own

note-fits : (cab : ℕ) (o : Option ℕ) → cab < 2 ^ 32 → IsOctetPattern o → AllFit (pattern_note cab o)
note-fits cab None small own = tt
note-fits cab (Some n) small own = ((small, omega (arith, own)), tt)

made-fits : (b : Bool) (note : MasterNote) → FitsNote note → AllFit (where_made b note)
made-fits true note own = (own, tt)
made-fits false note own = tt

-- ---- loads

-- a frame of one of the loads of a cabinet
record IsLoadFrame (cab : ℕ) (frame : LoadFrame) : Type 0 where
  cabinet : frame.cab ≡ cab
  load : frame.load ≤ 6400

abbrev FramesAre : ℕ → Option LoadFrame → Type 0
FramesAre cab o = IfSome o (IsLoadFrame cab)

begun-few : (cab : ℕ) (o : Option LoadFrame) → FramesAre cab o → begun_by o ≤ 6400
begun-few cab None own = omega arith
begun-few cab (Some frame) own = own.load

kept-few : (cab : ℕ) (loads : List LoadContent) → length (loads_of cab loads) ≤ length loads
kept-few cab [] = omega arith
kept-few cab (l ∷ loads) = split (kept-few cab loads) (l.cabinet == cab)
  where
    split : length (loads_of cab loads) ≤ length loads → (b : Bool) → length (if b then l ∷ loads_of cab loads else loads_of cab loads) ≤ suc (length loads)
    split few true = omega (arith, few)
    split few false = omega (arith, few)

got-few : (loads : List LoadContent) (k : ℕ) → IfSome (slice_get loads k) (λ l. k < length loads)
got-few [] k = tt
got-few (l ∷ loads) zero = omega arith
got-few (l ∷ loads) (suc k) = more (slice_get loads k) (got-few loads k)
  where
    more : (o : Option LoadContent) → IfSome o (λ l. k < length loads) → IfSome o (λ l. suc k < suc (length loads))
    more None few = tt
    more (Some l) few = omega (arith, few)

begin-few : (cab round : ℕ) (id : ℤ) (begun : ℕ) (o : Option LoadContent) → IfSome o (λ l. begun < 6400) → FramesAre cab (begin_where cab round id begun o)
begin-few cab round id begun None few = tt
begin-few cab round id begun (Some l) few = split (nat_le l.round round)
  where
    frame : LoadFrame
    frame = record { cab = cab; load = begun + 1; step = Begin; id = id }

    split : (b : Bool) → FramesAre cab (if b then Some frame else None)
    split true = record { cabinet = refl; load = omega (arith, few) }
    split false = tt

next-few : (loads : List LoadContent) (cab round : ℕ) (id : ℤ) (begun : ℕ) → length loads ≤ 6400 → FramesAre cab (begin_next loads cab round id begun)
next-few loads cab round id begun few =
    begin-few cab round id begun (load_at (loads_of cab loads) (begun + 1)) (more (load_at (loads_of cab loads) (begun + 1)) (got-few (loads_of cab loads) (begun + 1 - 1)))
  where
    more : (o : Option LoadContent) → IfSome o (λ l. begun + 1 - 1 < length (loads_of cab loads)) → IfSome o (λ l. begun < 6400)
    more None low = tt
    more (Some l) low = omega (arith, low, few, kept-few cab loads)

on-few : (loads : List LoadContent) (cab round : ℕ) (id : ℤ) (begun : ℕ) (step : Option Step) → length loads ≤ 6400 → begun ≤ 6400
    → FramesAre cab (go_on loads cab round id begun step)
on-few loads cab round id begun (Some step) few low = record { cabinet = refl; load = low }
on-few loads cab round id begun None few low = next-few loads cab round id begun few

frame-few : (loads : List LoadContent) (cab round : ℕ) (id : ℤ) (past : List LoadEvent) → length loads ≤ 6400 → FramesAre cab (last_frame past)
    → FramesAre cab (next_frame loads cab round id past)
frame-few loads cab round id past few own =
    on-few loads cab round id (begun_by (last_frame past)) (step_due loads cab (last_frame past) (answer past)) few (begun-few cab (last_frame past) own)

told-last : (messages : List Message) (past : List LoadEvent) → last_frame (told messages past) ≡ last_frame past
told-last [] past = refl
told-last (m ∷ messages) past = told-last messages (AnswerTold m ∷ past)

with-few : (cab : ℕ) (o : Option LoadFrame) (past : List LoadEvent) → FramesAre cab o → FramesAre cab (last_frame past) → FramesAre cab (last_frame (with_frame o past))
with-few cab None past own before = before
with-few cab (Some frame) past own before = own

ending-fits : (cab : ℕ) (o : Option LoadFrame) (m : Message) → cab < 2 ^ 32 → FramesAre cab o → HasSmallNumbers m → IfSome (ending_note o m) FitsNote
ending-fits cab None m small own numbers = tt
ending-fits cab (Some frame) m small own numbers = split (is_good m)
  where
    place : frame.cab < 2 ^ 32
    place = omega (arith, own.cabinet, small)

    load : frame.load < 2 ^ 32
    load = omega (arith, own.load)

    done : (step : Step) → IfSome (done_note frame.cab frame.load step) FitsNote
    done Finish = (place, load)
    done Begin = tt
    done (Part k) = tt
    done Verify = tt

    split : (b : Bool) → IfSome (if b then done_note frame.cab frame.load frame.step else Some (LoadRefused frame.cab frame.load m.status m.index)) FitsNote
    split true = done frame.step
    split false = (place, load, numbers.status, numbers.index)

told-fits : (earlier : Option Message) (now : Bool) (made : Option MasterNote) → IfSome made FitsNote → IfSome (note_where earlier now made) FitsNote
told-fits (Some m) now made own = tt
told-fits None true made own = own
told-fits None false made own = tt

noted-fit : (o : Option MasterNote) (others : List MasterNote) → IfSome o FitsNote → AllFit others → AllFit (noted o others)
noted-fit None others own more = more
noted-fit (Some note) others own more = (own, more)

loads-fit : (cab : ℕ) (past : List LoadEvent) (messages : List Message) → cab < 2 ^ 32 → FramesAre cab (last_frame past)
    → AllByRecursion HasSmallNumbers messages → AllFit (load_notes past messages)
loads-fit cab past [] small own all = tt
loads-fit cab past (m ∷ messages) small own all =
    noted-fit (note_of past m) (load_notes (AnswerTold m ∷ past) messages)
    (told-fits (answer past) (answers_frame (last_frame past) m) (ending_note (last_frame past) m) (ending-fits cab (last_frame past) m small own all.0))
    (loads-fit cab (AnswerTold m ∷ past) messages small own all.1)

-- ---- turns

-- what the last of some turns sent
record TurnsFit (cab : ℕ) (past : List Turn) : Type 0 where
  command : CommandFits (open_command past)
  frame : FramesAre cab (last_frame (load_events past))

turns-fit : (s : ScenarioContent) (cab : ℕ) (c : CabinetContent) (arrived : List Arrived) → AllEntries s.master.schedule → length s.loads ≤ 6400
    → TurnsFit cab (turns s cab c arrived)
turns-fit s cab c [] entries few = record { command = tt; frame = tt }
turns-fit s cab c (a ∷ before) entries few =
    let past : List Turn = turns s cab c before in
    let t : Turn = turn_after s cab c a past in
    let plan : Plan = plan_of s cab c (length past + 1) in
    let earlier = turns-fit s cab c before entries few in
    let events : List LoadEvent = told (messages a.loads) (load_events past) in
    let same : FramesAre cab (last_frame events) = rw (told-last (messages a.loads) (load_events past)) earlier.frame in
    record {
      command = command-fits plan.now _ (to_repeat plan.setup.retries past (messages a.polls)) (first_kind (due_now plan past (messages a.polls)) past)
          (scheduled-fits s.master.schedule c.section (master_clock s (length past + 1)) entries);
      frame = with-few cab t.frame events (frame-few s.loads cab plan.now.round _ events few same) same;
    }

-- what is noted at the last of these turns
pub notes-fit : (s : ScenarioContent) (cab : ℕ) (c : CabinetContent) (arrived : List Arrived) → cab < 2 ^ 32 → AllEntries s.master.schedule
    → length s.loads ≤ 6400 → AllByRecursion ArrivedIs arrived → AllFit (notes_of s cab c arrived)
notes-fit s cab c [] small entries few all = tt
notes-fit s cab c (a ∷ before) small entries few all =
    let past : List Turn = turns s cab c before in
    let plan : Plan = plan_of s cab c (length past + 1) in
    let polls : List Message = messages a.polls in
    let loads : List Message = messages a.loads in
    let earlier = turns-fit s cab c before entries few in
    let good : List MasterNote = good_notes plan past polls in
    let patterns : List MasterNote = pattern_notes cab past polls in
    let told_of_loads : List MasterNote = load_notes (load_events past) loads in
    both-fit ((good ++ patterns) ++ told_of_loads) (fail_notes plan past polls)
    (both-fit (good ++ patterns) told_of_loads
    (both-fit good patterns (made-fits (is_some (ending past polls) && failed plan.setup.retries past) (Good cab) small)
    (note-fits cab (unless_same (acknowledged past) (acknowledged_by past polls)) small
    (unless-fits (acknowledged past) (acknowledged_by past polls) (ended-fits is_good (open_command past) (ending past polls) earlier.command))))
    (loads-fit cab (load_events past) loads small earlier.frame (messages-small a.loads all.0.loads)))
    (made-fits (gives_up plan.setup.retries past polls && not (failed plan.setup.retries past)) (Fail cab) small)

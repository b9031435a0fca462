-- Preemption: which preempts are called, and the stages in which one is served (columns after the preempt table of
-- NTCIP 1202; the stages and their rules are this project's own).
use Rattle.std.specs.Prelude.{ℕ, ◌+◌, ◌*◌, ◌==◌, ◌&&◌, ◌||◌, not, max, nat_le, nat_lt, Bool, if◌then◌else◌, List, [], ◌∷◌, Option, Some, None}
use Rattle.sig_types.specs.declared.frame.Field.{Field}
use Rattle.sig_types.specs.declared.frame.Field.TheVariants.{Veh, Ped as Button, Preempt as PreemptInput}
use Rattle.sig_types.specs.declared.frame.Frame.{Frame}
use Rattle.sig_types.specs.declared.frame.Mode.{Mode}
use Rattle.sig_types.specs.declared.frame.Mode.TheVariants.{Entry, Track, Dwell, Exit}
use Rattle.sig_types.specs.Phases.{is_in, has_some, those, first, only, or_else}
use Rattle.sig_types.specs.Colour.{on_in}
use Rattle.sig_tables.specs.declared.tables.Tables.{Tables}
use Rattle.sig_tables.specs.Tables.{listed}
use Rattle.sig_tables.specs.Cells.{preempt_of}
use Rattle.sig_tables.specs.Sums.{every}
use Rattle.sig_tables.specs.Calls.{is_green}
use Rattle.sig_tables.specs.Modes.{same_mode, stage_of}
use Rattle.sig_tables.specs.Past.{Heard, Moment}
use Rattle.sig_tables.specs.Looking.{lasts, lasts_now, last_frame}

-- all preempts, in rising order
abbrev pub all_preempts : List ℕ
all_preempts = 1 ∷ 2 ∷ 3 ∷ 4 ∷ 5 ∷ 6 ∷ 7 ∷ 8 ∷ []

-- the state of preempt i's input after one input, given its state before it
abbrev pub preempt_after : Bool → Field → ℕ → Bool
preempt_after before (Veh q on) i = before
preempt_after before (Button q) i = before
preempt_after before (PreemptInput j on) i = if j == i then on else before

-- the state of preempt i's input after these inputs, given its state before them
abbrev pub preempt_on : Bool → List Heard → ℕ → Bool
preempt_on before [] i = before
preempt_on before (x ∷ heard) i = preempt_after (preempt_on before heard i) x.field i

-- the preempts whose input is on
abbrev pub preempts_on : List Heard → Moment → List ℕ
preempts_on heard m = those (λ i. preempt_on (is_in m.preempts i) heard i) all_preempts

-- the track clearance phases of preempt i
abbrev pub track_set : Tables → ℕ → List ℕ
track_set t i = listed (preempt_of t i).track_phases

-- the dwell phases of preempt i
abbrev pub dwell_set : Tables → ℕ → List ℕ
dwell_set t i = listed (preempt_of t i).dwell_phases

-- the exit phases of preempt i
abbrev pub exit_set : Tables → ℕ → List ℕ
exit_set t i = listed (preempt_of t i).exit_phases

-- the phases that preempt i serves first: its track clearance phases, or its dwell phases if it has no track clearance
-- phases
abbrev pub entry_set : Tables → ℕ → List ℕ
entry_set t i = or_else (track_set t i) (dwell_set t i)

-- the input of preempt i has been on for `ticks` ticks, this one included
abbrev pub has_been_on : ℕ → ℕ → List ℕ → List Moment → Bool
has_been_on ticks i on past = lasts_now ticks (is_in on i) (λ m. is_in m.preempts i) past

-- preempt i is called: it has dwell phases, and its input has been on for longer than its delay. If its maximum
-- presence isn't 0, the input has not been on for longer than the delay and the maximum presence together
abbrev pub is_preempt_called : Tables → List ℕ → List Moment → ℕ → Bool
is_preempt_called t on past i =
    is_in on i && has_some (dwell_set t i) && has_been_on (10 * (preempt_of t i).delay + 1) i on past
    && ((preempt_of t i).maximum_presence == 0
    || not (has_been_on (10 * ((preempt_of t i).delay + (preempt_of t i).maximum_presence) + 1) i on past))

-- the called preempt with the lowest number, or 0
abbrev pub preempt_called : Tables → List ℕ → List Moment → ℕ
preempt_called t on past = only (first (is_preempt_called t on past) all_preempts)

-- the frame has reached a goal: all phases of the goal are Green, and no other phase is on
abbrev pub has_reached : Frame → List ℕ → Bool
has_reached f goal =
    every (is_green f) goal && (on_in f 1 == 0 || is_in goal (on_in f 1)) && (on_in f 2 == 0 || is_in goal (on_in f 2))

-- track clearance of preempt i has lasted its time, at least one tick
abbrev pub is_track_over : Tables → ℕ → List Moment → Bool
is_track_over t i past = lasts (max 1 (10 * (preempt_of t i).track_green)) (λ m. same_mode m.frame.mode (Track i)) past

-- the dwell phases of preempt i have been Green, with no other phase on, for their time, at least one tick
abbrev pub has_dwelt : Tables → ℕ → List Moment → Bool
has_dwelt t i past =
    lasts
    (max 1 (10 * (preempt_of t i).dwell_green))
    (λ m. same_mode m.frame.mode (Dwell i) && has_reached m.frame (dwell_set t i))
    past

-- preempt i has been served for its minimum duration
abbrev pub has_lasted : Tables → ℕ → List Moment → Bool
has_lasted t i past = lasts (10 * (preempt_of t i).minimum_duration) (λ m. stage_of m.frame.mode == i) past

-- the dwell of preempt i is over: its dwell phases have had their time, its minimum duration has passed, and it isn't
-- called
abbrev pub is_dwell_over : Tables → ℕ → List ℕ → List Moment → Bool
is_dwell_over t i on past = not (is_preempt_called t on past i) && has_dwelt t i past && has_lasted t i past

-- the mode of the exit from preempt i, if it has exit phases
abbrev pub exit_from : List ℕ → ℕ → Option Mode
exit_from [] i = None
exit_from (p ∷ ps) i = Some (Exit i)

-- the stage or the exit, if any, that follows a frame of this mode if no preempt breaks in
abbrev pub stage_after : Tables → Mode → List ℕ → List Moment → Option Mode
stage_after t (Entry i) on past =
    if has_reached (last_frame past) (entry_set t i) then (if has_some (track_set t i) then Some (Track i) else Some (Dwell i))
    else Some (Entry i)
stage_after t (Track i) on past = if is_track_over t i past then Some (Dwell i) else Some (Track i)
stage_after t (Dwell i) on past = if is_dwell_over t i on past then exit_from (exit_set t i) i else Some (Dwell i)
stage_after t (Exit i) on past = if has_reached (last_frame past) (exit_set t i) then None else exit_from (exit_set t i) i
stage_after t mode on past = None

-- preempt j breaks into a frame of this mode: into a stage of a preempt only if j has a lower number, into other modes
-- always
abbrev pub breaks_in : ℕ → Mode → Bool
breaks_in j mode = nat_le 1 j && (stage_of mode == 0 || nat_lt j (stage_of mode))

-- the stage or the exit at this tick, if any, given j, the called preempt with the lowest number
abbrev pub stage_with : Tables → ℕ → List ℕ → List Moment → Option Mode
stage_with t j on past =
    if breaks_in j (last_frame past).mode then Some (Entry j) else stage_after t (last_frame past).mode on past

-- the stage or the exit at this tick, if any
abbrev pub stage_now : Tables → List ℕ → List Moment → Option Mode
stage_now t on past = stage_with t (preempt_called t on past) on past

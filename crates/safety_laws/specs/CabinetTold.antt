-- What the lines of a history report: the frame before any tick, each later frame that has a line, and each download
-- with the version that it made.
use Rattle.std.specs.Prelude.{ℕ, ◌+◌, ◌==◌, Bool, if◌then◌else◌, List, [], ◌∷◌, ◌++◌, length, Ok}
use Rattle.sig_types.specs.declared.frame.Frame.{Frame}
use Rattle.sig_tables.specs.declared.tables.Tables.{Tables}
use Rattle.sig_tables.specs.Past.{Event, Tick, Install, Past, History, first_frame}
use Rattle.sig_tables.specs.Looking.{last_frame}
use Rattle.sig_tables.specs.Decide.{frames_in, next_moment, past_of, since_opening}
use Rattle.trace_text.specs.declared.lines.Line.{Line}
use Rattle.trace_text.specs.declared.lines.Line.TheVariants.{F, L}
use Rattle.safety_laws.specs.Safe.{Indications}
use Rattle.safety_laws.specs.Written.{shown_by}

-- a report: what is shown from a tick on, or an accepted download with its version
pub data CabinetTold : Type 0 where
  Shows : (tick : ℕ) (shown : Indications) → CabinetTold
  Loads : (version : ℕ) → CabinetTold

-- the reports in the lines of a cabinet, in order; a refused download isn't reported, and lines of other kinds are
-- ignored
abbrev pub told_in : ℕ → List Line → List CabinetTold
told_in cab [] = []
told_in cab (F c tick veh ped mode counter target version ∷ lines) =
    if c == cab then Shows tick (record { colours = veh; signals = ped; mode = mode; version = version }) ∷ told_in cab lines
    else told_in cab lines
told_in cab (L c id (Ok version) ∷ lines) = if c == cab then Loads version ∷ told_in cab lines else told_in cab lines
told_in cab (_ ∷ lines) = told_in cab lines

-- the report of the next tick's frame, if the frame has a line; its tick is the number of frames before it
abbrev pub frame_told : (Frame → Frame → Bool) → Past → List CabinetTold
frame_told has_line past =
    if has_line (last_frame past.moments) (next_moment past).frame
    then Shows (length (frames_in past.moments)) (shown_by (next_moment past).frame) ∷ [] else []

-- the reports of these events, by a rule that decides which frames have a line
abbrev pub told_of : (Frame → Frame → Bool) → Tables → List Event → List CabinetTold
told_of has_line opening [] = Shows 0 (shown_by first_frame) ∷ []
told_of has_line opening (Tick ∷ events) = told_of has_line opening events ++ frame_told has_line (past_of opening events)
told_of has_line opening (Install t ∷ events) =
    told_of has_line opening events ++ Loads ((past_of opening events).version + 1) ∷ []
told_of has_line opening (_ ∷ events) = told_of has_line opening events

-- the reports of a history
abbrev pub history_told : (Frame → Frame → Bool) → History → List CabinetTold
history_told has_line h = told_of has_line h.tables (since_opening h)

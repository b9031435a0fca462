-- The frames of a history that have a line.
use Rattle.std.proofs.Common.{◌≡◌, ℕ, ◌+◌, ◌≤◌, ◌==◌, Bool, true, false, if◌then◌else◌, List, [], ◌∷◌, ◌++◌, length, Ok, Err, refl, sym, ◌∙◌, ap, subst, arith}
use Rattle.sig_types.specs.declared.frame.Frame.{Frame}
use Rattle.sig_tables.specs.declared.tables.Tables.{Tables}
use Rattle.sig_tables.specs.Past.{Event, Tick, Input, Install, SetPattern, SetClock, SetDrift, Ask, Cancel, History}
use Rattle.sig_tables.specs.Looking.{last_frame}
use Rattle.sig_tables.specs.Decide.{frames, next_moment, past_of, past_at, since_opening}
use Rattle.trace_text.specs.declared.lines.Line.{Line}
use Rattle.trace_text.specs.declared.lines.Line.TheVariants.{S, F, R, M, J, L, A, Z}
use Rattle.safety_laws.specs.Safe.{Indications}
use Rattle.safety_laws.specs.Whole.{downloads}
use Rattle.safety_laws.specs.Written.{shown_by, written}
use Rattle.safety_laws.specs.CabinetTold.{CabinetTold, Shows, Loads, told_in, frame_told, told_of, history_told}
use Rattle.overlap_run.specs.Parents.{Rise, AreFrames}
use Rattle.overlap_run.specs.Trace.{frames_told, frames_written}

told-append : (xs ys : List (ℕ × Frame)) → frames_told (xs ++ ys) ≡ frames_told xs ++ frames_told ys
told-append [] ys = refl
told-append (x ∷ xs) ys = ap (λ (l : List (ℕ × Indications)). (x.0, shown_by x.1) ∷ l) (told-append xs ys)

put-told : (b : Bool) (n : ℕ) (g : Frame) → frames_told (if b then (n, g) ∷ [] else []) ≡ (if b then (n, shown_by g) ∷ [] else [])
put-told true n g = refl
put-told false n g = refl

-- the lines give them
pub written-told : (has_line : Frame → Frame → Bool) (fs : List Frame) → frames_told (frames_written has_line fs) ≡ written has_line fs
written-told has_line [] = refl
written-told has_line (f ∷ []) = refl
written-told has_line (g ∷ f ∷ before) =
    told-append (frames_written has_line (f ∷ before)) (if has_line f g then (length (f ∷ before), g) ∷ [] else [])
    ∙ ap (λ (l : List (ℕ × Indications)). l ++ frames_told (if has_line f g then (length (f ∷ before), g) ∷ [] else [])) (written-told has_line (f ∷ before))
    ∙ ap (λ (l : List (ℕ × Indications)). written has_line (f ∷ before) ++ l) (put-told (has_line f g) (length (f ∷ before)) g)

rise-longer : (first : ℕ) (xs : List (ℕ × Frame)) (end more : ℕ) → end ≤ more → Rise first xs end → Rise first xs more
rise-longer first [] end more h rise = omega (arith, h, rise)
rise-longer first (x ∷ xs) end more h rise = (rise.0, rise-longer (x.0 + 1) xs end more h rise.1)

rise-more : (first : ℕ) (xs : List (ℕ × Frame)) (end : ℕ) (g : Frame) → Rise first xs end → Rise first (xs ++ (end, g) ∷ []) (end + 1)
rise-more first [] end g rise = (rise, omega arith)
rise-more first (x ∷ xs) end g rise = (rise.0, rise-more (x.0 + 1) xs end g rise.1)

frames-more : (xs : List (ℕ × Frame)) (n : ℕ) (g : Frame) (b : Bool) → AreFrames xs n → AreFrames (xs ++ (if b then (n + 1, g) ∷ [] else [])) (n + 1)
frames-more [] n g b are = absurd are
frames-more (x ∷ xs) n g true are = (are.0, rise-more 1 xs (n + 1) g are.1)
frames-more (x ∷ xs) n g false are = (are.0, subst (λ (l : List (ℕ × Frame)). Rise 1 l (n + 1 + 1)) (sym (append-none xs)) (rise-longer 1 xs (n + 1) (n + 1 + 1) (omega arith) are.1))
  where
    append-none : (l : List (ℕ × Frame)) → l ++ [] ≡ l
    append-none [] = refl
    append-none (y ∷ l) = ap (λ (m : List (ℕ × Frame)). y ∷ m) (append-none l)

are-frames : (has_line : Frame → Frame → Bool) (f : Frame) (before : List Frame) → AreFrames (frames_written has_line (f ∷ before)) (length before)
are-frames has_line f [] = (refl, omega arith)
are-frames has_line g (f ∷ before) =
    let one : length before + 1 ≡ length (f ∷ before) = omega arith in
    subst (λ (n : ℕ). AreFrames (frames_written has_line (f ∷ before) ++ (if has_line f g then (n, g) ∷ [] else [])) n) one
    (frames-more (frames_written has_line (f ∷ before)) (length before) g (has_line f g) (are-frames has_line f before))

any-frames : (has_line : Frame → Frame → Bool) (fs : List Frame) (ticks : ℕ) → ticks + 1 ≡ length fs → AreFrames (frames_written has_line fs) ticks
any-frames has_line [] ticks e = absurd (omega (arith, e))
any-frames has_line (f ∷ before) ticks e =
    let same : length before ≡ ticks = omega (arith, e) in
    subst (λ (n : ℕ). AreFrames (frames_written has_line (f ∷ before)) n) same (are-frames has_line f before)

pub history-frames : (h : History) (has_line : Frame → Frame → Bool) (ticks : ℕ) → ticks + 1 ≡ length (frames h) → AreFrames (frames_written has_line (frames h)) ticks
history-frames h has_line ticks e = any-frames has_line (frames h) ticks e

-- the downloads that are reported of
abbrev loads_in : List CabinetTold → ℕ
loads_in [] = 0
loads_in (Shows tick shown ∷ told) = loads_in told
loads_in (Loads version ∷ told) = loads_in told + 1

loads-append : (xs ys : List CabinetTold) → loads_in (xs ++ ys) ≡ loads_in xs + loads_in ys
loads-append [] ys = omega arith
loads-append (Shows tick shown ∷ xs) ys = loads-append xs ys
loads-append (Loads version ∷ xs) ys = let h : loads_in (xs ++ ys) ≡ loads_in xs + loads_in ys = loads-append xs ys in omega (arith, h)

either-shows : (b : Bool) (tick : ℕ) (shown : Indications) (told : List CabinetTold) → loads_in (if b then Shows tick shown ∷ told else told) ≡ loads_in told
either-shows true tick shown told = refl
either-shows false tick shown told = refl

either-loads : (b : Bool) (version : ℕ) (told : List CabinetTold) → loads_in (if b then Loads version ∷ told else told) ≡ (if b then loads_in told + 1 else loads_in told)
either-loads true version told = refl
either-loads false version told = refl

lines-load : (cab : ℕ) (lines : List Line) → loads_in (told_in cab lines) ≡ downloads cab lines
lines-load cab [] = refl
lines-load cab (S json ∷ lines) = lines-load cab lines
lines-load cab (F c tick veh ped mode counter target version ∷ lines) = either-shows (c == cab) tick _ (told_in cab lines) ∙ lines-load cab lines
lines-load cab (R round ∷ lines) = lines-load cab lines
lines-load cab (M note ∷ lines) = lines-load cab lines
lines-load cab (J c runs ∷ lines) = lines-load cab lines
lines-load cab (L c id (Ok version) ∷ lines) =
    either-loads (c == cab) version (told_in cab lines) ∙ ap (λ (n : ℕ). if c == cab then n + 1 else n) (lines-load cab lines)
lines-load cab (L c id (Err fault) ∷ lines) = lines-load cab lines
lines-load cab (A c pass reply ∷ lines) = lines-load cab lines
lines-load cab (Z rounds ∷ lines) = lines-load cab lines

frame-loads : (b : Bool) (n : ℕ) (shown : Indications) → loads_in (if b then Shows n shown ∷ [] else []) ≡ 0
frame-loads true n shown = refl
frame-loads false n shown = refl

none-more : (xs ys : List CabinetTold) (n : ℕ) → loads_in xs ≡ n → loads_in ys ≡ 0 → loads_in (xs ++ ys) ≡ n
none-more xs ys n a b = let h : loads_in (xs ++ ys) ≡ loads_in xs + loads_in ys = loads-append xs ys in omega (arith, h, a, b)

one-more : (xs : List CabinetTold) (version n : ℕ) → loads_in xs ≡ n → loads_in (xs ++ Loads version ∷ []) ≡ n + 1
one-more xs version n a = let h : loads_in (xs ++ Loads version ∷ []) ≡ loads_in xs + 1 = loads-append xs (Loads version ∷ []) in omega (arith, h, a)

events-load : (has_line : Frame → Frame → Bool) (opening : Tables) (events : List Event) → loads_in (told_of has_line opening events) ≡ (past_of opening events).version
events-load has_line opening [] = refl
events-load has_line opening (Tick ∷ events) =
    none-more (told_of has_line opening events) (frame_told has_line (past_of opening events)) (past_of opening events).version (events-load has_line opening events)
    (frame-loads (has_line (last_frame (past_of opening events).moments) (next_moment (past_of opening events)).frame) _ _)
events-load has_line opening (Install t ∷ events) = one-more (told_of has_line opening events) _ _ (events-load has_line opening events)
events-load has_line opening (Input field ∷ events) = events-load has_line opening events
events-load has_line opening (SetPattern n ∷ events) = events-load has_line opening events
events-load has_line opening (SetClock tick ∷ events) = events-load has_line opening events
events-load has_line opening (SetDrift gain lose ∷ events) = events-load has_line opening events
events-load has_line opening (Ask r ∷ events) = events-load has_line opening events
events-load has_line opening (Cancel number ∷ events) = events-load has_line opening events

pub versions-counted : (h : History) (has_line : Frame → Frame → Bool) (cab : ℕ) (lines : List Line) → told_in cab lines ≡ history_told has_line h
    → downloads cab lines ≡ (past_at h).version
versions-counted h has_line cab lines is = sym (lines-load cab lines) ∙ ap loads_in is ∙ events-load has_line h.tables (since_opening h)

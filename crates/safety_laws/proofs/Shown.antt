-- The frames that the lines of a history tell are those of the history.
use Rattle.std.proofs.Common.{◌≡◌, ◌+◌, ◌<◌, ◌==◌, ℕ, Bool, true, false, if◌then◌else◌, List, [], ◌∷◌, ◌++◌, length, Ok, Err, refl, sym, ◌∙◌, ap, arith}
use Rattle.sig_types.specs.declared.frame.Frame.{Frame}
use Rattle.sig_tables.specs.declared.tables.Tables.{Tables}
use Rattle.sig_tables.specs.Past.{Event, Tick, Install, Moment, History}
use Rattle.sig_tables.specs.Looking.{last_frame}
use Rattle.sig_tables.specs.Decide.{frames, frames_in, next_moment, past_of, since_opening}
use Rattle.trace_text.specs.declared.lines.Line.{Line}
use Rattle.trace_text.specs.declared.lines.Line.TheVariants.{S, F, R, M, J, L, A, Z}
use Rattle.rule_facts.specs.Admitted.{Admitted}
use Rattle.rule_facts.proofs.Admitted.{lawful}
use Rattle.safety_laws.specs.Safe.{Indications, Safe, told, intersection_of}
use Rattle.safety_laws.specs.Written.{TellsChanges, shown_by, written, tables_of}
use Rattle.safety_laws.proofs.Versions.{versions}
use Rattle.safety_laws.proofs.History.{history-safe}
use Rattle.safety_laws.specs.CabinetTold.{CabinetTold, Shows, Loads, told_in, frame_told, told_of, history_told}

-- only the frames
abbrev shown_in : List CabinetTold → List (ℕ × Indications)
shown_in [] = []
shown_in (Shows tick shown ∷ rest) = (tick, shown) ∷ shown_in rest
shown_in (Loads version ∷ rest) = shown_in rest

shown-append : (xs ys : List CabinetTold) → shown_in (xs ++ ys) ≡ shown_in xs ++ shown_in ys
shown-append [] ys = refl
shown-append (Shows tick shown ∷ rest) ys = ap (λ (x : List (ℕ × Indications)). (tick, shown) ∷ x) (shown-append rest ys)
shown-append (Loads version ∷ rest) ys = shown-append rest ys

append-none : (xs : List (ℕ × Indications)) → xs ++ [] ≡ xs
append-none [] = refl
append-none (x ∷ xs) = ap (λ (y : List (ℕ × Indications)). x ∷ y) (append-none xs)

-- those of the lines of a cabinet
lines-shown : (cab : ℕ) (lines : List Line) → shown_in (told_in cab lines) ≡ told cab lines
lines-shown cab [] = refl
lines-shown cab (F c tick veh ped mode counter target version ∷ lines) = split (c == cab) (lines-shown cab lines)
  where
    shown : Indications
    shown = record { colours = veh; signals = ped; mode = mode; version = version }

    split : (b : Bool) → shown_in (told_in cab lines) ≡ told cab lines
        → shown_in (if b then Shows tick shown ∷ told_in cab lines else told_in cab lines) ≡ (if b then (tick, shown) ∷ told cab lines else told cab lines)
    split true e = ap (λ (x : List (ℕ × Indications)). (tick, shown) ∷ x) e
    split false e = e
lines-shown cab (L c id (Ok version) ∷ lines) = split (c == cab) (lines-shown cab lines)
  where
    split : (b : Bool) → shown_in (told_in cab lines) ≡ told cab lines
        → shown_in (if b then Loads version ∷ told_in cab lines else told_in cab lines) ≡ told cab lines
    split true e = e
    split false e = e
lines-shown cab (L c id (Err broken) ∷ lines) = lines-shown cab lines
lines-shown cab (S json ∷ lines) = lines-shown cab lines
lines-shown cab (R round ∷ lines) = lines-shown cab lines
lines-shown cab (M note ∷ lines) = lines-shown cab lines
lines-shown cab (J c runs ∷ lines) = lines-shown cab lines
lines-shown cab (A c pass reply ∷ lines) = lines-shown cab lines
lines-shown cab (Z rounds ∷ lines) = lines-shown cab lines

-- one frame more
one-shown : (has_line : Frame → Frame → Bool) (moments : List Moment) (m : Moment) → 0 < length moments
    → written has_line (frames_in (m ∷ moments))
    ≡ written has_line (frames_in moments)
    ++ shown_in (if has_line (last_frame moments) m.frame then Shows (length (frames_in moments)) (shown_by m.frame) ∷ [] else [])
one-shown has_line [] m some = absurd (omega (arith, some))
one-shown has_line (l ∷ earlier) m some =
    ap (λ (x : List (ℕ × Indications)). written has_line (frames_in (l ∷ earlier)) ++ x) (split (has_line l.frame m.frame))
  where
    split : (b : Bool) → (if b then (length (frames_in (l ∷ earlier)), shown_by m.frame) ∷ [] else [])
        ≡ shown_in (if b then Shows (length (frames_in (l ∷ earlier))) (shown_by m.frame) ∷ [] else [])
    split true = refl
    split false = refl

-- those of the events of a history
events-shown : (has_line : Frame → Frame → Bool) (opening : Tables) (events : List Event)
    → shown_in (told_of has_line opening events) ≡ written has_line (frames_in (past_of opening events).moments)
events-shown has_line opening [] = refl
events-shown has_line opening (Tick ∷ events) =
    shown-append (told_of has_line opening events) (frame_told has_line (past_of opening events))
    ∙ ap (λ (x : List (ℕ × Indications)). x ++ shown_in (frame_told has_line (past_of opening events))) (events-shown has_line opening events)
    ∙ sym (one-shown has_line (past_of opening events).moments (next_moment (past_of opening events)) (versions opening events).some)
events-shown has_line opening (Install t ∷ events) =
    shown-append (told_of has_line opening events) (Loads ((past_of opening events).version + 1) ∷ [])
    ∙ append-none (shown_in (told_of has_line opening events)) ∙ events-shown has_line opening events
events-shown has_line opening (_ ∷ events) = events-shown has_line opening events

-- those that lines say, where they give the history
pub lines-show : (cab : ℕ) (lines : List Line) (h : History) (has_line : Frame → Frame → Bool) → told_in cab lines ≡ history_told has_line h
    → told cab lines ≡ written has_line (frames h)
lines-show cab lines h has_line e = sym (lines-shown cab lines) ∙ ap shown_in e ∙ events-shown has_line h.tables (since_opening h)

-- so the street is safe
pub admitted-safe : (h : History) (has_line : Frame → Frame → Bool) (cab : ℕ) (lines : List Line) → Admitted h.tables (since_opening h)
    → TellsChanges has_line → told_in cab lines ≡ history_told has_line h → Safe (intersection_of cab (tables_of h) lines)
admitted-safe h has_line cab lines admitted tells e =
    history-safe h (tables_of h) has_line cab lines (λ version. refl) (lawful h.tables (since_opening h) admitted) tells
    (lines-show cab lines h has_line e)

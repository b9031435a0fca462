-- Each frame line has the number of the downloads before it.
use Rattle.std.proofs.Common.{◌≡◌, ◌+◌, ◌==◌, ℕ, Bool, true, false, if◌then◌else◌, List, [], ◌∷◌, ◌++◌, length, Ok, Err, refl, sym, ◌∙◌, ap, subst, arith}
use Rattle.std.proofs.lemmas.Bool.{eq-eqb}
use Rattle.sig_types.specs.declared.frame.Colour.{Colour}
use Rattle.sig_types.specs.declared.frame.Ped.{Ped}
use Rattle.sig_types.specs.declared.frame.Mode.{Mode}
use Rattle.sig_types.specs.declared.frame.Frame.{Frame}
use Rattle.sig_tables.specs.declared.tables.Tables.{Tables}
use Rattle.sig_tables.specs.Past.{Event, Tick, Install, Past, History}
use Rattle.sig_tables.specs.Looking.{last_frame}
use Rattle.sig_tables.specs.Decide.{frames_in, next_moment, past_of, since_opening}
use Rattle.trace_text.specs.declared.lines.Line.{Line}
use Rattle.trace_text.specs.declared.lines.Line.TheVariants.{S, F, R, M, J, L, A, Z}
use Rattle.safety_laws.specs.Whole.{downloads, Whole}
use Rattle.safety_laws.specs.Written.{shown_by}
use Rattle.safety_laws.specs.CabinetTold.{CabinetTold, Shows, Loads, told_in, frame_told, told_of, history_told}

-- only the downloads, counted
abbrev loads : List CabinetTold → ℕ
loads [] = 0
loads (Shows tick shown ∷ rest) = loads rest
loads (Loads version ∷ rest) = loads rest + 1

-- after that many downloads each frame has the number of those before it, and each download its own
abbrev Counts : ℕ → List CabinetTold → Type 0
Counts n [] = Unit {0}
Counts n (Shows tick shown ∷ rest) = (shown.version ≡ n) × Counts n rest
Counts n (Loads version ∷ rest) = (version ≡ n + 1) × Counts (n + 1) rest

loads-append : (xs ys : List CabinetTold) → loads (xs ++ ys) ≡ loads xs + loads ys
loads-append [] ys = sym (omega arith)
loads-append (Shows tick shown ∷ rest) ys = loads-append rest ys
loads-append (Loads version ∷ rest) ys = let e : loads (rest ++ ys) ≡ loads rest + loads ys = loads-append rest ys in omega (arith, e)

counts-from : (m n : ℕ) (xs : List CabinetTold) → m ≡ n → Counts m xs → Counts n xs
counts-from m n xs e h = subst (λ (k : ℕ). Counts k xs) e h

counts-append : (n : ℕ) (xs ys : List CabinetTold) → Counts n xs → Counts (n + loads xs) ys → Counts n (xs ++ ys)
counts-append n [] ys h k = counts-from (n + 0) n ys (omega arith) k
counts-append n (Shows tick shown ∷ rest) ys h k = (h.0, counts-append n rest ys h.1 k)
counts-append n (Loads version ∷ rest) ys h k =
    (h.0, counts-append (n + 1) rest ys h.1 (counts-from (n + (loads rest + 1)) (n + 1 + loads rest) ys (omega arith) k))

counts-after : (n : ℕ) (xs ys : List CabinetTold) → Counts n (xs ++ ys) → Counts (n + loads xs) ys
counts-after n [] ys h = counts-from n (n + 0) ys (omega arith) h
counts-after n (Shows tick shown ∷ rest) ys h = counts-after n rest ys h.1
counts-after n (Loads version ∷ rest) ys h =
    counts-from (n + 1 + loads rest) (n + (loads rest + 1)) ys (omega arith) (counts-after (n + 1) rest ys h.1)

-- so with the events of a history, whose downloads are as many as its version says
record Counted (version : ℕ) (xs : List CabinetTold) : Type 0 where
  counts : Counts 0 xs
  number : loads xs ≡ version

one-frame : (has_line : Frame → Frame → Bool) (past : Past) (xs : List CabinetTold) → Counted past.version xs → Counted past.version (xs ++ frame_told has_line past)
one-frame has_line past xs c = split (has_line (last_frame past.moments) (next_moment past).frame)
  where
    split : (b : Bool) → Counted past.version (xs ++ (if b then Shows (length (frames_in past.moments)) (shown_by (next_moment past).frame) ∷ [] else []))
    split true = record {
      counts = counts-append 0 xs _ c.counts (let e : loads xs ≡ past.version = c.number in omega arith, tt);
      number =
          let e : loads xs ≡ past.version = c.number in
          let a : loads (xs ++ Shows (length (frames_in past.moments)) (shown_by (next_moment past).frame) ∷ []) ≡ loads xs + 0 = loads-append xs _ in
          omega (arith, e, a);
    }
    split false = record {
      counts = counts-append 0 xs [] c.counts tt;
      number =
          let e : loads xs ≡ past.version = c.number in
          let a : loads (xs ++ []) ≡ loads xs + 0 = loads-append xs [] in
          omega (arith, e, a);
    }

one-load : (version : ℕ) (xs : List CabinetTold) → Counted version xs → Counted (version + 1) (xs ++ Loads (version + 1) ∷ [])
one-load version xs c = record {
  counts = counts-append 0 xs (Loads (version + 1) ∷ []) c.counts (let e : loads xs ≡ version = c.number in omega arith, tt);
  number = loads-append xs (Loads (version + 1) ∷ []) ∙ ap (λ (n : ℕ). n + 1) c.number;
}

events-counted : (has_line : Frame → Frame → Bool) (opening : Tables) (events : List Event)
    → Counted (past_of opening events).version (told_of has_line opening events)
events-counted has_line opening [] = record { counts = (refl, tt); number = refl }
events-counted has_line opening (Tick ∷ events) = one-frame has_line (past_of opening events) _ (events-counted has_line opening events)
events-counted has_line opening (Install t ∷ events) = one-load (past_of opening events).version _ (events-counted has_line opening events)
events-counted has_line opening (_ ∷ events) = events-counted has_line opening events

-- ---- the lines of a cabinet

told-append : (cab : ℕ) (lines more : List Line) → told_in cab (lines ++ more) ≡ told_in cab lines ++ told_in cab more
told-append cab [] more = refl
told-append cab (F c tick veh ped mode counter target version ∷ lines) more = split (c == cab) (told-append cab lines more)
  where
    said : CabinetTold
    said = Shows tick (record { colours = veh; signals = ped; mode = mode; version = version })

    split : (b : Bool) → told_in cab (lines ++ more) ≡ told_in cab lines ++ told_in cab more
        → (if b then said ∷ told_in cab (lines ++ more) else told_in cab (lines ++ more))
        ≡ (if b then said ∷ told_in cab lines else told_in cab lines) ++ told_in cab more
    split true e = ap (λ (x : List CabinetTold). said ∷ x) e
    split false e = e
told-append cab (L c id (Ok version) ∷ lines) more = split (c == cab) (told-append cab lines more)
  where
    split : (b : Bool) → told_in cab (lines ++ more) ≡ told_in cab lines ++ told_in cab more
        → (if b then Loads version ∷ told_in cab (lines ++ more) else told_in cab (lines ++ more))
        ≡ (if b then Loads version ∷ told_in cab lines else told_in cab lines) ++ told_in cab more
    split true e = ap (λ (x : List CabinetTold). Loads version ∷ x) e
    split false e = e
told-append cab (L c id (Err broken) ∷ lines) more = told-append cab lines more
told-append cab (S json ∷ lines) more = told-append cab lines more
told-append cab (R round ∷ lines) more = told-append cab lines more
told-append cab (M note ∷ lines) more = told-append cab lines more
told-append cab (J c runs ∷ lines) more = told-append cab lines more
told-append cab (A c pass reply ∷ lines) more = told-append cab lines more
told-append cab (Z rounds ∷ lines) more = told-append cab lines more

lines-loads : (cab : ℕ) (lines : List Line) → loads (told_in cab lines) ≡ downloads cab lines
lines-loads cab [] = refl
lines-loads cab (F c tick veh ped mode counter target version ∷ lines) = split (c == cab) (lines-loads cab lines)
  where
    split : (b : Bool) → loads (told_in cab lines) ≡ downloads cab lines
        → loads (if b then Shows tick (record { colours = veh; signals = ped; mode = mode; version = version }) ∷ told_in cab lines else told_in cab lines)
        ≡ downloads cab lines
    split true e = e
    split false e = e
lines-loads cab (L c id (Ok version) ∷ lines) = split (c == cab) (lines-loads cab lines)
  where
    split : (b : Bool) → loads (told_in cab lines) ≡ downloads cab lines
        → loads (if b then Loads version ∷ told_in cab lines else told_in cab lines) ≡ (if b then downloads cab lines + 1 else downloads cab lines)
    split true e = ap (λ (n : ℕ). n + 1) e
    split false e = e
lines-loads cab (L c id (Err broken) ∷ lines) = lines-loads cab lines
lines-loads cab (S json ∷ lines) = lines-loads cab lines
lines-loads cab (R round ∷ lines) = lines-loads cab lines
lines-loads cab (M note ∷ lines) = lines-loads cab lines
lines-loads cab (J c runs ∷ lines) = lines-loads cab lines
lines-loads cab (A c pass reply ∷ lines) = lines-loads cab lines
lines-loads cab (Z rounds ∷ lines) = lines-loads cab lines

-- what the lines from one on say, counted by the lines before it
from-line : (cab : ℕ) (lines before rest : List Line) → Counts 0 (told_in cab lines) → lines ≡ before ++ rest → Counts (downloads cab before) (told_in cab rest)
from-line cab lines before rest h e =
    counts-from (0 + loads (told_in cab before)) (downloads cab before) (told_in cab rest)
    (let e : loads (told_in cab before) ≡ downloads cab before = lines-loads cab before in omega arith)
    (counts-after 0 (told_in cab before) (told_in cab rest)
    (subst (λ (x : List CabinetTold). Counts 0 x) (told-append cab before rest) (subst (λ (x : List Line). Counts 0 (told_in cab x)) e h)))

frame-first : (cab tick : ℕ) (veh : List Colour) (ped : List Ped) (mode : Mode) (counter target version : ℕ) (after : List Line)
    → told_in cab (F cab tick veh ped mode counter target version ∷ after)
    ≡ Shows tick (record { colours = veh; signals = ped; mode = mode; version = version }) ∷ told_in cab after
frame-first cab tick veh ped mode counter target version after = let e : (cab == cab) ≡ true = eq-eqb cab cab refl in rw e refl

load-first : (cab id version : ℕ) (after : List Line) → told_in cab (L cab id (Ok version) ∷ after) ≡ Loads version ∷ told_in cab after
load-first cab id version after = let e : (cab == cab) ≡ true = eq-eqb cab cab refl in rw e refl

counted-whole : (cab : ℕ) (lines : List Line) → Counts 0 (told_in cab lines) → Whole cab lines
counted-whole cab lines h = record {
  frames = λ before after tick veh ped mode counter target version e.
      (subst (λ (x : List CabinetTold). Counts (downloads cab before) x) (frame-first cab tick veh ped mode counter target version after)
      (from-line cab lines before (F cab tick veh ped mode counter target version ∷ after) h e)).0;
  loads = λ before after id version e.
      (subst (λ (x : List CabinetTold). Counts (downloads cab before) x) (load-first cab id version after)
      (from-line cab lines before (L cab id (Ok version) ∷ after) h e)).0;
}

-- so the versions of the lines of a history are whole
pub history-whole : (h : History) (has_line : Frame → Frame → Bool) (cab : ℕ) (lines : List Line) → told_in cab lines
    ≡ history_told has_line h → Whole cab lines
history-whole h has_line cab lines e =
    counted-whole cab lines (subst (λ (x : List CabinetTold). Counts 0 x) (sym e) (events-counted has_line h.tables (since_opening h)).counts)

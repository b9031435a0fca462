-- A judge that reads only the short lines of a log finds in them what all lines show.
use Rattle.std.proofs.Common.{◌≡◌, ◌<◌, not, ◌≤◌, ◌+◌, ◌∙◌, ◌==◌, ◌&&◌, nat_le, if◌then◌else◌, ℕ, Bool, true, false, List, [], ◌∷◌, ◌++◌, length, map, filter, get_or, drop, reverse, Option, Some, None, Ok, Err, is_some, unwrap_or, refl, sym, ap, ap₂, subst, arith, append-nil, length-append}
use Rattle.std.specs.List.{AllByRecursion}
use Rattle.std.proofs.lemmas.Bool.{le-leb, lt-leb, leb-true, leb-false}
use Rattle.std.proofs.lemmas.List.{reverse-append}
use Rattle.std.proofs.lemmas.List.Elements.{filter-append}
use Rattle.sig_tables.specs.declared.tables.Tables.{Tables}
use Rattle.sig_tables.specs.declared.cells.Cell.{Cell}
use Rattle.sig_tables.specs.Cells.{Content}
use Rattle.trace_text.specs.declared.lines.Line.{Line}
use Rattle.trace_text.specs.declared.lines.Line.TheVariants.{S, F, R, M, J, L, A, Z}
use Rattle.trace_text.specs.IsLine.{IsLine}
use Rattle.trace_text.specs.Line.{line_text}
use Rattle.safety_laws.specs.Safe.{Indications, told}
use Rattle.safety_laws.specs.TraceText.{AreLines}
use Rattle.safety_laws.specs.Whole.{downloads}
use Rattle.scenario_data.specs.Content.{ScenarioContent}
use Rattle.judge_laws.specs.declared.Terms.{Terms}
use Rattle.judge_laws.specs.declared.Breach.{Breach}
use Rattle.judge_laws.specs.Breaches.{frame_breaches}
use Rattle.judge_laws.specs.TablesTold.{loaded, tables_told, version_told}
use Rattle.judge_laws.proofs.Tests.{funext}
use Rattle.judge_session.specs.Told.{has_cabinet, load_told, opening_at, is_known, tables_before}
use Rattle.judge_session.specs.declared.faults.LineFault.TheVariants.{NoCabinet}
use Rattle.trace_laws.proofs.SameLines.{front, front_ended}
use Rattle.judge_session.proofs.Lengths.{short}
use Rattle.judge_session.specs.Log.{IsJudged, frame_fault, load_fault, fault_of, Follow, ended, short_lines}
use Rattle.judge_session.specs.Report.{log_found}
use Rattle.judged_runs.specs.Faultless.{read_lines}
use Rattle.judged_runs.proofs.NoScenario.{HasNoScenario}

-- a line that is read: a short one without a scenario
abbrev pub is_read : Line → Bool
is_read (S json) = false
is_read line = nat_le (length (line_text line)) 4097

abbrev pub read : List Line → List Line
read lines = filter is_read lines

-- frames and accepted loads are read
abbrev IsTaken : Line → Type 0
IsTaken (F cab tick veh ped mode counter target version) = is_read (F cab tick veh ped mode counter target version) ≡ true
IsTaken (L cab id (Ok version)) = is_read (L cab id (Ok version)) ≡ true
IsTaken _ = Unit {0}

abbrev pub AreTaken : List Line → Type 0
AreTaken [] = Unit {0}
AreTaken (line ∷ lines) = IsTaken line × AreTaken lines

-- a line that is judged is short
short-text : (line : Line) → IsLine line → IsJudged line → nat_le (length (line_text line)) 4097 ≡ true
short-text line is judged =
    let l : length (front line) ≤ 4096 = short (front line) line (record { is = is; text = sym (front_ended line) }) judged in
    let e : length (line_text line) ≡ length (front line) + 1 = ap length (front_ended line) ∙ length-append (front line) (10 ∷ []) in
    le-leb (length (line_text line)) 4097 (omega (arith, l, e))

pub lines-judged : (lines : List Line) → AreLines lines → AreTaken lines
lines-judged [] are = tt
lines-judged (F cab tick veh ped mode counter target version ∷ lines) are = (short-text (F cab tick veh ped mode counter target version) are.0 tt, lines-judged lines are.1)
lines-judged (L cab id (Ok version) ∷ lines) are = (short-text (L cab id (Ok version)) are.0 tt, lines-judged lines are.1)
lines-judged (L cab id (Err broken) ∷ lines) are = (tt, lines-judged lines are.1)
lines-judged (S json ∷ lines) are = (tt, lines-judged lines are.1)
lines-judged (R round ∷ lines) are = (tt, lines-judged lines are.1)
lines-judged (M note ∷ lines) are = (tt, lines-judged lines are.1)
lines-judged (J c runs ∷ lines) are = (tt, lines-judged lines are.1)
lines-judged (A c pass reply ∷ lines) are = (tt, lines-judged lines are.1)
lines-judged (Z rounds ∷ lines) are = (tt, lines-judged lines are.1)

-- what looking back over some lines gives, which ignores a line before which this is the same
ignores : {X : Type 0} (f : List Line → X) (line : Line) → ((back : List Line) → f (line ∷ back) ≡ f back) → (back : List Line) → f (read back) ≡ f back
    → f (read (line ∷ back)) ≡ f (line ∷ back)
ignores f line same back e = split (is_read line)
  where
    split : (b : Bool) → f (if b then line ∷ read back else read back) ≡ f (line ∷ back)
    split true = same (read back) ∙ e ∙ sym (same back)
    split false = e ∙ sym (same back)

-- what the lines of a cabinet say
told-read : (cab : ℕ) (back : List Line) → AreTaken back → told cab (read back) ≡ told cab back
told-read cab [] are = refl
told-read cab (F c tick veh ped mode counter target version ∷ back) are = rw are.0 (split (c == cab) (told-read cab back are.1))
  where
    shown : ℕ × Indications
    shown = (tick, record { colours = veh; signals = ped; mode = mode; version = version })

    split : (b : Bool) → told cab (read back) ≡ told cab back → (if b then shown ∷ told cab (read back) else told cab (read back)) ≡ (if b then shown ∷ told cab back else told cab back)
    split true e = ap (λ (x : List (ℕ × Indications)). shown ∷ x) e
    split false e = e
told-read cab (L c id result ∷ back) are = ignores (told cab) (L c id result) (λ b. refl) back (told-read cab back are.1)
told-read cab (S json ∷ back) are = ignores (told cab) (S json) (λ b. refl) back (told-read cab back are.1)
told-read cab (R round ∷ back) are = ignores (told cab) (R round) (λ b. refl) back (told-read cab back are.1)
told-read cab (M note ∷ back) are = ignores (told cab) (M note) (λ b. refl) back (told-read cab back are.1)
told-read cab (J c runs ∷ back) are = ignores (told cab) (J c runs) (λ b. refl) back (told-read cab back are.1)
told-read cab (A c pass reply ∷ back) are = ignores (told cab) (A c pass reply) (λ b. refl) back (told-read cab back are.1)
told-read cab (Z rounds ∷ back) are = ignores (told cab) (Z rounds) (λ b. refl) back (told-read cab back are.1)

downloads-read : (cab : ℕ) (back : List Line) → AreTaken back → downloads cab (read back) ≡ downloads cab back
downloads-read cab [] are = refl
downloads-read cab (L c id (Ok version) ∷ back) are = rw are.0 (split (c == cab) (downloads-read cab back are.1))
  where
    split : (b : Bool) → downloads cab (read back) ≡ downloads cab back → (if b then downloads cab (read back) + 1 else downloads cab (read back)) ≡ (if b then downloads cab back + 1 else downloads cab back)
    split true e = ap (λ (n : ℕ). n + 1) e
    split false e = e
downloads-read cab (L c id (Err broken) ∷ back) are = ignores (downloads cab) (L c id (Err broken)) (λ b. refl) back (downloads-read cab back are.1)
downloads-read cab (F c tick veh ped mode counter target version ∷ back) are =
    ignores (downloads cab) (F c tick veh ped mode counter target version) (λ b. refl) back (downloads-read cab back are.1)
downloads-read cab (S json ∷ back) are = ignores (downloads cab) (S json) (λ b. refl) back (downloads-read cab back are.1)
downloads-read cab (R round ∷ back) are = ignores (downloads cab) (R round) (λ b. refl) back (downloads-read cab back are.1)
downloads-read cab (M note ∷ back) are = ignores (downloads cab) (M note) (λ b. refl) back (downloads-read cab back are.1)
downloads-read cab (J c runs ∷ back) are = ignores (downloads cab) (J c runs) (λ b. refl) back (downloads-read cab back are.1)
downloads-read cab (A c pass reply ∷ back) are = ignores (downloads cab) (A c pass reply) (λ b. refl) back (downloads-read cab back are.1)
downloads-read cab (Z rounds ∷ back) are = ignores (downloads cab) (Z rounds) (λ b. refl) back (downloads-read cab back are.1)

module _ (load : ℕ → Option (List (Cell × Content))) (opening : Tables) (cab : ℕ) where
  tables-read : (back : List Line) → AreTaken back → tables_told load opening cab (read back) ≡ tables_told load opening cab back
  tables-read [] are = refl
  tables-read (L c id (Ok version) ∷ back) are = rw are.0 (split (c == cab) (tables-read back are.1))
    where
      split : (b : Bool) → tables_told load opening cab (read back) ≡ tables_told load opening cab back
          → (if b then loaded (load id) (tables_told load opening cab (read back)) else tables_told load opening cab (read back))
          ≡ (if b then loaded (load id) (tables_told load opening cab back) else tables_told load opening cab back)
      split true e = ap (loaded (load id)) e
      split false e = e
  tables-read (L c id (Err broken) ∷ back) are = ignores (tables_told load opening cab) (L c id (Err broken)) (λ b. refl) back (tables-read back are.1)
  tables-read (F c tick veh ped mode counter target version ∷ back) are =
      ignores (tables_told load opening cab) (F c tick veh ped mode counter target version) (λ b. refl) back (tables-read back are.1)
  tables-read (S json ∷ back) are = ignores (tables_told load opening cab) (S json) (λ b. refl) back (tables-read back are.1)
  tables-read (R round ∷ back) are = ignores (tables_told load opening cab) (R round) (λ b. refl) back (tables-read back are.1)
  tables-read (M note ∷ back) are = ignores (tables_told load opening cab) (M note) (λ b. refl) back (tables-read back are.1)
  tables-read (J c runs ∷ back) are = ignores (tables_told load opening cab) (J c runs) (λ b. refl) back (tables-read back are.1)
  tables-read (A c pass reply ∷ back) are = ignores (tables_told load opening cab) (A c pass reply) (λ b. refl) back (tables-read back are.1)
  tables-read (Z rounds ∷ back) are = ignores (tables_told load opening cab) (Z rounds) (λ b. refl) back (tables-read back are.1)

  abbrev told_at : ℕ → List Line → Option Tables
  told_at version back = version_told load opening cab back version

  version-read : (version : ℕ) (back : List Line) → AreTaken back → version_told load opening cab (read back) version ≡ version_told load opening cab back version
  version-read version [] are = refl
  version-read version (L c id (Ok made) ∷ back) are =
      rw (are.0, downloads-read cab back are.1) (split (c == cab && version == downloads cab back + 1) (tables-read back are.1) (version-read version back are.1))
    where
      split : (b : Bool) → tables_told load opening cab (read back) ≡ tables_told load opening cab back
          → version_told load opening cab (read back) version ≡ version_told load opening cab back version
          → (if b then loaded (load id) (tables_told load opening cab (read back)) else version_told load opening cab (read back) version)
          ≡ (if b then loaded (load id) (tables_told load opening cab back) else version_told load opening cab back version)
      split true e f = ap (loaded (load id)) e
      split false e f = f
  version-read version (L c id (Err broken) ∷ back) are = ignores (told_at version) (L c id (Err broken)) (λ b. refl) back (version-read version back are.1)
  version-read version (F c tick veh ped mode counter target made ∷ back) are =
      ignores (told_at version) (F c tick veh ped mode counter target made) (λ b. refl) back (version-read version back are.1)
  version-read version (S json ∷ back) are = ignores (told_at version) (S json) (λ b. refl) back (version-read version back are.1)
  version-read version (R round ∷ back) are = ignores (told_at version) (R round) (λ b. refl) back (version-read version back are.1)
  version-read version (M note ∷ back) are = ignores (told_at version) (M note) (λ b. refl) back (version-read version back are.1)
  version-read version (J c runs ∷ back) are = ignores (told_at version) (J c runs) (λ b. refl) back (version-read version back are.1)
  version-read version (A c pass reply ∷ back) are = ignores (told_at version) (A c pass reply) (λ b. refl) back (version-read version back are.1)
  version-read version (Z rounds ∷ back) are = ignores (told_at version) (Z rounds) (λ b. refl) back (version-read version back are.1)

module _ (s : ScenarioContent) where
  pub known-read : (cab : ℕ) (back : List Line) → AreTaken back → is_known s cab (read back) ≡ is_known s cab back
  known-read cab back are = ap is_some (tables-read (load_told s cab) (opening_at s cab) cab back are)

  before-read : (cab : ℕ) (back : List Line) → AreTaken back → tables_before s (read back) cab ≡ tables_before s back cab
  before-read cab back are =
      funext (tables_before s (read back) cab) (tables_before s back cab)
      (λ version. ap (λ (t : Option Tables). unwrap_or t (opening_at s cab)) (version-read (load_told s cab) (opening_at s cab) cab version back are))

  -- ---- each line follows, and shows the same

  frame-same : (cab tick version : ℕ) (back : List Line) → AreTaken back
      → (if not (has_cabinet s cab) then Some NoCabinet else frame_fault tick version cab (read back))
      ≡ (if not (has_cabinet s cab) then Some NoCabinet else frame_fault tick version cab back)
  frame-same cab tick version back are = rw (told-read cab back are, downloads-read cab back are) refl

  load-same : (cab version : ℕ) (back : List Line) → AreTaken back
      → (if not (has_cabinet s cab) then Some NoCabinet else load_fault version cab (read back))
      ≡ (if not (has_cabinet s cab) then Some NoCabinet else load_fault version cab back)
  load-same cab version back are = rw (downloads-read cab back are) refl

  others-follow : (line : Line) (back : List Line) → ((before : List Line) → fault_of s before line ≡ None) → Follow s (read back) → Follow s (read (line ∷ back))
  others-follow line back never f = split (is_read line)
    where
      split : (b : Bool) → Follow s (if b then line ∷ read back else read back)
      split true = (never (read back), f)
      split false = f

  pub follow-read : (back : List Line) → AreTaken back → Follow s back → Follow s (read back)
  follow-read [] are f = tt
  follow-read (F c tick veh ped mode counter target version ∷ back) are f =
      rw are.0 (frame-same c tick version back are.1 ∙ f.0, follow-read back are.1 f.1)
  follow-read (L c id (Ok version) ∷ back) are f = rw are.0 (load-same c version back are.1 ∙ f.0, follow-read back are.1 f.1)
  follow-read (L c id (Err broken) ∷ back) are f = others-follow (L c id (Err broken)) back (λ b. refl) (follow-read back are.1 f.1)
  follow-read (S json ∷ back) are f = others-follow (S json) back (λ b. refl) (follow-read back are.1 f.1)
  follow-read (R round ∷ back) are f = others-follow (R round) back (λ b. refl) (follow-read back are.1 f.1)
  follow-read (M note ∷ back) are f = others-follow (M note) back (λ b. refl) (follow-read back are.1 f.1)
  follow-read (J c runs ∷ back) are f = others-follow (J c runs) back (λ b. refl) (follow-read back are.1 f.1)
  follow-read (A c pass reply ∷ back) are f = others-follow (A c pass reply) back (λ b. refl) (follow-read back are.1 f.1)
  follow-read (Z rounds ∷ back) are f = others-follow (Z rounds) back (λ b. refl) (follow-read back are.1 f.1)

  module _ (terms : Terms) where
    -- what a frame shows, by what is known before it
    abbrev shown_by : ℕ → ℕ × Indications → Bool → (ℕ → Tables) → List (ℕ × Indications) → List Breach
    shown_by c x known tables older = if known then frame_breaches terms c tables older x else []

    shown-same : (c : ℕ) (x : ℕ × Indications) (back : List Line) → AreTaken back
        → shown_by c x (is_known s c (read back)) (tables_before s (read back) c) (told c (read back))
        ≡ shown_by c x (is_known s c back) (tables_before s back c) (told c back)
    shown-same c x back are =
        ap (λ (b : Bool). shown_by c x b (tables_before s (read back) c) (told c (read back))) (known-read c back are)
        ∙ ap (λ (t : ℕ → Tables). shown_by c x (is_known s c back) t (told c (read back))) (before-read c back are)
        ∙ ap (shown_by c x (is_known s c back) (tables_before s back c)) (told-read c back are)

    no-more : (xs : List Breach) → xs ++ [] ≡ xs
    no-more [] = refl
    no-more (x ∷ xs) = ap (λ (y : List Breach). x ∷ y) (no-more xs)

    pub found-read : (back : List Line) → AreTaken back → log_found s terms (read back) ≡ log_found s terms back
    found-read [] are = refl
    found-read (F c tick veh ped mode counter target version ∷ back) are =
        rw are.0
        (ap₂ (λ (x : List Breach) (y : List Breach). x ++ y) (found-read back are.1)
        (shown-same c (tick, record { colours = veh; signals = ped; mode = mode; version = version }) back are.1))
    found-read (L c id result ∷ back) are = ignores (log_found s terms) (L c id result) (λ b. no-more (log_found s terms b)) back (found-read back are.1)
    found-read (S json ∷ back) are = ignores (log_found s terms) (S json) (λ b. no-more (log_found s terms b)) back (found-read back are.1)
    found-read (R round ∷ back) are = ignores (log_found s terms) (R round) (λ b. no-more (log_found s terms b)) back (found-read back are.1)
    found-read (M note ∷ back) are = ignores (log_found s terms) (M note) (λ b. no-more (log_found s terms b)) back (found-read back are.1)
    found-read (J c runs ∷ back) are = ignores (log_found s terms) (J c runs) (λ b. no-more (log_found s terms b)) back (found-read back are.1)
    found-read (A c pass reply ∷ back) are = ignores (log_found s terms) (A c pass reply) (λ b. no-more (log_found s terms b)) back (found-read back are.1)
    found-read (Z rounds ∷ back) are = ignores (log_found s terms) (Z rounds) (λ b. no-more (log_found s terms b)) back (found-read back are.1)

-- ---- the bytes of the lines

short-same : (bytes : List ℕ) (line : Line) → ended bytes ≡ line_text line → nat_le (length bytes) 4096 ≡ nat_le (length (line_text line)) 4097
short-same bytes line e = next (length bytes) ∙ ap (λ (n : ℕ). nat_le n 4097) (sym (length-append bytes (10 ∷ [])) ∙ ap length e)
  where
    next : (n : ℕ) → nat_le n 4096 ≡ nat_le (n + 1) 4097
    next n = split (nat_le n 4096) refl
      where
        split : (b : Bool) → nat_le n 4096 ≡ b → b ≡ nat_le (n + 1) 4097
        split true e = sym (le-leb (n + 1) 4097 (let l : n ≤ 4096 = leb-true n 4096 e in omega (arith, l)))
        split false e = sym (lt-leb (n + 1) 4097 (let l : 4096 < n = leb-false n 4096 e in omega (arith, l)))

front-same : (x y : List ℕ) (xs ys : List (List ℕ)) → x ∷ xs ≡ y ∷ ys → (x ≡ y) × (xs ≡ ys)
front-same x y xs ys e = (ap (λ (l : List (List ℕ)). get_or l 0 []) e, ap (λ (l : List (List ℕ)). drop 1 l) e)

pub bytes-read : (bytes : List (List ℕ)) (lines : List Line) → map ended bytes ≡ map line_text lines → map ended (short_lines bytes) ≡ map line_text (read_lines lines)
bytes-read [] [] e = refl
bytes-read [] (line ∷ lines) e = absurd (let n : 0 ≡ length (map line_text (line ∷ lines)) = ap length e in omega (arith, n))
bytes-read (b ∷ bytes) [] e = absurd (let n : length (map ended (b ∷ bytes)) ≡ 0 = ap length e in omega (arith, n))
bytes-read (b ∷ bytes) (line ∷ lines) e =
    let both = front-same (ended b) (line_text line) (map ended bytes) (map line_text lines) e in
    rw (short-same b line both.0) (split both.0 (nat_le (length (line_text line)) 4097) (bytes-read bytes lines both.1))
  where
    split : ended b ≡ line_text line → (k : Bool) → map ended (short_lines bytes) ≡ map line_text (read_lines lines)
        → map ended (if k then b ∷ short_lines bytes else short_lines bytes) ≡ map line_text (if k then line ∷ read_lines lines else read_lines lines)
    split first true h = ap₂ (λ (x : List ℕ) (y : List (List ℕ)). x ∷ y) first h
    split first false h = h

pub lines-read : (lines : List Line) → AreLines lines → AreLines (read_lines lines)
lines-read [] are = tt
lines-read (line ∷ lines) are = split (nat_le (length (line_text line)) 4097) (lines-read lines are.1)
  where
    split : (b : Bool) → AreLines (read_lines lines) → AreLines (if b then line ∷ read_lines lines else read_lines lines)
    split true rest = (are.0, rest)
    split false rest = rest

lines-both : (xs ys : List Line) → AreLines xs → AreLines ys → AreLines (xs ++ ys)
lines-both [] ys a b = b
lines-both (x ∷ xs) ys a b = (a.0, lines-both xs ys a.1 b)

pub lines-reversed : (lines : List Line) → AreLines lines → AreLines (reverse lines)
lines-reversed [] are = tt
lines-reversed (line ∷ lines) are =
    subst AreLines (sym (reverse-append (line ∷ []) lines)) (lines-both (reverse lines) (line ∷ []) (lines-reversed lines are.1) (are.0, tt))

-- ---- the lines without a scenario

pub read-same : (lines : List Line) → AllByRecursion HasNoScenario lines → read lines ≡ read_lines lines
read-same [] none = refl
read-same (line ∷ lines) none = rw (same line none.0, read-same lines none.1) refl
  where
    same : (line : Line) → HasNoScenario line → is_read line ≡ nat_le (length (line_text line)) 4097
    same (S json) none = absurd none
    same (F c tick veh ped mode counter target version) none = refl
    same (L c id result) none = refl
    same (R round) none = refl
    same (M note) none = refl
    same (J c runs) none = refl
    same (A c pass reply) none = refl
    same (Z rounds) none = refl

pub filter-reverse : (p : Line → Bool) (lines : List Line) → filter p (reverse lines) ≡ reverse (filter p lines)
filter-reverse p [] = refl
filter-reverse p (line ∷ lines) =
    ap (filter p) (reverse-append (line ∷ []) lines) ∙ filter-append p (reverse lines) (line ∷ [])
    ∙ ap (λ (x : List Line). x ++ filter p (line ∷ [])) (filter-reverse p lines)
    ∙ split (p line)
  where
    split : (b : Bool) → reverse (filter p lines) ++ (if b then line ∷ [] else []) ≡ reverse (if b then line ∷ filter p lines else filter p lines)
    split true = sym (reverse-append (line ∷ []) (filter p lines))
    split false = append-nil (reverse (filter p lines))

-- The tables of a log stay known: judged line by line, by the tables told until then, a log shows the breaches that it shows by the
-- tables told in the end.
use Rattle.std.proofs.Common.{◌≡◌, ◌≤◌, ◌+◌, ◌∙◌, ◌==◌, ◌&&◌, ◌||◌, nat_lt, not, ℕ, Bool, true, false, if◌then◌else◌, List, [], ◌∷◌, ◌++◌, Option, Some, None, Ok, Err, is_some, unwrap_or, reverse, refl, sym, ap, subst, arith}
use Rattle.std.proofs.lemmas.Bool.{eqb-true, ltb-true}
use Rattle.std.proofs.lemmas.List.{reverse-reverse}
use Rattle.sig_types.specs.declared.frame.Colour.TheVariants.{Green, Yellow, Clear}
use Rattle.sig_types.specs.declared.frame.Ped.TheVariants.{Walk, Flash, Dont}
use Rattle.sig_types.specs.Phases.{all_phases}
use Rattle.sig_tables.specs.declared.cells.Cell.{Cell}
use Rattle.sig_tables.specs.Cells.{Content}
use Rattle.sig_tables.specs.declared.tables.Tables.{Tables}
use Rattle.sig_tables.specs.Tables.{least_green, yellow_time, red_clear_time, walk_time, pedestrian_clear_time}
use Rattle.trace_text.specs.declared.lines.Line.{Line}
use Rattle.trace_text.specs.declared.lines.Line.TheVariants.{S, R, M, J, A, F, L, Z}
use Rattle.safety_laws.specs.Safe.{Indications, told, makes_way_for, green_due, walk_due, clearance_due}
use Rattle.safety_laws.specs.Whole.{downloads}
use Rattle.scenario_data.specs.Content.{ScenarioContent}
use Rattle.judge_laws.specs.declared.Terms.{Terms}
use Rattle.judge_laws.specs.declared.Breach.{Breach}
use Rattle.judge_laws.specs.declared.Clause.TheVariants.{Apart, Order, Clearance, ShortGreen, Pedestrian, OnGreen}
use Rattle.judge_laws.specs.Joined.{knows_last, saw_beginning}
use Rattle.judge_laws.specs.Breaches.{exact, newest, first_of, ends, ends_wrong, lasts_at_least, lasts_at_most, yellow_lasts, clear_lasts, green_lasts, walk_lasts, flash_lasts, shows, gives, are_together, is_lit_off, is_out_of_order, ends_clearance_wrong, ends_green_wrong, ends_walk_wrong, breach_at, found, each, phase_breaches, frame_breaches, line_breaches, breaches_back, breaches, Below, Falls, Rising}
use Rattle.judge_laws.specs.TablesTold.{loaded, tables_told, version_told}
use Rattle.judge_laws.proofs.Judged.{judged}
use Rattle.judge_session.specs.Told.{has_cabinet, load_told, opening_at, in_force_told, is_known, tables_before}
use Rattle.judge_session.specs.Log.{is_later, fault_of, Follow}
use Rattle.judge_session.specs.Report.{line_found, log_found}
use Rattle.judge_session.specs.Streets.{AllKnown, AllSafe}

-- the versions that a cabinet's lines have are at most this one
abbrev pub AtMost : ℕ → List (ℕ × Indications) → Type 0
AtMost n [] = Unit {0}
AtMost n (line ∷ older) = (line.1.version ≤ n) × AtMost n older

more_at_most : (n m : ℕ) (older : List (ℕ × Indications)) → n ≤ m → AtMost n older → AtMost m older
more_at_most n m [] few all = tt
more_at_most n m (line ∷ older) few (here, all) = (let below : line.1.version ≤ n = here in omega (arith, below, few), more_at_most n m older few all)

-- so has the line at which an interval began
first_at_most : (n : ℕ) (holds : Indications → Bool) (older : List (ℕ × Indications)) → AtMost n older → (first_of holds older).1.version ≤ n
first_at_most n holds [] all = omega arith
first_at_most n holds (line ∷ older) (here, all) = split (holds (newest older)) (first_at_most n holds older all)
  where
    split : (b : Bool) → (first_of holds older).1.version ≤ n → (if b then first_of holds older else line).1.version ≤ n
    split true before = before
    split false before = here

each_same : (of by : ℕ → List Breach) → ((p : ℕ) → of p ≡ by p) → (phases : List ℕ) → each of phases ≡ each by phases
each_same of by same [] = refl
each_same of by same (p ∷ phases) = ap (λ (xs : List Breach). xs ++ each of phases) (same p) ∙ ap (λ (xs : List Breach). by p ++ xs) (each_same of by same phases)

-- tables that agree on the versions that are shown give the same breaches
module _ (terms : Terms) (cab : ℕ) (tables other : ℕ → Tables) (n : ℕ) (alike : (version : ℕ) → version ≤ n → tables version ≡ other version)
    (older : List (ℕ × Indications)) (all : AtMost n older) (line : ℕ × Indications) (here : line.1.version ≤ n)
  where
    at_end : tables line.1.version ≡ other line.1.version
    at_end = alike line.1.version here

    at_first : (holds : Indications → Bool) → tables (first_of holds older).1.version ≡ other (first_of holds older).1.version
    at_first holds = alike (first_of holds older).1.version (first_at_most n holds older all)

    ends_same : (holds : Indications → Bool) (lasts still : ℕ × Indications → ℕ × Indications → Bool) → lasts (first_of holds older) line ≡ still (first_of holds older) line
        → ends_wrong terms.joined holds lasts older line ≡ ends_wrong terms.joined holds still older line
    ends_same holds lasts still e = ap (λ (b : Bool). ends holds older line && saw_beginning terms.joined holds older && not b) e

    -- an interval whose time is exact
    timed : (time : Tables → ℕ) (holds : Indications → Bool)
        → (lasts_at_least terms.tolerance (time (tables (first_of holds older).1.version)) (first_of holds older) line
        && lasts_at_most terms.tolerance (time (tables (first_of holds older).1.version)) (first_of holds older) line)
        ≡ (lasts_at_least terms.tolerance (time (other (first_of holds older).1.version)) (first_of holds older) line
        && lasts_at_most terms.tolerance (time (other (first_of holds older).1.version)) (first_of holds older) line)
    timed time holds =
        ap (λ (t : Tables). lasts_at_least terms.tolerance (time t) (first_of holds older) line && lasts_at_most terms.tolerance (time t) (first_of holds older) line) (at_first holds)

    clearance_same : (p : ℕ) → ends_clearance_wrong terms tables p older line ≡ ends_clearance_wrong terms other p older line
    clearance_same p =
        ap (λ (b : Bool). b || ends_wrong terms.joined (shows Clear p) (clear_lasts terms.tolerance tables p) older line)
        (ends_same (shows Yellow p) (yellow_lasts terms.tolerance tables p) (yellow_lasts terms.tolerance other p) (timed (λ t. yellow_time t p) (shows Yellow p)))
        ∙ ap (λ (b : Bool). ends_wrong terms.joined (shows Yellow p) (yellow_lasts terms.tolerance other p) older line || b)
        (ends_same (shows Clear p) (clear_lasts terms.tolerance tables p) (clear_lasts terms.tolerance other p) (timed (λ t. red_clear_time t p) (shows Clear p)))

    green_same : (p : ℕ) → ends_green_wrong terms tables p older line ≡ ends_green_wrong terms other p older line
    green_same p =
        let first = first_of (shows Green p) older in
        ends_same (shows Green p) (green_lasts terms.tolerance tables p) (green_lasts terms.tolerance other p)
        (ap (λ (t : Tables). lasts_at_least terms.tolerance (green_due (makes_way_for t line.1.mode p) (least_green (tables first.1.version) p)) first line) at_end
        ∙ ap (λ (t : Tables). lasts_at_least terms.tolerance (green_due (makes_way_for (other line.1.version) line.1.mode p) (least_green t p)) first line) (at_first (shows Green p)))

    walk_same : (p : ℕ) → ends_walk_wrong terms tables p older line ≡ ends_walk_wrong terms other p older line
    walk_same p =
        let walk = first_of (gives Walk p) older in
        let flash = first_of (gives Flash p) older in
        ap (λ (b : Bool). b || ends_wrong terms.joined (gives Flash p) (flash_lasts terms.tolerance tables p) older line)
        (ends_same (gives Walk p) (walk_lasts terms.tolerance tables p) (walk_lasts terms.tolerance other p)
        (ap (λ (t : Tables). lasts_at_least terms.tolerance (walk_due (makes_way_for t line.1.mode p) (walk_time (tables walk.1.version) p)) walk line
        && lasts_at_most terms.tolerance (walk_time (tables walk.1.version) p) walk line) at_end
        ∙ ap (λ (t : Tables). lasts_at_least terms.tolerance (walk_due (makes_way_for (other line.1.version) line.1.mode p) (walk_time t p)) walk line
        && lasts_at_most terms.tolerance (walk_time t p) walk line) (at_first (gives Walk p))))
        ∙ ap (λ (b : Bool). ends_wrong terms.joined (gives Walk p) (walk_lasts terms.tolerance other p) older line || b)
        (ends_same (gives Flash p) (flash_lasts terms.tolerance tables p) (flash_lasts terms.tolerance other p)
        (ap (λ (t : Tables). lasts_at_least terms.tolerance (clearance_due (makes_way_for t line.1.mode p) (pedestrian_clear_time (tables flash.1.version) p)) flash line
        && lasts_at_most terms.tolerance (pedestrian_clear_time (tables flash.1.version) p) flash line) at_end
        ∙ ap (λ (t : Tables). lasts_at_least terms.tolerance (clearance_due (makes_way_for (other line.1.version) line.1.mode p) (pedestrian_clear_time t p)) flash line
        && lasts_at_most terms.tolerance (pedestrian_clear_time t p) flash line) (at_first (gives Flash p))))

    -- the breaches of phase p by what is found, and by the tables of the line
    abbrev listed : ℕ → Tables → Bool → Bool → Bool → List Breach
    listed p t clearance green walk =
        each (λ q. found (nat_lt p q && are_together t line.1 p q) (breach_at cab line.0 Apart p q)) all_phases
        ++ (found (is_lit_off t line.1 p) (breach_at cab line.0 Apart p 0)
        ++ (found (nat_lt 0 line.0 && knows_last terms.joined older && is_out_of_order t (newest older) line.1 p) (breach_at cab line.0 Order p 0)
        ++ (found clearance (breach_at cab line.0 Clearance p 0)
        ++ (found green (breach_at cab line.0 ShortGreen p 0)
        ++ (found walk (breach_at cab line.0 Pedestrian p 0)
        ++ found (not (gives Dont p line.1 || shows Green p line.1)) (breach_at cab line.0 OnGreen p 0))))))

    phase_same : (p : ℕ) → phase_breaches terms cab tables older line p ≡ phase_breaches terms cab other older line p
    phase_same p =
        ap (λ (t : Tables). listed p t (ends_clearance_wrong terms tables p older line) (ends_green_wrong terms tables p older line) (ends_walk_wrong terms tables p older line)) at_end
        ∙ (ap (λ (b : Bool). listed p (other line.1.version) b (ends_green_wrong terms tables p older line) (ends_walk_wrong terms tables p older line)) (clearance_same p)
        ∙ (ap (λ (b : Bool). listed p (other line.1.version) (ends_clearance_wrong terms other p older line) b (ends_walk_wrong terms tables p older line)) (green_same p)
        ∙ ap (λ (b : Bool). listed p (other line.1.version) (ends_clearance_wrong terms other p older line) (ends_green_wrong terms other p older line) b) (walk_same p)))

    pub frame_same : frame_breaches terms cab tables older line ≡ frame_breaches terms cab other older line
    frame_same = each_same (phase_breaches terms cab tables older line) (phase_breaches terms cab other older line) phase_same all_phases

-- a further line changes the tables of no version that is there
pub stays : (load : ℕ → Option (List (Cell × Content))) (opening : Tables) (cab : ℕ) (line : Line) (before : List Line) (version : ℕ) → version ≤ downloads cab before
    → version_told load opening cab (line ∷ before) version ≡ version_told load opening cab before version
stays load opening cab (L c id (Ok made)) before version few =
    split (c == cab) (version == downloads cab before + 1) (eqb-above version (downloads cab before) few)
  where
    eqb-above : (v n : ℕ) → v ≤ n → (v == n + 1) ≡ false
    eqb-above v n less = not_true (v == n + 1) (λ yes. let same : v ≡ n + 1 = eqb-true v (n + 1) yes in omega (arith, same, less))
      where
        not_true : (b : Bool) → (b ≡ true → ⊥) → b ≡ false
        not_true true never = absurd (never refl)
        not_true false never = refl

    split : (is last : Bool) → last ≡ false
        → (if is && last then loaded (load id) (tables_told load opening cab before) else version_told load opening cab before version) ≡ version_told load opening cab before version
    split true last e = rw e refl
    split false last e = refl
stays load opening cab (L c id (Err e)) before version few = refl
stays load opening cab (S json) before version few = refl
stays load opening cab (F c tick veh ped mode counter target v) before version few = refl
stays load opening cab (R n) before version few = refl
stays load opening cab (M note) before version few = refl
stays load opening cab (J c runs) before version few = refl
stays load opening cab (A c pass hex) before version few = refl
stays load opening cab (Z n) before version few = refl

downloads_rise : (cab : ℕ) (line : Line) (before : List Line) → downloads cab before ≤ downloads cab (line ∷ before)
downloads_rise cab (L c id (Ok made)) before = split (c == cab)
  where
    split : (b : Bool) → downloads cab before ≤ (if b then downloads cab before + 1 else downloads cab before)
    split true = omega arith
    split false = omega arith
downloads_rise cab (L c id (Err e)) before = omega arith
downloads_rise cab (S json) before = omega arith
downloads_rise cab (F c tick veh ped mode counter target v) before = omega arith
downloads_rise cab (R n) before = omega arith
downloads_rise cab (M note) before = omega arith
downloads_rise cab (J c runs) before = omega arith
downloads_rise cab (A c pass hex) before = omega arith
downloads_rise cab (Z n) before = omega arith

-- three tests that all hold
three_hold : {X : Type 0} (x y z : X) (a b c : Bool) → (if not a then Some x else if not b then Some y else if not c then Some z else None) ≡ None
    → (b ≡ true) × (c ≡ true)
three_hold x y z true true true e = (refl, refl)
three_hold x y z true true false e = absurd (cc)
three_hold x y z true false c e = absurd (cc)
three_hold x y z false b c e = absurd (cc)

is_below : (tick : ℕ) (older : List (ℕ × Indications)) → is_later tick older ≡ true → Below tick older
is_below tick [] later = tt
is_below tick (line ∷ older) later = ltb-true line.0 tick later

-- the ticks of lines that follow one another fall, and their versions are at most the number of accepted loads
pub falls : (s : ScenarioContent) (cab : ℕ) (before : List Line) → Follow s before → Falls (told cab before) × AtMost (downloads cab before) (told cab before)
falls s cab [] follow = (tt, tt)
falls s cab (F c tick veh ped mode counter target version ∷ before) (first, rest) = split (c == cab) refl (falls s cab before rest)
  where
    split : (b : Bool) → (c == cab) ≡ b → Falls (told cab before) × AtMost (downloads cab before) (told cab before)
        → Falls (if b then (tick, record { colours = veh; signals = ped; mode = mode; version = version }) ∷ told cab before else told cab before)
        × AtMost (downloads cab before) (if b then (tick, record { colours = veh; signals = ped; mode = mode; version = version }) ∷ told cab before else told cab before)
    split true is known =
        let both = three_hold _ _ _ (has_cabinet s c) (is_later tick (told c before)) (version == downloads c before) first in
        let same : c ≡ cab = eqb-true c cab is in
        let last : version ≡ downloads c before = eqb-true version (downloads c before) both.1 in
        let few : version ≤ downloads cab before = subst (λ (x : ℕ). version ≤ downloads x before) same (omega (arith, last)) in (
          (subst (λ (x : ℕ). Below tick (told x before)) same (is_below tick (told c before) both.0), known.0),
          (few, known.1),
        )
    split false is known = known
falls s cab (L c id (Ok made) ∷ before) (first, rest) =
    let known = falls s cab before rest in
    (known.0, more_at_most (downloads cab before) (downloads cab (L c id (Ok made) ∷ before)) (told cab before) (downloads_rise cab (L c id (Ok made)) before) known.1)
falls s cab (L c id (Err e) ∷ before) (first, rest) = falls s cab before rest
falls s cab (S json ∷ before) (first, rest) = falls s cab before rest
falls s cab (R n ∷ before) (first, rest) = falls s cab before rest
falls s cab (M note ∷ before) (first, rest) = falls s cab before rest
falls s cab (J c runs ∷ before) (first, rest) = falls s cab before rest
falls s cab (A c pass hex ∷ before) (first, rest) = falls s cab before rest
falls s cab (Z n ∷ before) (first, rest) = falls s cab before rest

-- tables that are known after a line were known before it
loaded_some : (is : Bool) (cells : Option (List (Cell × Content))) (t : Option Tables) → is_some (if is then loaded cells t else t) ≡ true → is_some t ≡ true
loaded_some true (Some cells) (Some t) known = refl
loaded_some true (Some cells) None known = absurd (cc)
loaded_some true None (Some t) known = refl
loaded_some true None None known = absurd (cc)
loaded_some false cells t known = known

pub known_before : (s : ScenarioContent) (cab : ℕ) (line : Line) (before : List Line) → is_known s cab (line ∷ before) ≡ true → is_known s cab before ≡ true
known_before s cab (L c id (Ok made)) before known = loaded_some (c == cab) (load_told s cab id) (in_force_told s cab before) known
known_before s cab (L c id (Err e)) before known = known
known_before s cab (S json) before known = known
known_before s cab (F c tick veh ped mode counter target v) before known = known
known_before s cab (R n) before known = known
known_before s cab (M note) before known = known
known_before s cab (J c runs) before known = known
known_before s cab (A c pass hex) before known = known
known_before s cab (Z n) before known = known

-- the breaches of a line by the tables told until then are those by tables that agree with them
line_same : (s : ScenarioContent) (terms : Terms) (tables : ℕ → ℕ → Tables) (before : List Line) (line : Line) → Follow s before → fault_of s before line ≡ None
    → AllKnown s before → ((cab version : ℕ) → version ≤ downloads cab before → tables cab version ≡ tables_before s before cab version)
    → line_breaches terms tables before line ≡ line_found s terms before line
line_same s terms tables before (F c tick veh ped mode counter target version) follow none known alike =
    let both = three_hold _ _ _ (has_cabinet s c) (is_later tick (told c before)) (version == downloads c before) none in
    let last : version ≡ downloads c before = eqb-true version (downloads c before) both.1 in
    rw (known c)
    (frame_same terms c (tables c) (tables_before s before c) (downloads c before) (alike c) (told c before) (falls s c before follow).1
    (tick, record { colours = veh; signals = ped; mode = mode; version = version }) (omega (arith, last)))
line_same s terms tables before (L c id (Ok made)) follow none known alike = refl
line_same s terms tables before (L c id (Err e)) follow none known alike = refl
line_same s terms tables before (S json) follow none known alike = refl
line_same s terms tables before (R n) follow none known alike = refl
line_same s terms tables before (M note) follow none known alike = refl
line_same s terms tables before (J c runs) follow none known alike = refl
line_same s terms tables before (A c pass hex) follow none known alike = refl
line_same s terms tables before (Z n) follow none known alike = refl

found_same : (s : ScenarioContent) (terms : Terms) (tables : ℕ → ℕ → Tables) (before : List Line) → Follow s before → AllKnown s before
    → ((cab version : ℕ) → version ≤ downloads cab before → tables cab version ≡ tables_before s before cab version)
    → breaches_back terms tables before ≡ log_found s terms before
found_same s terms tables [] follow known alike = refl
found_same s terms tables (line ∷ before) (none, follow) known alike =
    let earlier : AllKnown s before = λ cab. known_before s cab line before (known cab) in
    let same : (cab version : ℕ) → version ≤ downloads cab before → tables cab version ≡ tables_before s before cab version =
    λ cab version few.
    let more : downloads cab before ≤ downloads cab (line ∷ before) = downloads_rise cab line before in
    alike cab version (omega (arith, few, more))
    ∙ ap (λ (o : Option Tables). unwrap_or o (opening_at s cab)) (stays (load_told s cab) (opening_at s cab) cab line before version few) in
    ap (λ (xs : List Breach). xs ++ line_breaches terms tables before line) (found_same s terms tables before follow earlier same)
    ∙ ap (λ (xs : List Breach). log_found s terms before ++ xs) (line_same s terms tables before line follow none earlier same)

-- a log with known tables shows no breach, to the tick and from tick 0 on, exactly if the street of each cabinet is safe
module _ (s : ScenarioContent) (before : List Line) (follow : Follow s before) (known : AllKnown s before) where
  in_the_end : breaches exact (tables_before s before) (reverse before) ≡ log_found s exact before
  in_the_end =
      ap (breaches_back exact (tables_before s before)) (reverse-reverse before)
      ∙ found_same s exact (tables_before s before) before follow known (λ cab version few. refl)

  rising : (cab : ℕ) → Rising cab (reverse before)
  rising cab = subst (λ (lines : List Line). Falls (told cab lines)) (sym (reverse-reverse before)) (falls s cab before follow).0

  pub safe_of_none : log_found s exact before ≡ [] → AllSafe s before
  safe_of_none none = (judged (tables_before s before) (reverse before) rising).0 (in_the_end ∙ none)

  pub none_of_safe : AllSafe s before → log_found s exact before ≡ []
  none_of_safe safe = sym in_the_end ∙ (judged (tables_before s before) (reverse before) rising).1 safe

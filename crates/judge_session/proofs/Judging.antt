-- What is kept of a log, one line after another.
use Rattle.std.proofs.Common.{◌≡◌, ◌≢◌, ◌∙◌, ℕ, ◌+◌, ◌-◌, ◌<◌, ◌≤◌, ◌==◌, ◌&&◌, not, zero, suc, Bool, true, false, if◌then◌else◌, List, [], ◌∷◌, ◌++◌, length, get_or, slice_set, max, Option, Some, None, is_none, option_map, map, slice_get, Ok, Err, sym, ap, refl, arith, subst, inl, inr, append-nil, length-set, get_or-set_same, get_or-set_other}
use Rattle.std.proofs.lemmas.Bool.{eqb-true, false≢true, cases_lt}
use Rattle.std.proofs.lemmas.Bool.Decides.{eqb_tells}
use Rattle.std.proofs.lemmas.List.{length-append, get_or_append_left}
use Rattle.std.proofs.Math.Seq.{get_or-append_seam}
use Rattle.std.proofs.lemmas.Option.{slice_get-map}
use Rattle.sig_types.specs.declared.frame.Colour.{Colour}
use Rattle.sig_types.specs.declared.frame.Ped.{Ped}
use Rattle.sig_types.specs.declared.frame.Mode.{Mode}
use Rattle.trace_text.specs.declared.lines.Line.{Line}
use Rattle.trace_text.specs.declared.lines.Line.TheVariants.{S, F, R, M, J, L, A, Z}
use Rattle.safety_laws.specs.Safe.{told}
use Rattle.safety_laws.specs.Whole.{downloads}
use Rattle.scenario_data.specs.declared.scenario.Cabinet.{Cabinet}
use Rattle.scenario_data.specs.Content.{ScenarioContent, scenario_content, cabinet_content}
use Rattle.scenario_data.specs.Opening.{opening_tables}
use Rattle.judge_laws.specs.declared.Terms.{Terms}
use Rattle.judge_laws.specs.declared.Breach.{Breach}
use Rattle.judge_laws.specs.Overrun.{last_tick}
use Rattle.judge_session.specs.declared.faults.LineFault.{LineFault}
use Rattle.judge_session.specs.declared.faults.LineFault.TheVariants.{NotALine, NoCabinet, NotLater, FrameVersion, LoadVersion}
use Rattle.judge_session.specs.declared.watch.CabinetWatch.{CabinetWatch}
use Rattle.judge_session.specs.declared.log.LogJudge.{LogJudge}
use Rattle.sig_tables.specs.declared.cells.Cell.{Cell}
use Rattle.sig_tables.specs.Cells.{Content}
use Rattle.judge_session.specs.Told.{has_cabinet, load_told, is_known, opening_or}
use Rattle.judge_session.specs.Log.{IsRead, IsFault, fault_of, frame_fault, load_fault, is_later}
use Rattle.judge_session.specs.Report.{line_found, log_found, breaches_text, unknown_by, unknown_text, numbers_from}
use Rattle.judge_session.specs.Standing.{WatchStands, JudgeStands, FollowsOn, Adds}
use Rattle.judge_session.proofs.Watching.{other-frame, other-load}

pub not-same : (a b : ℕ) → a ≢ b → (a == b) ≡ false
not-same a b ne = elim (eqb_tells a b) [
  | inl same ↦ absurd (ne same.1)
  | inr other ↦ other.0
]

-- a line of which nothing is judged: no frame, and no accepted load
abbrev pub IsSilent : Line → Type 0
IsSilent (F cab tick veh ped mode counter target version) = ⊥
IsSilent (L cab id (Ok version)) = ⊥
IsSilent _ = Unit {0}

module _ (j : LogJudge) (s : ScenarioContent) (terms : Terms) (before : List Line) (text : List ℕ) where
  -- the line shows no breach, and all that is kept stands after it
  stays : (line : Line) → fault_of s before line ≡ None → line_found s terms before line ≡ [] → unknown_by s before line ≡ []
      → last_tick (line ∷ before) ≡ last_tick before
      → ((cab : ℕ) (w : CabinetWatch) → WatchStands w s terms.joined cab before → WatchStands w s terms.joined cab (line ∷ before))
      → JudgeStands j s terms before → FollowsOn j s terms before line text text
  stays line fault none quiet tick each so = record {
    follows = fault;
    report = sym (ap (λ (t : List ℕ). text ++ (t ++ unknown_by s before line)) (ap breaches_text none) ∙ ap (λ (t : List ℕ). text ++ t) quiet ∙ append-nil text);
    stands = record {
      scenario = so.scenario;
      by = so.by;
      few = so.few;
      many = so.many;
      each = λ k w below. each (k + 1) (get_or j.cabinets.items k w) (so.each k w below);
      last = so.last ∙ sym tick;
      breaches = so.breaches ∙ sym (ap (λ (x : List Breach). length (log_found s terms before ++ x)) none ∙ ap (λ (x : List Breach). length x) (append-nil (log_found s terms before)));
    };
  }

  pub passes : (line : Line) → IsSilent line → JudgeStands j s terms before → FollowsOn j s terms before line text text
  passes (F cab tick veh ped mode counter target version) h so = absurd h
  passes (L cab id (Ok version)) h so = absurd h
  passes (S json) h so = stays (S json) refl refl refl refl
      (λ cab w o. record { version = o.version; last = o.last; known = o.known; in_force = o.in_force; judged = o.judged }) so
  passes (R round) h so = stays (R round) refl refl refl refl
      (λ cab w o. record { version = o.version; last = o.last; known = o.known; in_force = o.in_force; judged = o.judged }) so
  passes (M note) h so = stays (M note) refl refl refl refl
      (λ cab w o. record { version = o.version; last = o.last; known = o.known; in_force = o.in_force; judged = o.judged }) so
  passes (J c runs) h so = stays (J c runs) refl refl refl refl
      (λ cab w o. record { version = o.version; last = o.last; known = o.known; in_force = o.in_force; judged = o.judged }) so
  passes (A c pass reply) h so = stays (A c pass reply) refl refl refl refl
      (λ cab w o. record { version = o.version; last = o.last; known = o.known; in_force = o.in_force; judged = o.judged }) so
  passes (Z rounds) h so = stays (Z rounds) refl refl refl refl
      (λ cab w o. record { version = o.version; last = o.last; known = o.known; in_force = o.in_force; judged = o.judged }) so
  passes (L c id (Err broken)) h so = stays (L c id (Err broken)) refl refl refl refl
      (λ cab w o. record { version = o.version; last = o.last; known = o.known; in_force = o.in_force; judged = o.judged }) so

-- a line of the cabinet at place k: the others are as they were
module _ (j new : LogJudge) (s : ScenarioContent) (terms : Terms) (before : List Line) (line : Line) (k : ℕ) (was now : CabinetWatch) where
  pub one-more : JudgeStands j s terms before → k < length s.cabinets → new.cabinets.items ≡ slice_set j.cabinets.items k now
      → WatchStands now s terms.joined (k + 1) (line ∷ before)
      → ((cab : ℕ) (w : CabinetWatch) → (k + 1 == cab) ≡ false → WatchStands w s terms.joined cab before → WatchStands w s terms.joined cab (line ∷ before))
      → (i : ℕ) (w : CabinetWatch) → i < length s.cabinets → WatchStands (get_or new.cabinets.items i w) s terms.joined (i + 1) (line ∷ before)
  one-more so below set own others i w few = elim (eqb_tells i k) [
    | inl same ↦
        let e : i ≡ k = same.1 in
        let place : k < length j.cabinets.items = omega (arith, below, so.many) in
        subst (λ (xs : List CabinetWatch). WatchStands (get_or xs i w) s terms.joined (i + 1) (line ∷ before)) (sym set)
        (rw e (rw (get_or-set_same) own))
    | inr other ↦
        let ne : i ≢ k = other.1 in
        let apart : (k + 1 == i + 1) ≡ false = not-same (k + 1) (i + 1) (λ e. ne (omega (arith, e))) in
        subst (λ (xs : List CabinetWatch). WatchStands (get_or xs i w) s terms.joined (i + 1) (line ∷ before)) (sym set)
        (rw get_or-set_other (others (i + 1) (get_or j.cabinets.items i w) apart (so.each i w few)))
  ]

-- what is kept of the cabinet at place k
pub here : (j : LogJudge) (s : ScenarioContent) (terms : Terms) (before : List Line) (k cab : ℕ) (w : CabinetWatch) → JudgeStands j s terms before → k + 1 ≡ cab
    → k < length s.cabinets → w ≡ get_or j.cabinets.items k w → WatchStands w s terms.joined cab before
here j s terms before k cab w so e below is =
    subst (λ (n : ℕ). WatchStands w s terms.joined n before) e (subst (λ (x : CabinetWatch). WatchStands x s terms.joined (k + 1) before) (sym is) (so.each k w below))

-- a frame that can follow
pub frame-follows : (j new : LogJudge) (s : ScenarioContent) (terms : Terms) (before : List Line) (k cab : ℕ) (now : CabinetWatch) (old_text text : List ℕ)
    (tick : ℕ) (veh : List Colour) (ped : List Ped) (mode : Mode) (counter target version : ℕ)
    → k + 1 ≡ cab → JudgeStands j s terms before → k < length s.cabinets → new.cabinets.items ≡ slice_set j.cabinets.items k now
    → new.scenario ≡ j.scenario → new.terms ≡ j.terms → new.last ≡ max tick j.last
    → fault_of s before (F cab tick veh ped mode counter target version) ≡ None
    → Adds old_text text j.breaches new.breaches (line_found s terms before (F cab tick veh ped mode counter target version))
    → WatchStands now s terms.joined cab (F cab tick veh ped mode counter target version ∷ before)
    → FollowsOn new s terms before (F cab tick veh ped mode counter target version) old_text text
frame-follows j new s terms before k cab now old_text text tick veh ped mode counter target version e so below set sc te la fault adds own = record {
  follows = fault;
  report = adds.appended ∙ ap (λ (t : List ℕ). old_text ++ t) (sym (append-nil (breaches_text (line_found s terms before (F cab tick veh ped mode counter target version)))));
  stands = record {
    scenario = ap scenario_content sc ∙ so.scenario;
    by = te ∙ so.by;
    few = so.few;
    many = ap (λ (xs : List CabinetWatch). length xs) set ∙ length-set _ _ _ ∙ so.many;
    each = one-more j new s terms before (F cab tick veh ped mode counter target version) k now now so below set
        (subst (λ (n : ℕ). WatchStands now s terms.joined n (F cab tick veh ped mode counter target version ∷ before)) (sym e) own)
        (λ other w apart o. other-frame w s terms.joined other before cab tick veh ped mode counter target version (subst (λ (n : ℕ). (n == other) ≡ false) e apart) o);
    last = la ∙ ap (λ (n : ℕ). max tick n) so.last;
    breaches = omega (arith, adds.counted, so.breaches, length-append (log_found s terms before) (line_found s terms before (F cab tick veh ped mode counter target version)));
  };
}

-- an accepted load that can follow
pub load-follows : (j new : LogJudge) (s : ScenarioContent) (terms : Terms) (before : List Line) (k cab : ℕ) (now : CabinetWatch) (old_text text : List ℕ)
    (id version : ℕ)
    → k + 1 ≡ cab → JudgeStands j s terms before → k < length s.cabinets → new.cabinets.items ≡ slice_set j.cabinets.items k now
    → new.scenario ≡ j.scenario → new.terms ≡ j.terms → new.last ≡ j.last → new.breaches ≡ j.breaches
    → fault_of s before (L cab id (Ok version)) ≡ None
    → text ≡ old_text ++ unknown_by s before (L cab id (Ok version))
    → WatchStands now s terms.joined cab (L cab id (Ok version) ∷ before)
    → FollowsOn new s terms before (L cab id (Ok version)) old_text text
load-follows j new s terms before k cab now old_text text id version e so below set sc te la br fault told own = record {
  follows = fault;
  report = told;
  stands = record {
    scenario = ap scenario_content sc ∙ so.scenario;
    by = te ∙ so.by;
    few = so.few;
    many = ap (λ (xs : List CabinetWatch). length xs) set ∙ length-set _ _ _ ∙ so.many;
    each = one-more j new s terms before (L cab id (Ok version)) k now now so below set
        (subst (λ (n : ℕ). WatchStands now s terms.joined n (L cab id (Ok version) ∷ before)) (sym e) own)
        (λ other w apart o. other-load w s terms.joined other before cab id version (subst (λ (n : ℕ). (n == other) ≡ false) e apart) o);
    last = la ∙ so.last;
    breaches = br ∙ so.breaches ∙ sym (ap (λ (x : List Breach). length x) (append-nil (log_found s terms before)));
  };
}

-- why a line of a cabinet that the scenario has can't follow
pub frame-none : (s : ScenarioContent) (before : List Line) (cab tick : ℕ) (veh : List Colour) (ped : List Ped) (mode : Mode) (counter target version : ℕ)
    → has_cabinet s cab ≡ true → fault_of s before (F cab tick veh ped mode counter target version) ≡ frame_fault tick version cab before
frame-none s before cab tick veh ped mode counter target version e = rw e refl

pub load-none : (s : ScenarioContent) (before : List Line) (cab id version : ℕ) → has_cabinet s cab ≡ true
    → fault_of s before (L cab id (Ok version)) ≡ load_fault version cab before
load-none s before cab id version e = rw e refl

-- the version of a line that can follow
pub frame-version : (tick version cab : ℕ) (before : List Line) → frame_fault tick version cab before ≡ None → version ≡ downloads cab before
frame-version tick version cab before h = split (is_later tick (told cab before)) (version == downloads cab before) refl h
  where
    split : (a b : Bool) → (version == downloads cab before) ≡ b
        → (if not a then Some NotLater else if not b then Some FrameVersion else None) ≡ None → version ≡ downloads cab before
    split true true e g = eqb-true version (downloads cab before) e
    split true false e g = absurd (cc)
    split false b e g = absurd (cc)

pub load-version : (version cab : ℕ) (before : List Line) → load_fault version cab before ≡ None → version ≡ downloads cab before + 1
load-version version cab before h = split (version == downloads cab before + 1) refl h
  where
    split : (b : Bool) → (version == downloads cab before + 1) ≡ b
        → (if not b then Some LoadVersion else None) ≡ None → version ≡ downloads cab before + 1
    split true e g = eqb-true version (downloads cab before + 1) e
    split false e g = absurd (cc)

-- nothing is reported of a load that the scenario has
pub has-load : (s : ScenarioContent) (before : List Line) (cab id version : ℕ) (cells : List (Cell × Content)) → load_told s cab id ≡ Some cells
    → unknown_by s before (L cab id (Ok version)) ≡ []
has-load s before cab id version cells e = split (is_known s cab before) (is_none (load_told s cab id)) (ap is_none e)
  where
    split : (a b : Bool) → b ≡ false → (if a && b then unknown_text cab id else []) ≡ []
    split true false h = refl
    split false false h = refl
    split a true h = absurd (false≢true (sym h))

-- a line of a trace is not refused as none
pub is-line : (s : ScenarioContent) (before : List Line) (line : Line) → fault_of s before line ≡ Some NotALine → ⊥
is-line s before (F cab tick veh ped mode counter target version) h = split (has_cabinet s cab) (is_later tick (told cab before)) (version == downloads cab before) h
  where
    split : (a b c : Bool) → (if not a then Some NoCabinet else if not b then Some NotLater else if not c then Some FrameVersion else None) ≡ Some NotALine → ⊥
    split false b c e = absurd (cc)
    split true false c e = absurd (cc)
    split true true false e = absurd (cc)
    split true true true e = absurd (cc)
is-line s before (L cab id (Ok version)) h = split (has_cabinet s cab) (version == downloads cab before + 1) h
  where
    split : (a b : Bool) → (if not a then Some NoCabinet else if not b then Some LoadVersion else None) ≡ Some NotALine → ⊥
    split false b e = absurd (cc)
    split true false e = absurd (cc)
    split true true e = absurd (cc)
is-line s before (L cab id (Err broken)) h = absurd (cc)
is-line s before (S json) h = absurd (cc)
is-line s before (R round) h = absurd (cc)
is-line s before (M note) h = absurd (cc)
is-line s before (J c runs) h = absurd (cc)
is-line s before (A c pass reply) h = absurd (cc)
is-line s before (Z rounds) h = absurd (cc)

-- why a line of a trace can't follow
pub is-fault : (s : ScenarioContent) (before : List Line) (bytes : List ℕ) (line : Line) (fault : LineFault) → IsRead bytes line
    → fault_of s before line ≡ Some fault → IsFault s before bytes fault
is-fault s before bytes line NotALine r h = absurd (is-line s before line h)
is-fault s before bytes line NoCabinet r h = (line, r, h)
is-fault s before bytes line NotLater r h = (line, r, h)
is-fault s before bytes line FrameVersion r h = (line, r, h)
is-fault s before bytes line LoadVersion r h = (line, r, h)

-- one cabinet more before any line
pub opened-more : (s : ScenarioContent) (joined : Bool) (ws : List CabinetWatch) (new : CabinetWatch) (n : ℕ) → length ws ≡ n
    → ((k : ℕ) (w : CabinetWatch) → k < n → WatchStands (get_or ws k w) s joined (k + 1) []) → WatchStands new s joined (n + 1) []
    → (k : ℕ) (w : CabinetWatch) → k < n + 1 → WatchStands (get_or (ws ++ new ∷ []) k w) s joined (k + 1) []
opened-more s joined ws new n many old own k w below = elim (cases_lt k n) [
  | inl low ↦
      let fits : k < length ws = omega (arith, low, many) in
      subst (λ (x : CabinetWatch). WatchStands x s joined (k + 1) []) (sym (get_or_append_left ws (new ∷ []) w k fits)) (old k w low)
  | inr high ↦
      let e : n ≡ k = omega (arith, high, below) in
      let f : length ws ≡ k = omega (arith, high, below, many) in
      subst (λ (x : CabinetWatch). WatchStands x s joined (k + 1) [])
      (sym (ap (λ (i : ℕ). get_or (ws ++ new ∷ []) i w) (sym f) ∙ get_or-append_seam ws new [] w))
      (subst (λ (i : ℕ). WatchStands new s joined (i + 1) []) e own)
]

-- the tables that a cabinet opens with
get-some : (xs : List Cabinet) (n : ℕ) (c : Cabinet) → n < length xs → c ≡ get_or xs n c → slice_get xs n ≡ Some c
get-some [] n c below e = absurd (omega (arith, below))
get-some (x ∷ xs) zero c below e = ap Some (sym e)
get-some (x ∷ xs) (suc n) c below e = get-some xs n c (omega (arith, below)) e

pub opening-is : (xs : List Cabinet) (n : ℕ) (c : Cabinet) → n < length xs → c ≡ get_or xs n c
    → opening_or (slice_get (map cabinet_content xs) (n + 1 - 1)) ≡ opening_tables (cabinet_content c)
opening-is xs n c below e =
    let f : n + 1 - 1 ≡ n = omega arith in
    ap (λ (i : ℕ). opening_or (slice_get (map cabinet_content xs) i)) f
    ∙ ap opening_or (slice_get-map cabinet_content xs n ∙ ap (λ (o : Option Cabinet). option_map cabinet_content o) (get-some xs n c below e))

-- the numbers of the cabinets from a place on
pub numbers-next : (k n : ℕ) → k < n → numbers_from (k + 1) (n - k) ≡ (k + 1) ∷ numbers_from (k + 1 + 1) (n - (k + 1))
numbers-next k n below = let e : n - k ≡ suc (n - (k + 1)) = omega (arith, below) in rw e refl

pub numbers-none : (k n : ℕ) → n ≤ k → numbers_from (k + 1) (n - k) ≡ []
numbers-none k n all = let e : n - k ≡ 0 = omega (arith, all) in rw e refl

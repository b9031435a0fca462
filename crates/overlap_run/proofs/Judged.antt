-- An overlap that breaks no rule.
use Rattle.std.proofs.Common.{◌≡◌, ◌≢◌, inl, inr, ℕ, zero, suc, ◌+◌, ◌<◌, ◌≤◌, ◌==◌, ◌||◌, ◌&&◌, not, min, nat_lt, nat_le, Bool, true, false, if◌then◌else◌, List, [], ◌∷◌, ◌++◌, length, get_or, Option, Some, None, Ok, Err, refl, sym, ◌∙◌, ap, subst, arith, append_assoc}
use Rattle.std.proofs.lemmas.Bool.{cases_Bool, false≢true}
use Rattle.sig_types.specs.Phases.{is_phase, is_in}
use Rattle.sig_types.proofs.Lists.{in-cons, eq-true}
use Rattle.sig_tables.specs.declared.tables.Tables.{Tables}
use Rattle.sig_tables.specs.Tables.{is_enabled, yellow_time, red_clear_time}
use Rattle.trace_text.specs.declared.lines.Line.{Line}
use Rattle.trace_text.specs.declared.lines.Line.TheVariants.{S, F, R, M, J, L, A, Z}
use Rattle.safety_laws.specs.Safe.{Indications, dark, told, shown_at, intersection_of}
use Rattle.safety_laws.specs.Whole.{Whole, downloads}
use Rattle.overlap_run.specs.Overlap.{timed}
use Rattle.overlap_run.specs.Rules.{least_from, least, least_clearance, is_faulty, first_faulty, first_short, broken, second, verdict}
use Rattle.overlap_run.specs.Street.{VersionsUpTo, IsWithinClearances, CanOverlap}
use Rattle.overlap_run.specs.Trace.{AreByVersion, IsToldOf}

-- the least of a time is at most that of each of the tables
least-low : (time : Tables → ℕ) (n : ℕ) (ts : List Tables) → least_from time n ts ≤ n
least-low time n [] = omega arith
least-low time n (t ∷ ts) =
    let low : least_from time (min n (time t)) ts ≤ min n (time t) = least-low time (min n (time t)) ts in
    grind (arith, low)

least-each : (time : Tables → ℕ) (n : ℕ) (ts : List Tables) (k : ℕ) (d : Tables) → k < length ts → least_from time n ts ≤ time (get_or ts k d)
least-each time n [] k d h = absurd (omega (arith, h))
least-each time n (t ∷ ts) zero d h =
    let low : least_from time (min n (time t)) ts ≤ min n (time t) = least-low time (min n (time t)) ts in
    grind (arith, low)
least-each time n (t ∷ ts) (suc k) d h = least-each time (min n (time t)) ts k d (omega (arith, h))

least-any : (time : Tables → ℕ) (ts : List Tables) (k : ℕ) (d : Tables) → k < length ts → least time ts ≤ time (get_or ts k d)
least-any time [] k d h = absurd (omega (arith, h))
least-any time (t ∷ ts) zero d h = least-low time (time t) ts
least-any time (t ∷ ts) (suc k) d h = least-each time (time t) ts k d (omega (arith, h))

some-none : (x : ℕ) → Some x ≢ None
some-none x = grind arith

broken-not-ok : (rule row : ℕ) → broken rule row ≢ Ok tt
broken-not-ok rule row = grind arith

not-less : (a b : ℕ) → nat_lt a b ≡ false → b ≤ a
not-less a b h = grind (arith, h)

-- no parent clears too soon
long-enough : (ts : List Tables) (time : ℕ) (parents : List ℕ) (p : ℕ) → first_short ts time parents ≡ None → is_in parents p ≡ true → time ≤ least_clearance ts p
long-enough ts time [] p none inside = absurd (false≢true inside)
long-enough ts time (q ∷ parents) p none inside = elim (cases_Bool (nat_lt (least_clearance ts q) time)) [
  | inl hit ↦ absurd (some-none q (rw hit at none))
  | inr miss ↦ elim (in-cons q parents p inside) [
    | inl same ↦ subst (λ (x : ℕ). time ≤ least_clearance ts x) (sym same) (not-less _ _ miss)
    | inr later ↦ long-enough ts time parents p (rw miss at none) later
  ]
]

first-true : (a b : Bool) → (not a || b) ≡ false → a ≡ true
first-true true b e = refl
first-true false b e = absurd (false≢true (sym e))

and-first : (a b : Bool) → (a && b) ≡ true → a ≡ true
and-first true b e = refl
and-first false b e = absurd (false≢true e)

-- each parent is an enabled phase
enabled-all : (opening : Tables) (earlier parents : List ℕ) (p : ℕ) → first_faulty opening earlier parents ≡ None → is_in parents p ≡ true → is_enabled opening p ≡ true
enabled-all opening earlier [] p none inside = absurd (false≢true inside)
enabled-all opening earlier (q ∷ parents) p none inside = elim (cases_Bool (is_faulty opening earlier q)) [
  | inl hit ↦ absurd (some-none q (rw hit at none))
  | inr miss ↦ elim (in-cons q parents p inside) [
    | inl same ↦ ap (is_enabled opening) same ∙ first-true (is_enabled opening q) (is_in earlier q) miss
    | inr later ↦ enabled-all opening (q ∷ earlier) parents p (rw miss at none) later
  ]
]

-- what it is to break no rule
record Unbroken (faulty : Option ℕ) (yellow : ℕ) (short : Option ℕ) : Type 0 where
  enabled : faulty ≡ None
  lasting : 30 ≤ yellow
  long : short ≡ None

unbroken : (faulty : Option ℕ) (yellow : ℕ) (short : Option ℕ) → second faulty yellow short ≡ Ok tt → Unbroken faulty yellow short
unbroken (Some p) yellow short ok = absurd (broken-not-ok _ _ ok)
unbroken None yellow (Some p) ok = elim (cases_Bool (nat_lt yellow 30)) [
  | inl hit ↦ absurd (broken-not-ok _ _ (rw hit at ok))
  | inr miss ↦ absurd (broken-not-ok _ _ (rw miss at ok))
]
unbroken None yellow None ok = elim (cases_Bool (nat_lt yellow 30)) [
  | inl hit ↦ absurd (broken-not-ok _ _ (rw hit at ok))
  | inr miss ↦ record { enabled = refl; lasting = not-less _ _ miss; long = refl }
]

-- versions that are whole are no more than the downloads
record Below (last : ℕ) (lines : List (ℕ × Indications)) : Type 0 where
  each : (tick : ℕ) (before : Indications) → before.version ≤ last → (shown_at tick before lines).version ≤ last

below-none : (last : ℕ) → Below last []
below-none last = record { each = λ tick before low. low }

either-low : (last : ℕ) (b : Bool) (shown before : Indications) → shown.version ≤ last → before.version ≤ last → (if b then shown else before).version ≤ last
either-low last true shown before low high = low
either-low last false shown before low high = high

below-more : (last tick : ℕ) (shown : Indications) (lines : List (ℕ × Indications)) → shown.version ≤ last → Below last lines → Below last ((tick, shown) ∷ lines)
below-more last tick shown lines low more = record {
  each = λ at before high. more.each at (if nat_le tick at then shown else before) (either-low last (nat_le tick at) shown before low high);
}

downloads-append : (cab : ℕ) (lines more : List Line) → downloads cab (lines ++ more) ≡ downloads cab lines + downloads cab more
downloads-append cab [] more = omega arith
downloads-append cab (S json ∷ lines) more = downloads-append cab lines more
downloads-append cab (F c tick veh ped mode counter target version ∷ lines) more = downloads-append cab lines more
downloads-append cab (R round ∷ lines) more = downloads-append cab lines more
downloads-append cab (M note ∷ lines) more = downloads-append cab lines more
downloads-append cab (J c runs ∷ lines) more = downloads-append cab lines more
downloads-append cab (L c id (Ok version) ∷ lines) more = elim (cases_Bool (c == cab)) [
  | inl hit ↦ rw hit (let h : downloads cab (lines ++ more) ≡ downloads cab lines + downloads cab more = downloads-append cab lines more in omega (arith, h))
  | inr miss ↦ rw miss (downloads-append cab lines more)
]
downloads-append cab (L c id (Err fault) ∷ lines) more = downloads-append cab lines more
downloads-append cab (A c pass reply ∷ lines) more = downloads-append cab lines more
downloads-append cab (Z rounds ∷ lines) more = downloads-append cab lines more

below-all : (cab : ℕ) (all : List Line) → Whole cab all → (before lines : List Line) → all ≡ before ++ lines → Below (downloads cab all) (told cab lines)
below-all cab all whole before [] is = below-none (downloads cab all)
below-all cab all whole before (F c tick veh ped mode counter target version ∷ lines) is =
    let more : Below (downloads cab all) (told cab lines) =
    below-all cab all whole (before ++ F c tick veh ped mode counter target version ∷ []) lines (is ∙ sym (append_assoc before (F c tick veh ped mode counter target version ∷ []) lines)) in
    elim (cases_Bool (c == cab)) [
      | inl hit ↦ rw hit (below-more (downloads cab all) tick _ (told cab lines)
          (let own : version ≡ downloads cab before = whole.frames before lines tick veh ped mode counter target version
          (is ∙ ap (λ (n : ℕ). before ++ F n tick veh ped mode counter target version ∷ lines) (eq-true c cab hit)) in
          let sum : downloads cab all ≡ downloads cab before + downloads cab (F c tick veh ped mode counter target version ∷ lines) =
          ap (downloads cab) is ∙ downloads-append cab before (F c tick veh ped mode counter target version ∷ lines) in
          omega (arith, own, sum)) more)
      | inr miss ↦ rw miss more
    ]
below-all cab all whole before (S json ∷ lines) is = below-all cab all whole (before ++ S json ∷ []) lines (is ∙ sym (append_assoc before (S json ∷ []) lines))
below-all cab all whole before (R round ∷ lines) is = below-all cab all whole (before ++ R round ∷ []) lines (is ∙ sym (append_assoc before (R round ∷ []) lines))
below-all cab all whole before (M note ∷ lines) is = below-all cab all whole (before ++ M note ∷ []) lines (is ∙ sym (append_assoc before (M note ∷ []) lines))
below-all cab all whole before (J c runs ∷ lines) is = below-all cab all whole (before ++ J c runs ∷ []) lines (is ∙ sym (append_assoc before (J c runs ∷ []) lines))
below-all cab all whole before (L c id outcome ∷ lines) is = below-all cab all whole (before ++ L c id outcome ∷ []) lines (is ∙ sym (append_assoc before (L c id outcome ∷ []) lines))
below-all cab all whole before (A c pass reply ∷ lines) is = below-all cab all whole (before ++ A c pass reply ∷ []) lines (is ∙ sym (append_assoc before (A c pass reply ∷ []) lines))
below-all cab all whole before (Z rounds ∷ lines) is = below-all cab all whole (before ++ Z rounds ∷ []) lines (is ∙ sym (append_assoc before (Z rounds ∷ []) lines))

versions-low : (cab : ℕ) (tables : ℕ → Tables) (lines : List Line) → Whole cab lines → VersionsUpTo (intersection_of cab tables lines) (downloads cab lines)
versions-low cab tables lines whole = λ tick. (below-all cab lines whole [] lines refl).each tick dark (omega arith)

within-all : (by_version : List Tables) (tables : ℕ → Tables) (last : ℕ) (parents : List ℕ) (trail yellow red : ℕ) → AreByVersion by_version tables last
    → first_short by_version (trail + yellow + red) parents ≡ None → IsWithinClearances (timed trail yellow red) parents tables last
within-all by_version tables last parents trail yellow red are none p v w inside old also =
    let total : trail + yellow + red ≤ least_clearance by_version p = long-enough by_version (trail + yellow + red) parents p none inside in
    let many : length by_version ≡ last + 1 = are.many in
    let first : least (λ t. yellow_time t p) by_version ≤ yellow_time (tables v) p =
    subst (λ (t : Tables). least (λ x. yellow_time x p) by_version ≤ yellow_time t p) (are.each v (tables v) old)
    (least-any (λ t. yellow_time t p) by_version v (tables v) (omega (arith, many, old))) in
    let clear : least (λ t. red_clear_time t p) by_version ≤ red_clear_time (tables w) p =
    subst (λ (t : Tables). least (λ x. red_clear_time x p) by_version ≤ red_clear_time t p) (are.each w (tables w) also)
    (least-any (λ t. red_clear_time t p) by_version w (tables w) (omega (arith, many, also))) in
    omega (arith, total, first, clear)

pub can-overlap : (cab : ℕ) (tables : ℕ → Tables) (lines : List Line) (by_version : List Tables) (parents : List ℕ) (trail yellow red : ℕ)
    → IsToldOf cab tables lines by_version → verdict by_version parents trail yellow red ≡ Ok tt
    → CanOverlap (timed trail yellow red) parents (intersection_of cab tables lines) (downloads cab lines)
can-overlap cab tables lines [] parents trail yellow red is ok = absurd (broken-not-ok _ _ ok)
can-overlap cab tables lines (opening ∷ later) parents trail yellow red is ok =
    let free : Unbroken (first_faulty opening [] parents) yellow (first_short (opening ∷ later) (trail + yellow + red) parents) = unbroken _ yellow _ ok in
    record {
      safe = is.safe;
      phases = λ p inside. and-first (is_phase p) _ (enabled-all opening [] parents p free.enabled inside);
      lasting = (let long : 30 ≤ yellow = free.lasting in omega (arith, long));
      versions = versions-low cab tables lines is.whole;
      within = within-all (opening ∷ later) tables (downloads cab lines) parents trail yellow red is.versions free.long;
    }

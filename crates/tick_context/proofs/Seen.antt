-- What the answers on single phases say of the sets and lists of the definitions.
use Rattle.std.proofs.Common.{◌≡◌, ◌≢◌, ◌<◌, ◌≤◌, ◌+◌, ◌-◌, ℕ, nat_le, Bool, true, false, not}
use Rattle.std.proofs.Common.{◌&&◌, ◌||◌, List, Option, Some, None, refl, sym, ◌∙◌, ap, arith, inl, inr}
use Rattle.std.proofs.lemmas.Bool.{cases_Bool, false≢true, leb-true, leb-false, le-leb, lt-leb}
use Rattle.std.proofs.Math.Bool.{and-false, not-not}
use Rattle.sig_types.specs.declared.frame.Colour.{Colour}
use Rattle.sig_types.specs.declared.frame.Colour.TheVariants.{Green, Yellow, Clear, Red}
use Rattle.sig_types.specs.declared.frame.Ped.TheVariants.{Dont}
use Rattle.sig_types.specs.Phases.{is_phase, all_phases, is_in, some}
use Rattle.sig_types.specs.declared.frame.Ped.{Ped}
use Rattle.sig_types.specs.Colour.{same_colour, same_signal, colour_of, signal_of}
use Rattle.sig_types.proofs.Sets.{in-phases, in-those-is, listed-phase}
use Rattle.sig_tables.specs.Tables.{is_enabled, has_maximum_recall, gap_time, maximum_time, red_revert_time, least_green}
use Rattle.sig_tables.specs.Past.{Past}
use Rattle.sig_tables.specs.Looking.{in_a_row, run, latched, runs_on, signal_runs_on, shows, lasts_now}
use Rattle.sig_tables.specs.Sides.{are_incompatible}
use Rattle.sig_tables.specs.Calls.{is_active, is_green, opposed_of, some_heard, turns_on}
use Rattle.sig_tables.specs.View.{ended_of, has_gap, has_maximum, is_reasoned, is_served, is_done, is_startable}
use Rattle.sig_tables.specs.Splits.{keeps_maximum, split_maximum}
use Rattle.sig_tables.specs.Modes.{bound, stage_of}
use Rattle.sig_tables.specs.Goals.{lesser_times, lesser_green, is_cleared}
use Rattle.sig_tables.specs.Lesser.{signal_runs_within}
use Rattle.sig_tables.specs.Seen.{frame_seen, mode_seen, detectors_seen, demand_seen, quiet_seen, quiet_with, opposed_seen, view_seen}
use Rattle.sig_tables.proofs.Below.{is-within}
use Rattle.sig_tables.proofs.Lasting.{lasts-counted, lasts_now-counted}

-- the clearance of phase p ends
abbrev clears : Past → ℕ → Bool
clears past p =
    not (same_colour (colour_of (frame_seen past) p) Red) && same_colour (runs_on p past.tables past.moments (colour_of (frame_seen past) p)) Red

-- whether a clearance ends
pub clearance-red : (past : Past) (p : ℕ) → is_phase p ≡ true → same_colour (colour_of (frame_seen past) p) Red ≡ true
    → false ≡ is_in (ended_of past.tables past.moments) p
clearance-red past p h e =
    sym (in-phases (clears past) p h ∙ rw e refl)

pub clearance-other : (past : Past) (p : ℕ) → is_phase p ≡ true → same_colour (colour_of (frame_seen past) p) Red ≡ false
    → same_colour (runs_on p past.tables past.moments (colour_of (frame_seen past) p)) Red ≡ is_in (ended_of past.tables past.moments) p
clearance-other past p h e =
    sym (in-phases (clears past) p h ∙ rw e refl)

-- a number past sixteen is not a phase
pub past-phases : (p : ℕ) → 16 < p → is_in all_phases p ≡ false
past-phases p h = elim (cases_Bool (is_in all_phases p)) [
  | inl e ↦ let few : p ≤ 16 = is-within p (listed-phase p e) in absurd (omega arith)
  | inr e ↦ e
]

-- a number past the phases ends no clearance
pub clearance-none : (past : Past) (p : ℕ) → is_in all_phases p ≡ false → is_in (ended_of past.tables past.moments) p ≡ false
clearance-none past p h =
    in-those-is (clears past) all_phases p
    ∙ rw h (and-false _)

-- a count of n with this tick, tested without it
counted-one : (n count : ℕ) → 1 ≤ n → nat_le (n - 1) count ≡ nat_le n (count + 1)
counted-one n count h = elim (cases_Bool (nat_le n (count + 1))) [
  | inl e ↦ let k : n ≤ count + 1 = leb-true n (count + 1) e in let l : n - 1 ≤ count = omega arith in le-leb (n - 1) count l ∙ sym e
  | inr e ↦ let k : count + 1 < n = leb-false n (count + 1) e in let l : count < n - 1 = omega arith in lt-leb (n - 1) count l ∙ sym e
]

-- what is not b is the other
pub flip : (a b x : Bool) → a ≡ x → a ≡ not b → b ≡ not x
flip a b x e f = sym (not-not b) ∙ ap not (sym f ∙ e)

-- a phase that is not active has no maximum recall, where it is enabled
max-off : (e x y m : Bool) → e ≡ true → (e && (x || y || m)) ≡ false → m ≡ false
max-off e x y false on h = refl
max-off true true y true on h = absurd (false≢true (sym h))
max-off true false true true on h = absurd (false≢true (sym h))
max-off true false false true on h = absurd (false≢true (sym h))
max-off false x y true on h = absurd (false≢true on)

quiet-alone : (g a m : Bool) → (a ≡ false → m ≡ false) → (g && not a) ≡ true → m ≡ false
quiet-alone true false m off h = off refl
quiet-alone true true m off h = absurd (false≢true h)
quiet-alone false a m off h = absurd (false≢true h)

quiet-either : (g a s m : Bool) → (a ≡ false → m ≡ false) → (g && not (a || s)) ≡ true → (m || s) ≡ false
quiet-either true false false m off h = rw (off refl) refl
quiet-either true false true m off h = absurd (false≢true h)
quiet-either true true s m off h = absurd (false≢true h)
quiet-either false a s m off h = absurd (false≢true h)

unkept : (o : Option ℕ) (past : Past) (p : ℕ) → is_phase p ≡ true → is_enabled past.tables p ≡ true → is_in (quiet_with o past) p ≡ true
    → keeps_maximum o past.tables p ≡ false
unkept None past p h on q =
    quiet-alone (is_green (frame_seen past) p) (is_active past.tables past.heard (detectors_seen past) p) (has_maximum_recall past.tables p)
    (λ e. max-off (is_enabled past.tables p) (is_in (detectors_seen past) p) (some_heard (λ _ field q. turns_on field q) past.heard p)
    (has_maximum_recall past.tables p) on e)
    (sym (in-phases (λ x. is_green (frame_seen past) x && not (is_active past.tables past.heard (detectors_seen past) x)) p h) ∙ q)
unkept (Some n) past p h on q =
    quiet-either (is_green (frame_seen past) p) (is_active past.tables past.heard (detectors_seen past) p) (split_maximum past.tables n p)
    (has_maximum_recall past.tables p)
    (λ e. max-off (is_enabled past.tables p) (is_in (detectors_seen past) p) (some_heard (λ _ field q. turns_on field q) past.heard p)
    (has_maximum_recall past.tables p) on e)
    (sym (in-phases (λ x. is_green (frame_seen past) x && not (is_active past.tables past.heard
    (detectors_seen past) x || split_maximum past.tables n x)) p h) ∙ q)

pub gap-counted : (past : Past) (p count : ℕ) → is_phase p ≡ true → is_enabled past.tables p ≡ true → is_in (quiet_seen past) p ≡ true
    → count ≡ in_a_row (λ m. is_in m.quiet p) past.moments → nat_le (gap_time past.tables p - 1) count ≡ has_gap (view_seen past) p
gap-counted past p count h on quiet is =
    let some : 1 ≤ gap_time past.tables p = omega arith in
    counted-one (gap_time past.tables p) count some
    ∙ ap (λ (n : ℕ). nat_le (gap_time past.tables p) (n + 1)) is
    ∙ sym (lasts_now-counted (gap_time past.tables p) true (λ m. is_in m.quiet p) past.moments)
    ∙ gap-now past p (keeps_maximum (bound (mode_seen past)) past.tables p) (is_in (quiet_seen past) p) (unkept (bound
    (mode_seen past)) past p h on quiet) quiet
  where
    gap-now : (past : Past) (p : ℕ) (b q : Bool) → b ≡ false → q ≡ true
        → lasts_now (gap_time past.tables p) true (λ m. is_in m.quiet p) past.moments
        ≡ (not b && lasts_now (gap_time past.tables p) q (λ m. is_in m.quiet p) past.moments)
    gap-now past p b q e f = rw (e, f) refl

pub gap-not-quiet : (past : Past) (p : ℕ) → is_in (quiet_seen past) p ≡ false → has_gap (view_seen past) p ≡ false
gap-not-quiet past p e =
    let some : 0 < gap_time past.tables p = omega arith in
    let none : lasts_now (gap_time past.tables p) false (λ m. is_in m.quiet p) past.moments ≡ false =
    lasts_now-counted (gap_time past.tables p) false (λ m. is_in m.quiet p) past.moments ∙ lt-leb (gap_time past.tables p) 0 some in
    gap-off past p (keeps_maximum (bound (mode_seen past)) past.tables p) (is_in (quiet_seen past) p) e none
  where
    gap-off : (past : Past) (p : ℕ) (b q : Bool) → q ≡ false
        → lasts_now (gap_time past.tables p) false (λ m. is_in m.quiet p) past.moments ≡ false
        → (not b && lasts_now (gap_time past.tables p) q (λ m. is_in m.quiet p) past.moments) ≡ false
    gap-off past p true q e n = refl
    gap-off past p false q e n = rw e n

-- a maximum
pub maximum-counted : (past : Past) (p count : ℕ) → maximum_time past.tables p ≢ 0 → is_in (opposed_seen past) p ≡ true
    → count ≡ in_a_row (λ m. is_in m.opposed p) past.moments → nat_le (maximum_time past.tables p - 1) count ≡ has_maximum (view_seen past) p
maximum-counted past p count ne opposed is =
    let some : 1 ≤ maximum_time past.tables p = omega arith in
    counted-one (maximum_time past.tables p) count some
    ∙ ap (λ (n : ℕ). nat_le (maximum_time past.tables p) (n + 1)) is
    ∙ sym (lasts_now-counted (maximum_time past.tables p) true (λ m. is_in m.opposed p) past.moments)
    ∙ ap (λ (b : Bool). lasts_now (maximum_time past.tables p) b (λ m. is_in m.opposed p) past.moments) (sym opposed)

pub maximum-unopposed : (past : Past) (p : ℕ) → maximum_time past.tables p ≢ 0 → is_in (opposed_seen past) p ≡ false
    → false ≡ has_maximum (view_seen past) p
maximum-unopposed past p ne opposed =
    let some : 0 < maximum_time past.tables p = omega arith in
    sym (lt-leb (maximum_time past.tables p) 0 some)
    ∙ sym (lasts_now-counted (maximum_time past.tables p) false (λ m. is_in m.opposed p) past.moments)
    ∙ ap (λ (b : Bool). lasts_now (maximum_time past.tables p) b (λ m. is_in m.opposed p) past.moments) (sym opposed)

-- the colours that the tests find
pub red-is : (c : Colour) → same_colour c Red ≡ true → c ≡ Red
red-is Red e = refl
red-is Green e = absurd (false≢true e)
red-is Yellow e = absurd (false≢true e)
red-is Clear e = absurd (false≢true e)

pub green-is : (c : Colour) → same_colour c Green ≡ true → c ≡ Green
green-is Green e = refl
green-is Red e = absurd (false≢true e)
green-is Yellow e = absurd (false≢true e)
green-is Clear e = absurd (false≢true e)

-- what may begin
pub startable-counted : (past : Past) (p count : ℕ) → is_enabled past.tables p ≡ true → same_colour (colour_of (frame_seen past) p) Red ≡ true
    → count ≡ run p Red past.moments → nat_le (red_revert_time past.tables p) count ≡ is_startable (view_seen past) p
startable-counted past p count on red is =
    ap (λ (n : ℕ). nat_le (red_revert_time past.tables p) n) is
    ∙ sym (lasts-counted (red_revert_time past.tables p) (shows p Red) past.moments)
    ∙ both _ _ _ on red
  where
    both : (a b c : Bool) → a ≡ true → b ≡ true → c ≡ (a && b && c)
    both a b c e f = rw (e, f) refl

pub startable-not : (past : Past) (p : ℕ) → (is_enabled past.tables p && same_colour (colour_of (frame_seen past) p) Red) ≡ false
    → false ≡ is_startable (view_seen past) p
startable-not past p e = rw e refl

-- what is done
pub served-early : (past : Past) (p count least : ℕ) → count ≡ run p Green past.moments
    → least ≡ least_green (latched p Green past.tables past.moments) p → count < least → false ≡ is_served past.tables past.moments p
served-early past p count least is ls short =
    let below : run p Green past.moments < least_green (latched p Green past.tables past.moments) p = rw (is, ls) at short in
    rw (lt-leb _ _ below) refl

pub served-signal : (past : Past) (p count least : ℕ) (signal : Ped) → count ≡ run p Green past.moments
    → least ≡ least_green (latched p Green past.tables past.moments) p → least ≤ count
    → signal ≡ signal_runs_on p past.tables past.moments (signal_of (frame_seen past) p)
    → same_signal signal Dont ≡ is_served past.tables past.moments p
served-signal past p count least signal is ls long follows =
    let above : least_green (latched p Green past.tables past.moments) p ≤ run p Green past.moments = rw (is, ls) at long in
    both _ _ _ (le-leb _ _ above) (ap (λ (x : Ped). same_signal x Dont) follows)
  where
    both : (a b c : Bool) → a ≡ true → b ≡ c → b ≡ (a && c)
    both a b c e f = rw (e, f) refl

-- what is cleared on the way to a goal
pub cleared-early : (past : Past) (p count least : ℕ) → count ≡ run p Green past.moments
    → least ≡ lesser_green past.tables (stage_of (mode_seen past)) (least_green (latched p Green past.tables past.moments) p) → count < least
    → false ≡ is_cleared (mode_seen past) past.tables past.moments p
cleared-early past p count least is ls short =
    let below : run p Green past.moments < lesser_green past.tables (stage_of (mode_seen past)) (least_green (latched p Green past.tables past.moments) p) =
    rw (is, ls) at short in
    early _ _ (lt-leb _ _ below)
  where
    early : (a b : Bool) → a ≡ false → false ≡ (a && b)
    early a b e = rw e refl

pub cleared-signal : (past : Past) (p count least : ℕ) (signal : Ped) → count ≡ run p Green past.moments
    → least ≡ lesser_green past.tables (stage_of (mode_seen past)) (least_green (latched p Green past.tables past.moments) p) → least ≤ count
    → signal ≡ signal_runs_within (lesser_times past.tables (stage_of (mode_seen past))) p past.tables past.moments (signal_of (frame_seen past) p)
    → same_signal signal Dont ≡ is_cleared (mode_seen past) past.tables past.moments p
cleared-signal past p count least signal is ls long follows =
    let above : lesser_green past.tables (stage_of (mode_seen past)) (least_green (latched p Green past.tables past.moments) p) ≤ run p Green past.moments =
    rw (is, ls) at long in
    both _ _ _ (le-leb _ _ above) (ap (λ (x : Ped). same_signal x Dont) follows)
  where
    both : (a b c : Bool) → a ≡ true → b ≡ c → b ≡ (a && c)
    both a b c e f = rw (e, f) refl

pub done-unreasoned : (past : Past) (p : ℕ) → is_reasoned (bound (mode_seen past)) (view_seen past) p ≡ false → false ≡ is_done (view_seen past) p
done-unreasoned past p e =
    unreasoned (is_enabled past.tables p) (same_colour (colour_of (frame_seen past) p) Green) (is_reasoned (bound (mode_seen past)) (view_seen past) p)
    (is_served past.tables past.moments p) e
  where
    unreasoned : (a b c d : Bool) → c ≡ false → false ≡ (a && b && c && d)
    unreasoned false b c d e = refl
    unreasoned true false c d e = refl
    unreasoned true true c d e = rw e refl

pub done-served : (past : Past) (p : ℕ) (x : Bool) → is_reasoned (bound (mode_seen past)) (view_seen past) p ≡ true → is_enabled past.tables p ≡ true
    → same_colour (colour_of (frame_seen past) p) Green ≡ true
    → x ≡ is_served past.tables past.moments p → x ≡ is_done (view_seen past) p
done-served past p x reason on green e = e ∙ all-of _ _ _ _ on green reason
  where
    all-of : (a b c d : Bool) → a ≡ true → b ≡ true → c ≡ true → d ≡ (a && b && c && d)
    all-of a b c d e f g = rw (e, f, g) refl

pub done-not : (past : Past) (p : ℕ) → (is_enabled past.tables p && same_colour (colour_of (frame_seen past) p) Green) ≡ false
    → false ≡ is_done (view_seen past) p
done-not past p e = rw e refl

-- of a Green phase: it is active where it isn't quiet, and opposed where an incompatible phase has demand
pub active-is : (quiet green active : Bool) → quiet ≡ (green && not active) → green ≡ true → active ≡ not quiet
active-is quiet green active e g = sym (ap not (e ∙ ap (λ (b : Bool). b && not active) g) ∙ not-not active)

pub opposed-by : (past : Past) (phases : List ℕ) (p : ℕ) → is_phase p ≡ true
    → is_in (opposed_of past.tables (frame_seen past) phases) p ≡ (is_green (frame_seen past) p && some (are_incompatible past.tables p) phases)
opposed-by past phases p h = in-phases (λ q. is_green (frame_seen past) q && some (are_incompatible past.tables q) phases) p h

pub opposed-is : (past : Past) (p : ℕ) → is_phase p ≡ true
    → is_in (opposed_seen past) p ≡ (is_green (frame_seen past) p && some (are_incompatible past.tables p) (demand_seen past))
opposed-is past p h = opposed-by past (demand_seen past) p h

-- what is opposed is Green
pub opposed-green : (past : Past) (p : ℕ) → is_phase p ≡ true
    → is_in (opposed_seen past) p ≡ (is_green (frame_seen past) p && is_in (opposed_seen past) p)
opposed-green past p h =
    opposed-is past p h ∙ again (is_green (frame_seen past) p) (some (are_incompatible past.tables p) (demand_seen past)) ∙ sym (ap (λ
    (b : Bool). is_green (frame_seen past) p && b) (opposed-is past p h))
  where
    again : (a b : Bool) → (a && b) ≡ (a && (a && b))
    again true b = refl
    again false b = refl

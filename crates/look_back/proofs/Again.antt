-- Moments that continue with the last one.
use Rattle.std.proofs.Common.{◌≡◌, ◌<◌, ◌≤◌, ◌+◌, ◌-◌, ◌==◌, ◌&&◌, ◌⊎◌, inl, inr, not, ℕ, zero, suc, min, nat_lt, Bool, true, false, if◌then◌else◌, List, [], ◌∷◌, ◌++◌, length, get_or, replicate, refl, sym, ◌∙◌, ap, arith, eq-eqb}
use Rattle.std.proofs.lemmas.List.{get_or-replicate}
use Rattle.std.proofs.lemmas.Bool.{cases_Bool, ltb-true, ltb-false}
use Rattle.sig_types.specs.declared.frame.Colour.{Colour}
use Rattle.sig_types.specs.declared.frame.Colour.TheVariants.{Green}
use Rattle.sig_types.specs.declared.frame.Ped.{Ped}
use Rattle.sig_types.specs.declared.frame.Ped.TheVariants.{Walk}
use Rattle.sig_types.specs.declared.frame.Mode.{Mode}
use Rattle.sig_types.specs.declared.frame.Frame.{Frame}
use Rattle.sig_types.specs.declared.phase_set.PhaseSet.{PhaseSet}
use Rattle.sig_types.specs.Phases.{is_phase, is_in}
use Rattle.sig_types.specs.PhaseSet.{has}
use Rattle.sig_types.specs.Colour.{same_colour, same_signal, colour_in, colour_of, signal_of, on_in, is_start}
use Rattle.sig_types.proofs.Lists.{phase-in}
use Rattle.sig_tables.specs.Past.{Moment}
use Rattle.sig_tables.specs.Looking.{in_a_row, last_frame, last_on, latest_on}
use Rattle.sig_tables.specs.Calls.{is_green}
use Rattle.sig_tables.specs.Modes.{stage_of}
use Rattle.look_back.specs.declared.sample.Sample.{Sample}
use Rattle.look_back.specs.declared.row.Row.{Row}
use Rattle.look_back.specs.declared.frame_runs.FrameRun.{FrameRun}
use Rattle.look_back.specs.declared.frame_runs.FrameRuns.{FrameRuns}
use Rattle.look_back.specs.declared.latched.Latched.{Latched}
use Rattle.look_back.specs.Look.{Tells}
use Rattle.look_back.specs.Spread.{frame_run, spread, TellLast, more_of}
use Rattle.look_back.specs.FrameRunsKeep.{FrameRunsKeep, newest_of}
use Rattle.look_back.specs.Latching.{LatchedStands}
use Rattle.look_back.specs.Rows.{most, no_row, RowStands}
use Rattle.look_back.specs.Again.{ShowsAgain, AllGoOn, AllTell, AllPass, more_by, lengthened}
use Rattle.look_back.proofs.Adding.{adds-like, more-lasts}
use Rattle.look_back.proofs.Latching.{colour-on, signal-on}

-- what shows the same as a frame that shows the same as another, shows the same as that
pub shows-on : (f g h : Frame) → ShowsAgain f g → ShowsAgain g h → ShowsAgain f h
shows-on f g h a b = record {
  veh = a.veh ∙ b.veh;
  ped = a.ped ∙ b.ped;
  on = a.on ∙ b.on;
  mode = a.mode ∙ b.mode;
  version = a.version ∙ b.version;
}

-- the last of such moments shows what was shown before them
pub last-shows : (active pressed : PhaseSet) (ms past : List Moment) → AllGoOn active pressed ms past
    → ShowsAgain (last_frame (ms ++ past)) (last_frame past)
last-shows active pressed [] past all = record { veh = refl; ped = refl; on = refl; mode = refl; version = refl }
last-shows active pressed (m ∷ ms) past all =
    shows-on m.frame (last_frame (ms ++ past)) (last_frame past) all.0.shows (last-shows active pressed ms past all.1)

-- what is kept of the last frame describes the last moment
pub newest-tells : (n t : ℕ) (g : Sample) (older : List FrameRun) (m : Moment) (past : List Moment) → 1 ≤ n → (1 ≤ t) ⊎ (older ≡ [])
    → TellLast n (spread (frame_run g t ∷ older)) (m ∷ past) → Tells g m
newest-tells zero t g older m past le some h = absurd (omega arith)
newest-tells (suc n) (suc t) g older m past le some h = h.0
newest-tells (suc n) zero g older m past le (inl one) h = absurd (omega arith)
newest-tells (suc n) zero g older m past le (inr none) h = absurd (rw none at h)

-- what is kept of a moment is kept of one that continues with it, except what its tick saw
pub tells-again : (g : Sample) (last m : Moment) (q o : PhaseSet) → Tells g last → ShowsAgain m.frame last.frame
    → ((p : ℕ) → is_phase p ≡ true → has q p ≡ is_in m.quiet p) → ((p : ℕ) → is_phase p ≡ true → has o p ≡ is_in m.opposed p)
    → Tells (record g { quiet = q; opposed = o }) m
tells-again g last m q o tells shows quiet opposed = record {
  wide = ap (λ (xs : List Colour). length xs) shows.veh ∙ tells.wide;
  colours = λ colour p is.
      tells.colours colour p is ∙ ap (λ (xs : List Colour). same_colour (get_or xs (p - 1) Green) colour) (sym shows.veh);
  signals = λ signal p is.
      tells.signals signal p is ∙ ap (λ (xs : List Ped). same_signal (get_or xs (p - 1) Walk) signal) (sym shows.ped);
  first = tells.first ∙ ap (λ (xs : List ℕ). get_or xs 0 0) (sym shows.on);
  second = tells.second ∙ ap (λ (xs : List ℕ). get_or xs 1 0) (sym shows.on);
  mode = tells.mode ∙ sym shows.mode;
  quiet = quiet;
  opposed = opposed;
}

-- and so of each of many
pub all-tell : (g : Sample) (last : Moment) (before : List Moment) (q o active pressed : PhaseSet) → Tells g last
    → ((p : ℕ) → p ≤ 16 → has q p ≡ (has g.shown.green p && not (has active p)))
    → ((p : ℕ) → has o p ≡ (has g.shown.green p && has pressed p))
    → (ms : List Moment) → AllGoOn active pressed ms (last ∷ before) → AllTell (record g { quiet = q; opposed = o }) ms
all-tell g last before q o active pressed tells quiet opposed [] all = tt
all-tell g last before q o active pressed tells quiet opposed (m ∷ ms) all =
    let were : ShowsAgain (last_frame (ms ++ last ∷ before)) last.frame = last-shows active pressed ms (last ∷ before) all.1 in
    let green : (p : ℕ) → is_phase p ≡ true → has g.shown.green p ≡ is_green (last_frame (ms ++ last ∷ before)) p =
    λ p is. tells.colours Green p is ∙ ap (λ (xs : List Colour). same_colour (get_or xs (p - 1) Green) Green) (sym were.veh) in (
      tells-again g last m q o tells (shows-on m.frame (last_frame (ms ++ last ∷ before)) last.frame all.0.shows were)
          (λ p is. quiet p (phase-in p is).1 ∙ ap (λ (b : Bool). b && not (has active p)) (green p is) ∙ sym (all.0.quiet p is))
          (λ p is. opposed p ∙ ap (λ (b : Bool). b && has pressed p) (green p is) ∙ sym (all.0.opposed p is)),
      all-tell g last before q o active pressed tells quiet opposed ms all.1,
    )

-- one more of the newest run
pub more-one : (t n : ℕ) → more_of (more_by t n) ≡ more_by t (suc n)
more-one t n = elim (cases_Bool (nat_lt t 4096)) [
  | inl e ↦ elim (cases_Bool (nat_lt (min (t + n) 4096) 4096)) [
    | inl few ↦
        let low : min (t + n) 4096 < 4096 = ltb-true (min (t + n) 4096) 4096 few in
        let k : min (t + n) 4096 + 1 ≡ min (t + suc n) 4096 = omega arith in
        rw (e, few) k
    | inr full ↦
        let high : 4096 ≤ min (t + n) 4096 = ltb-false (min (t + n) 4096) 4096 full in
        let k : min (t + n) 4096 ≡ min (t + suc n) 4096 = omega arith in
        rw (e, full) k
  ]
  | inr e ↦ rw (e, e) refl
]

pub more-none : (t : ℕ) → more_by t 0 ≡ t
more-none t = elim (cases_Bool (nat_lt t 4096)) [
  | inl e ↦ let low : t < 4096 = ltb-true t 4096 e in let k : min (t + 0) 4096 ≡ t = omega arith in rw e k
  | inr e ↦ rw e refl
]

-- the runs keep one moment more of the newest
keeps-like : (n : ℕ) (s : FrameRuns) (m : Moment) (past : List Moment) → FrameRunsKeep (lengthened n s) past → Tells (newest_of s) m
    → FrameRunsKeep (lengthened (suc n) s) (m ∷ past)
keeps-like n s m past keeps tells =
    let one : more_of (more_by s.newest.ticks n) ≡ more_by s.newest.ticks (suc n) = more-one s.newest.ticks n in
    record {
      tells = rw (← one) (adds-like (more_by s.newest.ticks n) s.newest.sample s.older.items m past tells keeps.tells);
      newest = inl (rw (← one) (more-lasts (more_by s.newest.ticks n)));
      older = keeps.older;
      room = keeps.room;
    }

keeps-same : (s : FrameRuns) (past : List Moment) → FrameRunsKeep s past → FrameRunsKeep (lengthened 0 s) past
keeps-same s past keeps = record {
  tells = rw (more-none s.newest.ticks) keeps.tells;
  newest = rw (more-none s.newest.ticks) keeps.newest;
  older = keeps.older;
  room = keeps.room;
}

-- and N of them
pub keeps-again : (s : FrameRuns) (g : Sample) (past : List Moment) → newest_of s ≡ g
    → ((m : Moment) → Tells g m → FrameRunsKeep s (m ∷ past)) → (n : ℕ) (ms : List Moment) → length ms ≡ suc n → AllTell g ms
    → FrameRunsKeep (lengthened n s) (ms ++ past)
keeps-again s g past e one n [] few all = absurd (omega arith)
keeps-again s g past e one zero (m ∷ []) few all = keeps-same s (m ∷ past) (one m all.0)
keeps-again s g past e one (suc n) (m ∷ []) few all = absurd (omega arith)
keeps-again s g past e one zero (m ∷ k ∷ ms) few all = absurd (omega arith)
keeps-again s g past e one (suc n) (m ∷ k ∷ ms) few all =
    keeps-like n s m (k ∷ ms ++ past) (keeps-again s g past e one n (k ∷ ms) (omega arith) all.1) (rw e all.0)

-- a row continues with moments that pass
row-on : (test : Moment → Bool) (ms past : List Moment) → AllPass test ms → in_a_row test (ms ++ past) ≡ in_a_row test past + length ms
row-on test [] past all = omega arith
row-on test (m ∷ ms) past all = rw (all.0, row-on test ms past all.1) (omega arith)

pub row-again : (old new : Row) (n : ℕ) (test : Moment → Bool) (ms past : List Moment) → new.frames ≡ min (old.frames + n) most
    → length ms ≡ n → AllPass test ms → RowStands old test past → RowStands new test (ms ++ past)
row-again old new n test ms past e few all stands = let k = row-on test ms past all in rw k (e ∙ omega (arith, stands, few))

-- a phase that was last on is so still
last-on-again : (r : ℕ) (m : Moment) (past : List Moment) → ShowsAgain m.frame (last_frame past) → last_on r (m ∷ past) ≡ last_on r past
last-on-again r m [] shows = rw shows.mode refl
last-on-again r m (n ∷ past) shows =
    let on : on_in m.frame r ≡ on_in n.frame r = ap (λ (xs : List ℕ). get_or xs (r - 1) 0) shows.on in
    rw (shows.mode, on) (again (is_start n.frame.mode) (on_in n.frame r == 0) (last_on r past) (on_in n.frame r))
  where
    again : (a b : Bool) (x y : ℕ)
        → (if a then 0 else if b then (if a then 0 else if b then x else y) else y) ≡ (if a then 0 else if b then x else y)
    again true b x y = refl
    again false true x y = refl
    again false false x y = refl

latest-on-again : (m : Moment) (past : List Moment) → ShowsAgain m.frame (last_frame past) → latest_on (m ∷ past) ≡ latest_on past
latest-on-again m [] shows = rw shows.mode refl
latest-on-again m (n ∷ past) shows =
    let first : on_in m.frame 1 ≡ on_in n.frame 1 = ap (λ (xs : List ℕ). get_or xs 0 0) shows.on in
    let second : on_in m.frame 2 ≡ on_in n.frame 2 = ap (λ (xs : List ℕ). get_or xs 1 0) shows.on in
    rw (shows.mode, first, second)
    (again (is_start n.frame.mode) (on_in n.frame 1 == 0) (on_in n.frame 2 == 0) (latest_on past) (on_in n.frame 1) (on_in n.frame 2))
  where
    again : (a b c : Bool) (x y z : ℕ)
        → (if a then 0 else if b then (if c then (if a then 0 else if b then (if c then x else z) else y) else z) else y)
        ≡ (if a then 0 else if b then (if c then x else z) else y)
    again true b c x y z = refl
    again false true true x y z = refl
    again false true false x y z = refl
    again false false c x y z = refl

pub last-on-all : (r : ℕ) (active pressed : PhaseSet) (ms past : List Moment) → AllGoOn active pressed ms past
    → last_on r (ms ++ past) ≡ last_on r past
last-on-all r active pressed [] past all = refl
last-on-all r active pressed (m ∷ ms) past all =
    last-on-again r m (ms ++ past) all.0.shows ∙ last-on-all r active pressed ms past all.1

pub latest-on-all : (active pressed : PhaseSet) (ms past : List Moment) → AllGoOn active pressed ms past
    → latest_on (ms ++ past) ≡ latest_on past
latest-on-all active pressed [] past all = refl
latest-on-all active pressed (m ∷ ms) past all =
    latest-on-again m (ms ++ past) all.0.shows ∙ latest-on-all active pressed ms past all.1

-- each is in the stage of the last frame, and none has a preempt input on
pub all-in-stage : (active pressed : PhaseSet) (ms past : List Moment) (i : ℕ) → i ≡ stage_of (last_frame past).mode
    → AllGoOn active pressed ms past → AllPass (λ m. stage_of m.frame.mode == i) ms
all-in-stage active pressed [] past i e all = tt
all-in-stage active pressed (m ∷ ms) past i e all =
    let same : stage_of m.frame.mode ≡ i =
    ap (λ (mode : Mode). stage_of mode) (all.0.shows.mode ∙ (last-shows active pressed ms past all.1).mode) ∙ sym e in
    (eq-eqb (stage_of m.frame.mode) i same, all-in-stage active pressed ms past i e all.1)

-- no input is on
pub input-off : (active pressed : PhaseSet) (ms past : List Moment) (row : Row) (i : ℕ) → 1 ≤ length ms → 0 < i → i ≤ 8
    → AllGoOn active pressed ms past → RowStands row (λ m. is_in m.preempts i) [] → RowStands row (λ m. is_in m.preempts i) (ms ++ past)
input-off active pressed [] past row i some above below all none = absurd (omega arith)
input-off active pressed (m ∷ ms) past row i some above below all none = rw (all.0.preempts i above below) none

-- the times stay as they were latched
latched-on : (l : Latched) (m : Moment) (past : List Moment) → LatchedStands l past → ShowsAgain m.frame (last_frame past)
    → LatchedStands l (m ∷ past)
latched-on l m past stands shows = record {
  veh = stands.veh ∙ sym shows.veh;
  ped = stands.ped ∙ sym shows.ped;
  colours = λ p above below.
      colour-on _ p (colour_of (last_frame past) p) m.tables past m refl
      (ap (λ (xs : List Colour). colour_in xs p) shows.veh) refl (stands.colours p above below);
  signals = λ p above below.
      signal-on _ p (signal_of (last_frame past) p) m.tables past m refl
      (ap (λ (xs : List Ped). get_or xs (p - 1) Walk) shows.ped) refl (stands.signals p above below);
}

pub latched-again : (l : Latched) (active pressed : PhaseSet) (ms past : List Moment) → LatchedStands l past
    → AllGoOn active pressed ms past → LatchedStands l (ms ++ past)
latched-again l active pressed [] past stands all = stands
latched-again l active pressed (m ∷ ms) past stands all =
    latched-on l m (ms ++ past) (latched-again l active pressed ms past stands all.1) all.0.shows

-- the rows of all inputs
pub inputs-off : (active pressed : PhaseSet) (ms past : List Moment) (rows : List Row) (row : Row) → rows ≡ replicate 8 row
    → 1 ≤ length ms → AllGoOn active pressed ms past → ((test : Moment → Bool) → RowStands row test [])
    → (i : ℕ) → 0 < i → i ≤ 8 → RowStands (get_or rows (i - 1) no_row) (λ m. is_in m.preempts i) (ms ++ past)
inputs-off active pressed ms past rows row e some all fresh i above below =
    let few : i - 1 < 8 = omega arith in
    let one : get_or rows (i - 1) no_row ≡ row =
    ap (λ (xs : List Row). get_or xs (i - 1) no_row) e ∙ get_or-replicate 8 (i - 1) row no_row few in
    rw one (input-off active pressed ms past row i some above below all (fresh (λ m. is_in m.preempts i)))

-- no moment more
pub none-more : (P : List Moment → Type 0) (ms past : List Moment) → length ms ≡ 0 → P past → P (ms ++ past)
none-more P [] past e h = h
none-more P (m ∷ ms) past e h = absurd (omega arith)

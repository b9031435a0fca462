-- When a time is over, by a row that is counted one further than it.
use Rattle.std.proofs.Common.{◌≡◌, ◌≢◌, ◌≤◌, ◌+◌, ◌==◌, inl, inr, ℕ, min, max, if◌then◌else◌, Bool, List, refl, sym, ◌∙◌, arith}
use Rattle.std.proofs.lemmas.Bool.{cases_lt, ne_eqb}
use Rattle.std.proofs.Math.Nat.{min-eq_left}
use Rattle.sig_types.specs.declared.frame.Ped.{Ped}
use Rattle.sig_types.specs.declared.frame.Ped.TheVariants.{Walk, Flash, Dont}
use Rattle.sig_tables.specs.declared.tables.Tables.{Tables}
use Rattle.sig_tables.specs.Tables.{walk_time, pedestrian_clear_time}
use Rattle.sig_tables.specs.Past.{Moment}
use Rattle.sig_tables.specs.Looking.{signal_run, signal_latched}
use Rattle.sig_tables.specs.Lesser.{Lesser, InFull, AtMost, signal_runs_within}
use Rattle.look_back.specs.Latched.{signal_time}
use Rattle.look_back.specs.Cuts.{is_walk_over, is_clearance_over, after_walk}
use Rattle.look_back.proofs.Lasts.{reached}

pub just : (time row : ℕ) → (min row (time + 1) == time) ≡ (row == time)
just time row = elim (cases_lt time row) [
  | inl lt ↦
      let far : min row (time + 1) ≢ time = omega arith in
      let other : row ≢ time = omega arith in
      rw (ne_eqb (min row (time + 1)) time far, ne_eqb row time other) refl
  | inr le ↦ let near : row ≤ time + 1 = omega arith in rw (min-eq_left near) refl
]

pub walk-over : (lesser : Lesser) (time row : ℕ) → is_walk_over lesser time (min row (time + 1)) ≡ is_walk_over lesser time row
walk-over InFull time row = just time row
walk-over (AtMost walk clear) time row = reached (max 1 (min time walk)) (time + 1) row (omega arith)

pub clearance-over : (lesser : Lesser) (time row : ℕ) → is_clearance_over lesser time (min row (time + 1)) ≡ is_clearance_over lesser time row
clearance-over InFull time row = just time row
clearance-over (AtMost walk clear) time row = reached (min time clear) (time + 1) row (omega arith)

-- what follows a signal by itself, by whether its time is over
pub walk-runs : (lesser : Lesser) (p : ℕ) (now : Tables) (past : List Moment)
    → (if is_walk_over lesser (walk_time (signal_latched p Walk now past) p) (signal_run p Walk past)
    then after_walk lesser (pedestrian_clear_time now p) else Walk) ≡ signal_runs_within lesser p now past Walk
walk-runs InFull p now past = refl
walk-runs (AtMost walk clear) p now past = refl

pub flash-runs : (lesser : Lesser) (p : ℕ) (now : Tables) (past : List Moment)
    → (if is_clearance_over lesser (pedestrian_clear_time (signal_latched p Flash now past) p) (signal_run p Flash past)
    then Dont else Flash) ≡ signal_runs_within lesser p now past Flash
flash-runs InFull p now past = refl
flash-runs (AtMost walk clear) p now past = refl

pub dont-runs : (lesser : Lesser) (p : ℕ) (now : Tables) (past : List Moment) → Dont ≡ signal_runs_within lesser p now past Dont
dont-runs InFull p now past = refl
dont-runs (AtMost walk clear) p now past = refl

-- what follows a signal that is shown, by its time and the frames in a row
pub walk-follows : (told : Bool) (lesser : Lesser) (p : ℕ) (now : Tables) (past : List Moment) (shown : Ped) (time frames : ℕ) → shown ≡ Walk
    → time ≡ signal_time (signal_latched p shown now past) p shown → frames ≡ min (signal_run p shown past) (time + 1)
    → is_walk_over lesser time frames ≡ told
    → (if told then after_walk lesser (pedestrian_clear_time now p) else Walk) ≡ signal_runs_within lesser p now past shown
walk-follows told lesser p now past Walk time frames e is counted over =
    let whole : is_walk_over lesser (walk_time (signal_latched p Walk now past) p) (signal_run p Walk past) ≡ told =
    sym (walk-over lesser (walk_time (signal_latched p Walk now past) p) (signal_run p Walk past)) ∙ (rw (counted, is) at over) in
    rw (← whole) (walk-runs lesser p now past)
walk-follows told lesser p now past Flash time frames e is counted over = cc
walk-follows told lesser p now past Dont time frames e is counted over = cc

pub flash-follows : (told : Bool) (lesser : Lesser) (p : ℕ) (now : Tables) (past : List Moment) (shown : Ped) (time frames : ℕ) → shown ≡ Flash
    → time ≡ signal_time (signal_latched p shown now past) p shown → frames ≡ min (signal_run p shown past) (time + 1)
    → is_clearance_over lesser time frames ≡ told
    → (if told then Dont else Flash) ≡ signal_runs_within lesser p now past shown
flash-follows told lesser p now past Flash time frames e is counted over =
    let whole : is_clearance_over lesser (pedestrian_clear_time (signal_latched p Flash now past) p) (signal_run p Flash past) ≡ told =
    sym (clearance-over lesser (pedestrian_clear_time (signal_latched p Flash now past) p) (signal_run p Flash past)) ∙ (rw (counted, is) at over) in
    rw (← whole) (flash-runs lesser p now past)
flash-follows told lesser p now past Walk time frames e is counted over = cc
flash-follows told lesser p now past Dont time frames e is counted over = cc

-- What one moment more changes of runs and latched times, whatever tables they are of.
use Rattle.std.proofs.Common.{◌≡◌, ◌⊎◌, inl, inr, ℕ, ◌==◌, true, false, if◌then◌else◌, List, ◌∷◌, refl}
use Rattle.std.proofs.lemmas.Bool.{cases_Bool}
use Rattle.sig_types.specs.declared.frame.Colour.{Colour}
use Rattle.sig_types.specs.declared.frame.Colour.TheVariants.{Yellow, Clear, Red}
use Rattle.sig_types.specs.declared.frame.Ped.{Ped}
use Rattle.sig_types.specs.declared.frame.Ped.TheVariants.{Walk, Flash, Dont}
use Rattle.sig_types.specs.Colour.{same_signal, colour_of, signal_of}
use Rattle.sig_tables.specs.declared.tables.Tables.{Tables}
use Rattle.sig_tables.specs.Tables.{yellow_time, red_clear_time, walk_time, pedestrian_clear_time}
use Rattle.sig_tables.specs.Past.{Moment}
use Rattle.sig_tables.specs.Looking.{run, latched, runs_on, signal_run, signal_latched, signal_runs_on}
use Rattle.tick_laws.proofs.Runs.{same-self}

-- a colour that continues keeps its tables; one that comes has those in force
pub latched-goes : (p : ℕ) (c : Colour) (t : Tables) (m : Moment) (past : List Moment) → colour_of m.frame p ≡ c → m.tables ≡ t
    → latched p c t (m ∷ past) ≡ latched p c t past
latched-goes p c t m past e same = rw (e, same-self c, same) refl

pub yellow-goes : (p : ℕ) (t : Tables) (past : List Moment)
    → (((run p Yellow past == yellow_time (latched p Yellow t past) p) ≡ true) × (runs_on p t past Yellow ≡ (if red_clear_time t p == 0 then Red else Clear)))
    ⊎ (((run p Yellow past == yellow_time (latched p Yellow t past) p) ≡ false) × (runs_on p t past Yellow ≡ Yellow))
yellow-goes p t past = elim (cases_Bool (run p Yellow past == yellow_time (latched p Yellow t past) p)) [
  | inl e ↦ inl (e, rw e refl)
  | inr e ↦ inr (e, rw e refl)
]

pub clear-goes : (p : ℕ) (t : Tables) (past : List Moment)
    → (((run p Clear past == red_clear_time (latched p Clear t past) p) ≡ true) × (runs_on p t past Clear ≡ Red))
    ⊎ (((run p Clear past == red_clear_time (latched p Clear t past) p) ≡ false) × (runs_on p t past Clear ≡ Clear))
clear-goes p t past = elim (cases_Bool (run p Clear past == red_clear_time (latched p Clear t past) p)) [
  | inl e ↦ inl (e, rw e refl)
  | inr e ↦ inr (e, rw e refl)
]

same-signal-self : (s : Ped) → same_signal s s ≡ true
same-signal-self Walk = refl
same-signal-self Flash = refl
same-signal-self Dont = refl

pub signal-comes : (p : ℕ) (s x : Ped) (n : Moment) (past : List Moment) → signal_of n.frame p ≡ x → same_signal x s ≡ false → signal_run p s (n ∷ past) ≡ 0
signal-comes p s x n past e f = rw (e, f) refl

pub signal_latched-goes : (p : ℕ) (s : Ped) (t : Tables) (m : Moment) (past : List Moment) → signal_of m.frame p ≡ s → m.tables ≡ t
    → signal_latched p s t (m ∷ past) ≡ signal_latched p s t past
signal_latched-goes p s t m past e same = rw (e, same-signal-self s, same) refl

pub signal_latched-comes : (p : ℕ) (s x : Ped) (t : Tables) (n : Moment) (past : List Moment) → signal_of n.frame p ≡ x → same_signal x s ≡ false
    → signal_latched p s t (n ∷ past) ≡ t
signal_latched-comes p s x t n past e f = rw (e, f) refl

pub walk-goes : (p : ℕ) (t : Tables) (past : List Moment)
    → (((signal_run p Walk past == walk_time (signal_latched p Walk t past) p) ≡ true) ×
    (signal_runs_on p t past Walk ≡ (if pedestrian_clear_time t p == 0 then Dont else Flash)))
    ⊎ (((signal_run p Walk past == walk_time (signal_latched p Walk t past) p) ≡ false) × (signal_runs_on p t past Walk ≡ Walk))
walk-goes p t past = elim (cases_Bool (signal_run p Walk past == walk_time (signal_latched p Walk t past) p)) [
  | inl e ↦ inl (e, rw e refl)
  | inr e ↦ inr (e, rw e refl)
]

pub flash-goes : (p : ℕ) (t : Tables) (past : List Moment)
    → (((signal_run p Flash past == pedestrian_clear_time (signal_latched p Flash t past) p) ≡ true) × (signal_runs_on p t past Flash ≡ Dont))
    ⊎ (((signal_run p Flash past == pedestrian_clear_time (signal_latched p Flash t past) p) ≡ false) × (signal_runs_on p t past Flash ≡ Flash))
flash-goes p t past = elim (cases_Bool (signal_run p Flash past == pedestrian_clear_time (signal_latched p Flash t past) p)) [
  | inl e ↦ inl (e, rw e refl)
  | inr e ↦ inr (e, rw e refl)
]

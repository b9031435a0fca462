-- Goals and limits of times, as the code represents them.
use Rattle.std.specs.Prelude.{ℕ, ◌≡◌, Option, Some, None}
use Rattle.sig_types.specs.declared.frame.Mode.{Mode}
use Rattle.sig_types.specs.declared.frame.Mode.TheVariants.{Seek}
use Rattle.sig_types.specs.declared.phase_set.PhaseSet.{PhaseSet}
use Rattle.sig_types.specs.Phases.{is_in}
use Rattle.sig_tables.specs.declared.tables.Preempt.{Preempt}
use Rattle.sig_tables.specs.declared.tables.Tables.{Tables}
use Rattle.sig_tables.specs.Tables.{listed}
use Rattle.sig_tables.specs.Layout.{Has}
use Rattle.sig_tables.specs.Splits.{coordinated_phases}
use Rattle.sig_tables.specs.Lesser.{Lesser, InFull, AtMost}

-- in Seek the set has the coordinated phases of the pattern; in other modes any set is allowed
abbrev pub AreSought : PhaseSet → Tables → Mode → Type 0
AreSought s t (Seek n) = Has s (is_in (coordinated_phases t n))
AreSought s t _ = Unit {0}

-- the limits of walk and pedestrian clearance as two numbers of ticks; none without limits
abbrev pub ticks_of : Lesser → Option (ℕ × ℕ)
ticks_of InFull = None
ticks_of (AtMost walk clear) = Some (walk, clear)

-- two rows of preempts are the same for the stages
pub record SameStages (a b : Preempt) : Type 0 where
  pub minimum_duration : a.minimum_duration ≡ b.minimum_duration
  pub minimum_green : a.minimum_green ≡ b.minimum_green
  pub minimum_walk : a.minimum_walk ≡ b.minimum_walk
  pub enter_pedestrian_clear : a.enter_pedestrian_clear ≡ b.enter_pedestrian_clear
  pub track_green : a.track_green ≡ b.track_green
  pub dwell_green : a.dwell_green ≡ b.dwell_green
  pub track_phases : listed a.track_phases ≡ listed b.track_phases
  pub dwell_phases : listed a.dwell_phases ≡ listed b.dwell_phases
  pub exit_phases : listed a.exit_phases ≡ listed b.exit_phases

-- What is known of the goals of consistent tables: the phases that a preempt or a pattern brings to Green (preempts
-- after NTCIP 1202; FHWA Signal Timing Manual, coordination).
use Rattle.std.specs.Prelude.{ℕ, ◌≡◌, ◌⊎◌, true, List}
use Rattle.sig_types.specs.Phases.{is_in}
use Rattle.sig_tables.specs.declared.tables.Tables.{Tables}
use Rattle.sig_tables.specs.Tables.{ring_of, is_enabled}
use Rattle.sig_tables.specs.Sides.{are_concurrent, are_of_one_side}
use Rattle.sig_tables.specs.Preempts.{track_set, dwell_set, exit_set}

-- the phases of a goal may be on together: they are enabled and concurrent with each other, at most one in each ring,
-- and all in one barrier group
pub record GoTogether (t : Tables) (goal : List ℕ) : Type 0 where
  pub enabled : (q : ℕ) → is_in goal q ≡ true → is_enabled t q ≡ true
  pub together : (p q : ℕ) → is_in goal p ≡ true → is_in goal q ≡ true → (p ≡ q) ⊎ (are_concurrent t p q ≡ true)
  pub single : (p q : ℕ) → is_in goal p ≡ true → is_in goal q ≡ true → ring_of t p ≡ ring_of t q → p ≡ q
  pub side : (p q : ℕ) → is_in goal p ≡ true → is_in goal q ≡ true → are_of_one_side t p q ≡ true

-- the track clearance phases, the dwell phases and the exit phases of preempt i may each be on together
pub record PreemptFits (t : Tables) (i : ℕ) : Type 0 where
  pub track : GoTogether t (track_set t i)
  pub dwell : GoTogether t (dwell_set t i)
  pub exit : GoTogether t (exit_set t i)

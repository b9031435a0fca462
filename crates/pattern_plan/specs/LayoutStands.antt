-- What a ring layout represents, and how a barrier group is measured.
use Rattle.std.specs.Prelude.{ℕ, ◌≡◌, ◌-◌, List, get_or, if◌then◌else◌}
use Rattle.sig_types.specs.PhaseSet.{phases_of}
use Rattle.sig_tables.specs.declared.tables.Tables.{Tables}
use Rattle.sig_tables.specs.Tables.{is_enabled}
use Rattle.sig_tables.specs.Sides.{are_of_one_side}
use Rattle.sig_tables.specs.Sums.{greatest}
use Rattle.sig_tables.specs.Slots.{slot_end}
use Rattle.sig_tables.specs.Layout.{Has, EachHas}
use Rattle.pattern_plan.specs.declared.ring_layout.RingLayout.{RingLayout}
use Rattle.pattern_plan.specs.declared.side.Side.{Side}

-- the sets of the ring layout are those of its tables
pub record RingLayoutStands (s : RingLayout) : Type 0 where
  pub enabled : Has s.enabled (is_enabled s.tables.now)
  pub sides : EachHas s.sides.now (are_of_one_side s.tables.now)

-- the end of the slot of an enabled phase; 0 for other phases
abbrev pub enabled_end : Tables → ℕ → ℕ → ℕ
enabled_end t n p = if is_enabled t p then slot_end t n p else 0

-- the entry of phase p in a list
abbrev pub at_phase : List ℕ → ℕ → ℕ
at_phase numbers p = get_or numbers (p - 1) 0

-- the barrier group has the greatest of these ends, and the greatest of these clearances, over its phases
pub record Measures (s : Side) (ends clears : List ℕ) : Type 0 where
  pub end : s.end ≡ greatest (at_phase ends) (phases_of s.phases)
  pub clearance : s.clearance ≡ greatest (at_phase clears) (phases_of s.phases)

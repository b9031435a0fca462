-- The options that are stored for the split of a pattern are those of the tables.
use Rattle.std.specs.Prelude.{ℕ, Option, Some, None}
use Rattle.std.specs.Borrow.{Bor}
use Rattle.sig_tables.specs.declared.tables.Tables.{Tables}
use Rattle.sig_tables.specs.Slots.{is_coordinated, is_omitted}
use Rattle.sig_tables.specs.Splits.{split_minimum, split_maximum, split_pedestrian}
use Rattle.sig_tables.specs.Layout.{Has}
use Rattle.pattern_plan.specs.declared.split_options.SplitOptions.{SplitOptions}

-- the sets are those of pattern n: its coordinated phases, the phases that it omits, and those to which it gives
-- minimum, maximum and pedestrian recall
pub record SplitSays (o : SplitOptions) (t : Tables) (n : ℕ) : Type 0 where
  pub coordinated : Has o.coordinated (is_coordinated t n)
  pub omitted : Has o.omitted (is_omitted t n)
  pub minimum : Has o.minimum (split_minimum t n)
  pub maximum : Has o.maximum (split_maximum t n)
  pub pedestrian : Has o.pedestrian (split_pedestrian t n)

-- the options are those of the pattern in effect; without a pattern there are none
abbrev pub AreActivePattern : Option (Bor SplitOptions) → Option ℕ → Tables → Type 0
AreActivePattern None None t = Unit {0}
AreActivePattern (Some o) (Some n) t = SplitSays o.now t n
AreActivePattern None (Some n) t = ⊥
AreActivePattern (Some o) None t = ⊥

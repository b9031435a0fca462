-- The versions of a cabinet's tables so far, and the bounds that they give for the times of each phase.
use Rattle.std.specs.Prelude.{ℕ, ◌≡◌, ◌⊎◌, ◌≤◌, max, true, List, [], ◌∷◌}
use Rattle.sig_tables.specs.declared.tables.Tables.{Tables}
use Rattle.sig_tables.specs.Tables.{is_enabled, walk_time, pedestrian_clear_time, yellow_time, red_clear_time}
use Rattle.sig_tables.specs.Past.{Moment}
use Rattle.coordination_laws.specs.Search.{Greatest}
use Rattle.plan_facts.specs.Greatest.{greatest_time, greatest_clearance, greatest_service, greatest_revert}

-- the tables were in force at one of these moments
abbrev pub IsVersion : Tables → List Moment → Type 0
IsVersion t [] = ⊥
IsVersion t (m ∷ past) = (t ≡ m.tables) ⊎ IsVersion t past

-- the greatest times of phase p so far, and the greatest service, clearance and red revert of the cabinet
abbrev pub greatest_at : List Moment → ℕ → Greatest
greatest_at past p = record {
  walk = greatest_time walk_time p past;
  flash = greatest_time pedestrian_clear_time p past;
  yellow = greatest_time yellow_time p past;
  red = greatest_time red_clear_time p past;
  service = greatest_service past;
  clear = greatest_clearance past;
  revert = max 1 (greatest_revert past);
}

-- each enabled phase has a yellow change of at least one tick
abbrev pub HasYellow : Tables → Type 0
HasYellow t = (p : ℕ) → is_enabled t p ≡ true → 1 ≤ yellow_time t p

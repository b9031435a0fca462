-- What the code stores of the traffic: volumes of at most 4,294,967,295 in a table with eight sections for each
-- period, and the levels of the rules.
use Rattle.std.specs.Prelude.{ℕ, ◌≡◌, ◌+◌, ◌-◌, ◌*◌, ◌==◌, ◌<◌, ◌≤◌, min, if◌then◌else◌, List, [], ◌∷◌, length, get_or}
use Rattle.scenario_data.specs.declared.scenario.Entry.{Entry}
use Rattle.detector_bank.specs.declared.bank.Edge.{Edge}
use Rattle.responsive.specs.Level.{step_to}
use Rattle.field_read.specs.Content.{RuleContent}
use Rattle.field_file.specs.Schedule.{Counted, is_counted, count_of, level_after, pattern_at, entry_at}

-- the volume, or the highest volume that can be stored
abbrev pub kept : ℕ → ℕ
kept n = min n 4294967295

-- the table has the volumes of the sections 1 to 8 in each of this many periods, from these edges
abbrev pub HasVolumes : List ℕ → Counted → ℕ → List Edge → Type 0
HasVolumes table c periods edges =
    (n section : ℕ) → n < periods → 1 ≤ section → section ≤ 8 → get_or table (n * 8 + (section - 1)) 0 ≡ kept (count_of (is_counted c section n) edges)

-- the rule is for one of the eight sections, has at most eight steps, and its thresholds can be stored
pub record RuleStands (r : RuleContent) : Type 0 where
  pub some : 1 ≤ r.section
  pub few : r.section ≤ 8
  pub steps : length r.steps ≤ 8
  pub told : (i : ℕ) → ((step_to r.steps i).up ≤ 4294967295) × ((step_to r.steps i).down ≤ 4294967295)

abbrev pub RulesStand : List RuleContent → Type 0
RulesStand rules = (k : ℕ) (r : RuleContent) → k < length rules → RuleStands (get_or rules k r)

-- there is one level for each rule, and it is at most the number of the rule's steps
pub record LevelsFit (levels : List ℕ) (rules : List RuleContent) : Type 0 where
  pub count : length levels ≡ length rules
  pub each : (k l : ℕ) (r : RuleContent) → k < length rules → get_or levels k l ≤ length (get_or rules k r).steps

-- these are the levels of the rules after `n` periods
abbrev pub AreLevels : List ℕ → Counted → List RuleContent → ℕ → Type 0
AreLevels levels c rules n = (k l : ℕ) (r : RuleContent) → k < length rules → get_or levels k l ≡ level_after c (get_or rules k r) n

-- the entry of a rule, if its new level has a different pattern
abbrev pub change_between : ℕ → RuleContent → ℕ → ℕ → List Entry
change_between second rule before now = if pattern_at rule now == pattern_at rule before then [] else entry_at second rule (pattern_at rule now) ∷ []

-- The entries of a master's schedule by counted traffic. The volume of a section in each period determines the
-- section's level, and there is an entry whenever its pattern changes. Rounds and cabinets are counted from 1,
-- periods from 0.
use Rattle.std.specs.Prelude.{ℕ, zero, suc, ◌+◌, ◌-◌, ◌*◌, ◌/◌, ◌==◌, ◌&&◌, Bool, if◌then◌else◌, List, [], ◌∷◌, ◌++◌, map, get_or}
use Rattle.scenario_data.specs.declared.scenario.Entry.{Entry}
use Rattle.scenario_data.specs.Content.{ScenarioContent}
use Rattle.master_plan.specs.Schedule.{master_clock}
use Rattle.detector_bank.specs.declared.bank.Edge.{Edge}
use Rattle.responsive.specs.Level.{step_to, level}
use Rattle.field_read.specs.Content.{RuleContent}

-- what is counted: the section of each cabinet, in order, the number of rounds in a period, and the edges
pub record Counted : Type 0 where
  pub sections : List ℕ
  pub period : ℕ
  pub edges : List Edge

-- the section of a cabinet
abbrev pub section_of : List ℕ → ℕ → ℕ
section_of sections cabinet = get_or sections (cabinet - 1) 0

-- the period of a round; this is also the number of full periods that end before the round
abbrev pub period_of : ℕ → ℕ → ℕ
period_of period round = (round - 1) / period

-- the edges are those of a cabinet of this section, in a round of this period
abbrev pub is_counted : Counted → ℕ → ℕ → Edge → Bool
is_counted c section n e = (section_of c.sections e.cabinet == section) && (period_of c.period e.round == n)

-- the sum of the counts of those edges that pass the test
abbrev pub count_of : (Edge → Bool) → List Edge → ℕ
count_of test [] = 0
count_of test (e ∷ edges) = (if test e then e.count else 0) + count_of test edges

-- the volume of a section in a period: the number of edges of its cabinets
abbrev pub volume : Counted → ℕ → ℕ → ℕ
volume c section n = count_of (is_counted c section n) c.edges

-- the level of the rule's section after this many periods
abbrev pub level_after : Counted → RuleContent → ℕ → ℕ
level_after c rule zero = 0
level_after c rule (suc n) = level rule.steps (level_after c rule n) (volume c rule.section n)

-- the pattern of a rule at a level
abbrev pub pattern_at : RuleContent → ℕ → ℕ
pattern_at rule zero = rule.base
pattern_at rule (suc i) = (step_to rule.steps i).pattern

-- the pattern of a rule after this many periods
abbrev pub pattern_after : Counted → RuleContent → ℕ → ℕ
pattern_after c rule n = pattern_at rule (level_after c rule n)

-- the entry that gives the rule's section this pattern, from this second of the day on
abbrev pub entry_at : ℕ → RuleContent → ℕ → Entry
entry_at second rule pattern = record { second = second; section = rule.section; pattern = pattern }

-- the entries with the base pattern of each rule
abbrev pub base_entries : ℕ → List RuleContent → List Entry
base_entries second rules = map (λ rule. entry_at second rule rule.base) rules

-- the entry of a rule after period `n`, if its pattern then changes
abbrev pub change_of : Counted → ℕ → ℕ → RuleContent → List Entry
change_of c second n rule =
    if pattern_after c rule (suc n) == pattern_after c rule n then [] else entry_at second rule (pattern_after c rule (suc n)) ∷ []

-- the entries of these rules after period `n`, in order
abbrev pub changes : Counted → ℕ → ℕ → List RuleContent → List Entry
changes c second n [] = []
changes c second n (rule ∷ rules) = change_of c second n rule ++ changes c second n rules

-- the second of the day at which a round begins, by the master's clock
abbrev pub second_of : ScenarioContent → ℕ → ℕ
second_of s round = master_clock s round / 10

-- the entries up to the first round after `n` periods
abbrev pub entries_behind : ScenarioContent → Counted → List RuleContent → ℕ → List Entry
entries_behind s c rules zero = base_entries (second_of s 1) rules
entries_behind s c rules (suc n) = entries_behind s c rules n ++ changes c (second_of s (suc n * c.period + 1)) n rules

-- the entries of all rounds
abbrev pub entries : ScenarioContent → Counted → List RuleContent → List Entry
entries s c rules = entries_behind s c rules (period_of c.period s.rounds)

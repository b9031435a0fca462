-- The entries by counted traffic are of seconds, sections and patterns that there are.
use Rattle.std.proofs.Common.{◌≤◌, ◌+◌, ◌-◌, ◌*◌, ◌/◌, ◌%◌, ◌==◌, ℕ, zero, suc, Bool, true, false, if◌then◌else◌, List, [], ◌∷◌, arith}
use Rattle.scenario_data.specs.Content.{ScenarioContent}
use Rattle.responsive.specs.declared.Step.{Step}
use Rattle.responsive.specs.Level.{step_to}
use Rattle.field_read.specs.Content.{RuleContent}
use Rattle.field_file.specs.Schedule.{Counted, pattern_at, pattern_after, entry_at, base_entries, change_of, changes, second_of, entries_behind, entries, period_of}
use Rattle.field_file.proofs.Every.{Every, every-append}
use Rattle.field_file.proofs.Listed.{IsListed}
use Rattle.field_file.proofs.Ranges.{StepInRange, RuleInRange}

step-pattern : (steps : List Step) → Every StepInRange steps → (i : ℕ) → (step_to steps i).pattern ≤ 255
step-pattern [] h i = omega arith
step-pattern (s ∷ steps) h zero = h.0.pattern
step-pattern (s ∷ steps) h (suc i) = step-pattern steps h.1 i

pattern-in : (rule : RuleContent) → RuleInRange rule → (l : ℕ) → pattern_at rule l ≤ 255
pattern-in rule h zero = h.base
pattern-in rule h (suc i) = step-pattern rule.steps h.steps i

tenth : (n : ℕ) → (n % 864000) / 10 ≤ 86399
tenth n = omega arith

second-in : (s : ScenarioContent) (round : ℕ) → second_of s round ≤ 86399
second-in s round = tenth (s.master.clock + (round - 1) * s.ticks)

entry-in : (second : ℕ) (rule : RuleContent) (pattern : ℕ) → second ≤ 86399 → RuleInRange rule → pattern ≤ 255 → IsListed (entry_at second rule pattern)
entry-in second rule pattern a h b = record { second = a; some = h.some; few = h.few; pattern = b }

bases-in : (second : ℕ) (rules : List RuleContent) → second ≤ 86399 → Every RuleInRange rules → Every IsListed (base_entries second rules)
bases-in second [] a h = tt
bases-in second (rule ∷ rules) a h = (entry-in second rule rule.base a h.0 h.0.base, bases-in second rules a h.1)

change-in : (c : Counted) (second n : ℕ) (rule : RuleContent) → second ≤ 86399 → RuleInRange rule → Every IsListed (change_of c second n rule)
change-in c second n rule a h = from (pattern_after c rule (suc n) == pattern_after c rule n)
  where
    from : (b : Bool) → Every IsListed (if b then [] else entry_at second rule (pattern_after c rule (suc n)) ∷ [])
    from true = tt
    from false = (entry-in second rule (pattern_after c rule (suc n)) a h (pattern-in rule h _), tt)

changes-in : (c : Counted) (second n : ℕ) (rules : List RuleContent) → second ≤ 86399 → Every RuleInRange rules → Every IsListed (changes c second n rules)
changes-in c second n [] a h = tt
changes-in c second n (rule ∷ rules) a h = every-append IsListed (change_of c second n rule) (changes c second n rules) (change-in c second n rule a h.0) (changes-in c second n rules a h.1)

behind-in : (s : ScenarioContent) (c : Counted) (rules : List RuleContent) (n : ℕ) → Every RuleInRange rules → Every IsListed (entries_behind s c rules n)
behind-in s c rules zero h = bases-in (second_of s 1) rules (second-in s 1) h
behind-in s c rules (suc n) h =
    every-append IsListed (entries_behind s c rules n) _ (behind-in s c rules n h) (changes-in c (second_of s (suc n * c.period + 1)) n rules (second-in s (suc n * c.period + 1)) h)

pub entries-in : (s : ScenarioContent) (c : Counted) (rules : List RuleContent) → Every RuleInRange rules → Every IsListed (entries s c rules)
entries-in s c rules h = behind-in s c rules (period_of c.period s.rounds) h

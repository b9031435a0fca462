use Rattle.std.proofs.Common.{◌≡◌, ◌<◌, ◌≤◌, ◌++◌, ℕ, suc, map, drop, get_or}
use Rattle.field_read.specs.Content.{RuleContent, rule_content}
use Rattle.field_file.specs.Schedule.{Counted, level_after, changes}
use Rattle.field_file.specs.Counting.{HasVolumes, LevelsFit, AreLevels}
use Rattle.field_file.proofs.schedule.follow_all.Given as goal

-- the rules before this one have taken the period, and the others are still to come
abbrev pub invariant-loop-k : goal.invariant-loop-k
invariant-loop-k l = record {
  fit : LevelsFit l.levels.items (map rule_content l.rules.items);
  done : (c : Counted) (periods : ℕ) → l.n < periods → HasVolumes l.table.items c periods c.edges → AreLevels l.fn.levels.items c (map rule_content l.rules.items) l.n
      → (k d : ℕ) (r : RuleContent) → k < l.k → get_or l.levels.items k d ≡ level_after c (get_or (map rule_content l.rules.items) k r) (suc l.n);
  rest : (k d : ℕ) → l.k ≤ k → get_or l.levels.items k d ≡ get_or l.fn.levels.items k d;
  entries : (c : Counted) (periods : ℕ) → l.n < periods → HasVolumes l.table.items c periods c.edges → AreLevels l.fn.levels.items c (map rule_content l.rules.items) l.n
      → l.entries.items ++ changes c l.second l.n (drop l.k (map rule_content l.rules.items)) ≡ l.fn.entries.items ++ changes c l.second l.n (map rule_content l.rules.items);
}

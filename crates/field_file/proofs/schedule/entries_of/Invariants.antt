use Rattle.std.proofs.Common.{◌≡◌, map}
use Rattle.scenario_data.specs.Content.{scenario_content}
use Rattle.field_read.specs.Content.{rule_content}
use Rattle.field_file.specs.Schedule.{entries_behind}
use Rattle.field_file.specs.Counting.{LevelsFit, AreLevels}
use Rattle.field_file.proofs.Leveling.{counted_from}
use Rattle.field_file.proofs.schedule.entries_of.Given as goal

-- the periods so far were taken
abbrev pub invariant-loop-n : goal.invariant-loop-n
invariant-loop-n l = record {
  fit : LevelsFit l.levels.items (map rule_content l.respond.sections.items);
  levels : AreLevels l.levels.items (counted_from (scenario_content l.scenario) l.respond.period l.edges.items) (map rule_content l.respond.sections.items) l.n;
  entries : l.found.items ≡ entries_behind (scenario_content l.scenario) (counted_from (scenario_content l.scenario) l.respond.period l.edges.items) (map rule_content l.respond.sections.items) l.n;
}

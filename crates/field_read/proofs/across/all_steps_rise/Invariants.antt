use Rattle.std.proofs.Common.{◌≡◌, [], map}
use Rattle.field_read.specs.Content.{rule_content}
use Rattle.field_read.specs.Checks.{upto, rule_step_faults}
use Rattle.field_read.proofs.across.all_steps_rise.Given as goal

-- the steps of the rules before this one fit
abbrev pub invariant-loop-section : goal.invariant-loop-section
invariant-loop-section l = upto (rule_step_faults (map rule_content l.rules.items)) l.section ≡ []

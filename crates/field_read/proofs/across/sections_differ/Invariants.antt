use Rattle.std.proofs.Common.{◌≡◌, [], map}
use Rattle.field_read.specs.Content.{rule_content}
use Rattle.field_read.specs.Checks.{upto, section_fault}
use Rattle.field_read.proofs.across.sections_differ.Given as goal

-- the rules before this one are of different sections
abbrev pub invariant-loop-place : goal.invariant-loop-place
invariant-loop-place l = upto (section_fault (map rule_content l.rules.items)) l.place ≡ []

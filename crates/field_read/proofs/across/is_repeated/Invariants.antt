use Rattle.std.proofs.Common.{◌≡◌, false, map}
use Rattle.field_read.specs.Content.{rule_content}
use Rattle.field_read.specs.Checks.{any_below, has_section}
use Rattle.field_read.proofs.across.is_repeated.Given as goal

-- none of the rules before this one is of the section
abbrev pub invariant-loop-before : goal.invariant-loop-before
invariant-loop-before l = any_below (has_section (map rule_content l.rules.items) l.section) l.before ≡ false

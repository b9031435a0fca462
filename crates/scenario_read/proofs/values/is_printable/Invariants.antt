use Rattle.std.proofs.Common.{◌≡◌, drop}
use Rattle.scenario_read.specs.Kinds.{all_printable}
use Rattle.scenario_read.proofs.values.is_printable.Given as goal

-- the characters so far are printable
abbrev pub invariant-loop-octet : goal.invariant-loop-octet
invariant-loop-octet l = all_printable l.text ≡ all_printable (drop l.octet-index l.text)

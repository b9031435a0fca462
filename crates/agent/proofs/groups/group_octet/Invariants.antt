use Rattle.std.proofs.Common.{◌≡◌, ◌+◌, ◌-◌, ◌*◌, ◌^◌, ◌<◌}
use Rattle.agent.specs.Groups.{counts_in, bits}
use Rattle.agent.proofs.groups.group_octet.Given as goal

abbrev pub invariant-loop-above : goal.invariant-loop-above
invariant-loop-above l = record {
  octet : l.octet ≡ bits (counts_in l.shown l.column) l.above (8 * l.group + 1 - l.above);
  small : l.octet < 2 ^ l.above;
}

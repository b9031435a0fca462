use Rattle.std.proofs.Common.{◌≡◌, ◌++◌, map, drop}
use Rattle.std.specs.Prelude.{decimal}
use Rattle.message_lines.specs.Words.{each_behind}
use Rattle.message_lines.proofs.words.later_arcs.Given as goal

abbrev pub invariant-loop-arc : goal.invariant-loop-arc
invariant-loop-arc l = l.out.items ++ each_behind 46 (map decimal (drop l.arc-index l.arcs)) ≡ l.initial.out.items ++ each_behind 46 (map decimal l.arcs)

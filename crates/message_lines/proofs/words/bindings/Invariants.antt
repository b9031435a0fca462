use Rattle.std.proofs.Common.{◌≡◌, ◌++◌, map, drop}
use Rattle.message_lines.specs.Words.{each_behind, binding_word}
use Rattle.message_lines.proofs.words.bindings.Given as goal

abbrev pub invariant-loop-bind : goal.invariant-loop-bind
invariant-loop-bind l = l.out.items ++ each_behind 32 (map binding_word (drop l.bind-index l.binds)) ≡ l.initial.out.items ++ each_behind 32 (map binding_word l.binds)

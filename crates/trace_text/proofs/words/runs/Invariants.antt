use Rattle.std.proofs.Common.{◌≡◌, ◌++◌, map, drop}
use Rattle.trace_text.specs.Texts.{run_word}
use Rattle.trace_text.specs.Words.{spaced}
use Rattle.trace_text.proofs.words.runs.Given as goal

abbrev pub invariant-loop-run : goal.invariant-loop-run
invariant-loop-run l = l.out.items ++ spaced (map run_word (drop l.run-index l.runs)) ≡ l.initial.out.items ++ spaced (map run_word l.runs)

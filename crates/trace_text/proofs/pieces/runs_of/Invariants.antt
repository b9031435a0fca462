use Rattle.std.proofs.Common.{map}
use Rattle.trace_text.proofs.Journals.{RunsSoFar}
use Rattle.trace_text.proofs.pieces.runs_of.Given as goal

abbrev pub invariant-loop-word : goal.invariant-loop-word
invariant-loop-word l = RunsSoFar (map (λ word. word.now) l.words) l.runs.items l.before l.word-index

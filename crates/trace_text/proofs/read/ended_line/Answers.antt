use Rattle.std.proofs.Common.{None, Some, [], ◌∷◌}
use Rattle.std.proofs.lemmas.Bool.Decides.{Decides-eqb}
use Rattle.std.proofs.lemmas.Slice.Eq.{strip_suffix_is}
use Rattle.trace_text.proofs.Ends.{none_ended, reads_ended}
use Rattle.trace_text.proofs.Reading.{ok_then}
use Rattle.trace_text.proofs.read.ended_line.Goals as goal

pub returns-in-None : goal.returns-in-None
returns-in-None c = none_ended _ (strip_suffix_is Decides-eqb c.args.bytes.now (10 ∷ []) None c.in-None.ensures.cases)

pub returns-in-Some : goal.returns-in-Some
returns-in-Some c = ok_then _ _ (reads_ended _ _ (strip_suffix_is Decides-eqb c.args.bytes.now (10 ∷ []) (Some c.in-Some.line) c.in-Some.ensures.cases)) _ c.unended_line.ensures

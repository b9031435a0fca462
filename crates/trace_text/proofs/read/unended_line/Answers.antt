use Rattle.std.proofs.Common.{None, Some, [], ◌∷◌}
use Rattle.std.proofs.lemmas.Bool.Decides.{Decides-eqb}
use Rattle.std.proofs.lemmas.Slice.Eq.{strip_prefix_is}
use Rattle.trace_text.proofs.Ends.{reads_worded}
use Rattle.trace_text.proofs.Reading.{ok_then}
use Rattle.trace_text.proofs.read.unended_line.Goals as goal

pub returns-in-None : goal.returns-in-None
returns-in-None c = ok_then _ _ (reads_worded _ (strip_prefix_is Decides-eqb c.args.bytes.now (83 ∷ 32 ∷ []) None c.in-None.ensures.cases)) _ c.worded_line.ensures

pub returns-in-Some : goal.returns-in-Some
returns-in-Some c = rw (strip_prefix_is Decides-eqb c.args.bytes.now (83 ∷ 32 ∷ []) (Some c.in-Some.json) c.in-Some.ensures.cases) c.scenario.ensures

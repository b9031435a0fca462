use Rattle.std.proofs.Common.{◌∙◌, arith}
use Rattle.trace_writer.proofs.Writing.{appends_more}
use Rattle.trace_writer.proofs.piece.put_all.Goals as goal

pub loop-rest-preserved : goal.loop-rest-preserved
loop-rest-preserved g c = record {
  split = appends_more _ _ _ _ _ _ c.loop-rest.invariant.split c.in-Ok.ensures.ok;
  same = λ is. c.in-Ok.ensures.exact is ∙ c.loop-rest.invariant.same is;
  kept = omega (arith, c.loop-rest.invariant.kept, c.in-Ok.ensures.kept);
}

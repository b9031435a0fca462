use Rattle.std.proofs.Common.{All, sym, subst, arith}
use Rattle.std.proofs.lemmas.Grind.{common_steps}
use Rattle.std.proofs.lemmas.List.Elements.{All-push}
use Rattle.agent.specs.Downloads.{IsPut}
use Rattle.agent.proofs.downloads.puts_in.Goals as goal

pub loop-bind-preserved : goal.loop-bind-preserved
loop-bind-preserved c = record {
  count = grind (arith, common_steps);
  goes = grind (arith, common_steps);
  fit = subst (All IsPut) (sym c.push.ensures.items) (All-push IsPut c.loop-bind.puts.items c.in-Ok.put c.loop-bind.invariant.fit (rw c.in-Ok.is at c.put_in.ensures.fit));
}

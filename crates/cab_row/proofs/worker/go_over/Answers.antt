use Rattle.std.proofs.lemmas.List.Elements.{All-set}
use Rattle.cab_row.specs.Passes.{IsPassOf}
use Rattle.cab_row.proofs.worker.go_over.Goals as goal

pub loop-k-preserved : goal.loop-k-preserved
loop-k-preserved g c = let i = c.loop-k.invariant in ((All-set (IsPassOf g.row.B.coded.code g.B.Logged.left_of c.args.row.now) c.loop-k.worker.passes.items c.loop-k.k c.act_on.new.pass c.act_on.ensures.0 i.0.0, i.0.1), i.1)

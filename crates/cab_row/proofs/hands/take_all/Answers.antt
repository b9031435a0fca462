use Rattle.std.proofs.Common.{sym, ◌∙◌, subst, arith, All}
use Rattle.std.proofs.lemmas.List.Elements.{All-push}
use Rattle.cab_row.specs.Passes.{IsPassOf}
use Rattle.cab_row.proofs.Closes.{all_front}
use Rattle.cab_row.proofs.hands.take_all.Goals as goal

pub loop-pass-preserved : goal.loop-pass-preserved
loop-pass-preserved g c = let P = IsPassOf g.row.B.coded.code g.B.Logged.left_of c.args.row.now in let i = c.loop-pass.invariant in let e = c.in-Some.ensures in
    let t = all_front P c.pop.new.self.items c.in-Some.pass (subst (All P) e.items i.0) in (
      t.0,
      subst (All P) (sym c.push_reserved.ensures.items) (All-push P c.loop-pass.list.items c.in-Some.pass i.1 t.1),
      omega (arith, i.2, e.len, c.push_reserved.ensures.len),
      c.push_reserved.ensures.capacity ∙ i.3,
    )

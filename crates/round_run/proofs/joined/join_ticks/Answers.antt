use Rattle.std.proofs.Common.{refl, arith}
use Rattle.round_run.proofs.Sharing.{undone-none, undone-more, undone-all}
use Rattle.round_run.proofs.joined.join_ticks.Goals as goal

pub loop-k-init : goal.loop-k-init
loop-k-init c = record { undone = undone-none c.args.books.now.items; room = refl }

pub loop-k-preserved : goal.loop-k-preserved
loop-k-preserved c = record {
  undone = undone-more c.args.books.now.items c.loop-k.books.items c.loop-k.k c.index_mut.result.now c.join_ticks.new.self (omega arith)
      c.loop-k.invariant.undone c.index_mut.ensures.value c.join_ticks.ensures.undone;
  room = c.loop-k.invariant.room;
}

pub returns : goal.returns
returns c = record {
  undone = λ parts first fresh shared. undone-all parts first c.args.books.now.items c.loop-k.books.items c.loop-k.k (omega arith) c.loop-k.invariant.undone fresh shared;
  room = c.loop-k.invariant.room;
}

use Rattle.std.proofs.Common.{refl, arith}
use Rattle.round_run.proofs.Sharing.{shared-none, shared-fresh, shared-more, shared-all, all-fresh, all-small}
use Rattle.round_run.proofs.joined.share_ticks.Goals as goal

pub loop-k-init : goal.loop-k-init
loop-k-init c = record { shared = shared-none c.args.parts c.args.books.now.items; room = refl }

pub share-requires : goal.share-requires
share-requires c = record {
  fresh = shared-fresh c.args.parts c.args.books.now.items c.loop-k.books.items c.loop-k.k c.index_mut.result.now (omega arith) c.loop-k.invariant.shared
      c.index_mut.ensures.value c.requires.fresh;
  parts = c.requires.parts;
}

pub loop-k-preserved : goal.loop-k-preserved
loop-k-preserved c = record {
  shared = shared-more c.args.parts c.args.books.now.items c.loop-k.books.items c.loop-k.k c.index_mut.result.now c.share.new.self (omega arith)
      c.loop-k.invariant.shared c.index_mut.ensures.value
      (record { parts_are = c.share.ensures.parts; shares = c.share.ensures.shares; above = c.share.ensures.above });
  room = c.loop-k.invariant.room;
}

pub returns : goal.returns
returns c =
    let so = shared-all c.args.parts c.args.books.now.items c.loop-k.books.items c.loop-k.k (omega arith) c.loop-k.invariant.shared in
    record {
      shared = so;
      fresh = all-fresh c.args.parts c.args.books.now.items c.loop-k.books.items so c.requires.fresh;
      small = all-small c.args.parts c.args.books.now.items c.loop-k.books.items so c.requires.fresh c.requires.small;
      room = c.loop-k.invariant.room;
    }

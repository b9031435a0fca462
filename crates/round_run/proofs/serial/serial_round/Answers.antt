use Rattle.std.proofs.Common.{refl, arith}
use Rattle.round_run.proofs.InSerial.{run-none, run-more, run-whole, run-ticks, run-finishes}
use Rattle.round_run.proofs.serial.serial_round.Goals as goal

pub loop-k-init : goal.loop-k-init
loop-k-init c = record { run = run-none c.args.books.now.items; room = refl }

pub loop-k-preserved : goal.loop-k-preserved
loop-k-preserved c = record {
  run = run-more c.args.books.now.items c.loop-k.books.items c.loop-k.k c.index_mut.result.now c.bring_round.new.book (omega arith)
      c.loop-k.invariant.run c.index_mut.ensures.value (record {
        run = c.bring_round.ensures.run;
        finishes = c.bring_round.ensures.finishes;
        ticks = c.bring_round.ensures.ticks;
      });
  room = c.loop-k.invariant.room;
}

pub returns-clause-run : goal.returns-clause-run
returns-clause-run c = λ s ts have. run-whole s ts c.args.books.now.items c.loop-k.books.items c.loop-k.k (omega arith) c.loop-k.invariant.run have

pub returns-clause-ticks : goal.returns-clause-ticks
returns-clause-ticks c = λ most few. run-ticks c.args.books.now.items c.loop-k.books.items c.loop-k.k most (omega arith) c.loop-k.invariant.run few

pub returns-clause-finishes : goal.returns-clause-finishes
returns-clause-finishes c = run-finishes c.args.books.now.items c.loop-k.books.items c.loop-k.k (omega arith) c.loop-k.invariant.run

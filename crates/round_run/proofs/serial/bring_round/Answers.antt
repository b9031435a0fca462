use Rattle.std.proofs.Common.{◌∙◌, subst, arith}
use Rattle.sig_types.specs.Passes.{number_of}
use Rattle.cab_book.proofs.Numbers.{number-brought}
use Rattle.round_run.proofs.InSerial.{BringsAll, joined-first, brought-none, brought-more, brought-whole, finished-none, finished-more, finished-whole}
use Rattle.round_run.proofs.serial.bring_round.Goals as goal

pub loop-pass-init : goal.loop-pass-init
loop-pass-init c =
    let e = c.join_ticks.ensures in
    let new = c.join_ticks.new.self in
    record {
      brought = λ s cab t run. brought-none s cab t new (joined-first s cab t c.args.book.now new e.stands e.streams e.journal e.one run);
      finished = finished-none c.args.book.now new e.stands e.streams e.one;
      ticks = e.ticks;
    }

pub loop-pass-preserved : goal.loop-pass-preserved
loop-pass-preserved c =
    let own : BringsAll c.loop-pass.book c.bring_all.new.book (number_of c.of_pass.result) = record {
      stands = c.bring_all.ensures.stands;
      streams = c.bring_all.ensures.streams;
      journal = c.bring_all.ensures.journal;
      own = c.bring_all.ensures.own;
      others = c.bring_all.ensures.others;
    } in
    let brings : BringsAll c.loop-pass.book c.bring_all.new.book c.loop-pass.pass =
    subst (BringsAll c.loop-pass.book c.bring_all.new.book) (number-brought c.loop-pass.pass c.of_pass.result (omega arith) c.of_pass.ensures) own in
    record {
      brought = λ s cab t run. brought-more s cab t c.loop-pass.pass c.loop-pass.book c.bring_all.new.book (omega arith) brings
          (c.loop-pass.invariant.brought s cab t run);
      finished = finished-more c.args.book.now c.loop-pass.book c.bring_all.new.book c.loop-pass.pass (omega arith) brings c.loop-pass.invariant.finished;
      ticks = c.bring_all.ensures.ticks ∙ c.loop-pass.invariant.ticks;
    }

pub returns-clause-run : goal.returns-clause-run
returns-clause-run c = λ s cab t run. brought-whole s cab t c.loop-pass.pass c.loop-pass.book (omega arith) (c.loop-pass.invariant.brought s cab t run)

pub returns-clause-finishes : goal.returns-clause-finishes
returns-clause-finishes c = finished-whole c.args.book.now c.loop-pass.book c.loop-pass.pass (omega arith) c.loop-pass.invariant.ticks c.loop-pass.invariant.finished

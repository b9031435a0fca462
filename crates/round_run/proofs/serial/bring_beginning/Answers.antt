use Rattle.std.proofs.Common.{refl, subst, arith}
use Rattle.sig_types.specs.Passes.{number_of}
use Rattle.cab_book.proofs.Numbers.{number-brought}
use Rattle.round_run.proofs.InSerial.{BringsAll, brought-none, brought-more, brought-beginning, begun-more}
use Rattle.round_run.proofs.serial.bring_beginning.Goals as goal

pub loop-pass-init : goal.loop-pass-init
loop-pass-init c = record {
  brought = λ s cab t run. brought-none s cab t c.args.book.now run;
  begun = record { streams = refl; none = λ p below. absurd (omega (arith, below)); others = λ p above. refl; ticks = refl };
}

pub loop-pass-preserved : goal.loop-pass-preserved
loop-pass-preserved c =
    let own : BringsAll c.loop-pass.book c.bring_all.new.book (number_of c.of_pass.result) = record {
      stands = c.bring_all.ensures.stands;
      streams = c.bring_all.ensures.streams;
      journal = c.bring_all.ensures.journal;
      own = c.bring_all.ensures.own;
      others = c.bring_all.ensures.others;
    } in
    let brings : BringsAll c.loop-pass.book c.bring_all.new.book c.loop-pass.pass =
    subst (BringsAll c.loop-pass.book c.bring_all.new.book) (number-brought c.loop-pass.pass c.of_pass.result (omega arith) c.of_pass.ensures) own in
    record {
      brought = λ s cab t run. brought-more s cab t c.loop-pass.pass c.loop-pass.book c.bring_all.new.book (omega arith) brings
          (c.loop-pass.invariant.brought s cab t run);
      begun = begun-more c.args.book.now c.loop-pass.book c.bring_all.new.book c.loop-pass.pass brings c.bring_all.ensures.ticks c.loop-pass.invariant.begun;
    }

pub returns : goal.returns
returns c =
    let begun = c.loop-pass.invariant.begun in
    record {
      run = λ s cab t run. brought-beginning s cab t c.loop-pass.pass c.loop-pass.book (omega arith) (c.loop-pass.invariant.brought s cab t run);
      streams = begun.streams;
      none = λ pass below. begun.none pass (omega (arith, below));
      others = λ pass above. begun.others pass (omega (arith, above));
      ticks = begun.ticks;
    }

use Rattle.std.proofs.Common.{length-set, arith}
use Rattle.sig_types.specs.declared.frame.Colour.TheVariants.{Green}
use Rattle.trace_text.specs.Texts.{colour_letter}
use Rattle.trace_text.proofs.Reading.{none_reads}
use Rattle.trace_text.proofs.Letters.{none_letters, one_more_letter, some_letters, colours_apart}
use Rattle.trace_text.proofs.signs.colours_of.Goals as goal

pub returns-in-None : goal.returns-in-None
returns-in-None c = none_letters colour_letter Green _ c.loop-p.p c.loop-p-test.true (λ x e. none_reads c.in-None.ensures x tt e)

pub loop-p-preserved : goal.loop-p-preserved
loop-p-preserved c = record {
  sixteen = rw length-set c.loop-p.invariant.sixteen;
  same = one_more_letter colour_letter Green _ _ c.loop-p.p _ (omega arith) c.loop-p.invariant.same c.in-Some.ensures.value.1;
}

pub returns : goal.returns
returns c = some_letters colour_letter Green _ colours_apart _ c.if-word-ne16.false c.loop-p.invariant.sixteen (λ k low. c.loop-p.invariant.same k (omega arith))

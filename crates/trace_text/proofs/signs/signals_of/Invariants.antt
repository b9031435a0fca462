use Rattle.std.proofs.Common.{◌≡◌, length}
use Rattle.sig_types.specs.declared.frame.Ped.TheVariants.{Walk}
use Rattle.trace_text.specs.Texts.{signal_letter}
use Rattle.trace_text.proofs.Letters.{SameLetters}
use Rattle.trace_text.proofs.signs.signals_of.Given as goal

abbrev pub invariant-loop-p : goal.invariant-loop-p
invariant-loop-p l = record {
  sixteen : length l.ped ≡ 16;
  same : SameLetters signal_letter Walk l.word l.ped l.p;
}

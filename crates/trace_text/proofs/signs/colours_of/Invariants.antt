use Rattle.std.proofs.Common.{◌≡◌, length}
use Rattle.sig_types.specs.declared.frame.Colour.TheVariants.{Green}
use Rattle.trace_text.specs.Texts.{colour_letter}
use Rattle.trace_text.proofs.Letters.{SameLetters}
use Rattle.trace_text.proofs.signs.colours_of.Given as goal

abbrev pub invariant-loop-p : goal.invariant-loop-p
invariant-loop-p l = record {
  sixteen : length l.veh ≡ 16;
  same : SameLetters colour_letter Green l.word l.veh l.p;
}

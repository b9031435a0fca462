use Rattle.std.proofs.Common.{◌≡◌, ◌≤◌, drop}
use Rattle.std.specs.Str.{all_ascii_digits}
use Rattle.trace_text.proofs.DigitTexts.{read_on}
use Rattle.trace_text.proofs.numbers.number.Given as goal

abbrev pub invariant-loop-digit : goal.invariant-loop-digit
invariant-loop-digit l = record {
  within : l.n ≤ l.max;
  value : read_on l.n (drop l.digit-index l.word) ≡ read_on 0 l.word;
  digits : all_ascii_digits (drop l.digit-index l.word) ≡ all_ascii_digits l.word;
}

use Rattle.promise_cases.proofs.Wrong.{early-refused, old-refused, skipped-refused, other-refused}
use Rattle.promise_cases.proofs.lines_that_are_not_whole.Goals as goal

pub returns : goal.returns
returns c = record {
  early = early-refused;
  old = old-refused;
  skipped = skipped-refused;
  other = other-refused;
}

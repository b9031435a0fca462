use Rattle.promise_cases.proofs.Wrong.{green-refused, zero-refused, in-time, offset-refused}
use Rattle.promise_cases.proofs.moments_that_do_not_meet.Goals as goal

pub returns : goal.returns
returns c = record {
  green = green-refused;
  zero = zero-refused;
  in_time = in-time;
  offset = offset-refused;
  asked = λ h meets. meets;
}

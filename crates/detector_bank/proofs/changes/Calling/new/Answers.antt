use Rattle.std.proofs.Common.{sym, ap, ◌∙◌, ◌*◌, ◌+◌, nat_lt}
use Rattle.detector_bank.proofs.Counting.{zeros}
use Rattle.detector_bank.proofs.Tallying.{tally-none}
use Rattle.detector_bank.proofs.changes.Calling.new.Goals as goal

pub returns : goal.returns
returns c = λ ds detector_states none. record {
  counts = λ k p few small. zeros 1024 (k * 16 + p) 0 ∙ sym (tally-none ds detector_states (k + 1) (p + 1) none);
  sets = λ k p s few small. c.none_called.ensures k (p + 1) s few ∙ ap (λ n. nat_lt 0 n) (sym (tally-none ds detector_states (k + 1) (p + 1) none));
}
